-- The first record of bytes, line by line.
use Rattle.std.proofs.{Common.{◌≡◌, ◌≢◌, ℕ, ◌+◌, ◌-◌, ◌<◌, ◌≤◌, ◌==◌, ◌||◌, if◌then◌else◌, not, Bool, true, false, List, [], ◌∷◌, ◌++◌, length, take, drop, take-append-drop, Option, Some, None, append_assoc, inl, inr, refl, sym, ap, ◌∙◌, arith}, lemmas.{Bool.{cases_eq, ne_eqb, Decides.nat_tests}, Grind.common_steps, List.{append-nil, Sums.sum_by-append}}}
use Rattle.std.specs.{Prelude.{IfSome, IsSomeAnd, nat_lt, count_by, ◌%◌}, Io.{StartsWith, BufRead.{strip_last, take_through, drop_through}}}
use Rattle.cli.proofs.lemmas.lines.Separators.{all_after}
use Rattle.cli.specs.{Fields.{is_quote, are_closed}, Input.IsAppended, Records.{longest_record, ends_record, records_after, records_of}}

-- whether a record of these bytes, the last of which may be a line feed, is whole: it is closed, or too long
abbrev pub is_whole : List ℕ → Bool
is_whole row = are_closed row || nat_lt longest_record (length row)

-- the records of bytes, these of the first one and the others
abbrev pub records_from : List ℕ → List ℕ → List (List ℕ)
records_from row left =
    if is_whole row then strip_last 10 row ∷ records_of left else records_after row left

-- ---- One line more.

strip_feed : (before : List ℕ) → strip_last 10 (before ++ (10 ∷ [])) ≡ before
strip_feed before = grind (arith, common_steps)

closed_feed : (before : List ℕ) → are_closed (before ++ (10 ∷ [])) ≡ are_closed before
closed_feed before = grind (arith, common_steps)

-- a line feed ends a record if this is whole with it
whole_feed : (before : List ℕ) → is_whole (before ++ (10 ∷ [])) ≡ ends_record before
whole_feed before = grind (arith, common_steps, closed_feed)

-- a record begins with its first bytes
nonempty : (row left : List ℕ) → row ≢ [] → row ++ left ≢ []
nonempty [] left some none = some refl
nonempty (x ∷ xs) left some none = cc

-- no byte is left
from_nothing : (row : List ℕ) → row ≢ [] → records_after row [] ≡ records_from row []
from_nothing [] some = absurd (some refl)
from_nothing (x ∷ xs) some = grind (arith, common_steps)

-- a line feed is appended
from_feed : (row xs : List ℕ) → records_after row (10 ∷ xs) ≡ records_from (row ++ (10 ∷ [])) xs
from_feed row xs = rw (whole_feed row, strip_feed row) refl

-- the first line of the bytes is appended
from_line :
    (row bytes : List ℕ) → row ++ bytes ≢ []
    → records_after row bytes ≡ records_from (row ++ take_through 10 bytes) (drop_through 10 bytes)
from_line row [] some = rw append-nil (from_nothing row (λ none. some (append-nil row ∙ none)))
from_line row (x ∷ xs) some =
    elim (cases_eq x 10) [
      | inl is ↦ rw is (from_feed row xs)
      | inr other ↦
          let not_feed = ne_eqb x 10 other in
          let next =
          from_line (row ++ (x ∷ [])) xs (λ none. some (sym (append_assoc row (x ∷ []) xs) ∙ none)) in
          rw not_feed
          (next
          ∙ ap (λ r. records_from r (drop_through 10 xs)) (append_assoc row (x ∷ []) (take_through 10 xs)))
    ]

-- ---- The lines of a record.

-- these lines of the first record of known bytes were read, and the others are left
pub record IsPart (input : Option (List ℕ)) (row : List ℕ) (left : Option (List ℕ)) : Type 0 where
  pub some : row ≢ []
  pub records : IfSome input (λ bytes. IsSomeAnd left (λ rest. records_of bytes ≡ records_from row rest))

-- the first line was read
pub first_line :
    (input : Option (List ℕ)) (row : List ℕ) (left : Option (List ℕ)) → 0 < length row
    → IfSome input (λ bytes. IsAppended true bytes [] row left) → IsPart input row left
first_line None row left long is = record { some = λ none. absurd (omega (arith, ap length none)); records = tt }
first_line (Some bytes) row left long (some, is, rest) = record {
  some = λ none. absurd (omega (arith, ap length none));
  records = rw (rest, is) (from_line [] bytes some);
}

-- one more line was read
pub next_line :
    (input : Option (List ℕ)) (row : List ℕ) (middle : Option (List ℕ)) (next : List ℕ) (left : Option (List ℕ))
    → IsPart input row middle → is_whole row ≡ false → length row < length next
    → IfSome middle (λ bytes. IsAppended true bytes row next left) → IsPart input next left
next_line None row middle next left part unclosed longer is =
    record { some = λ none. absurd (omega (arith, ap length none)); records = tt }
next_line (Some bytes) row None next left part unclosed longer is = absurd part.records
next_line (Some bytes) row (Some middle) next left part unclosed longer (some, is, rest) = record {
  some = λ none. absurd (omega (arith, ap length none));
  records =
      rw (rest, is)
      (rw unclosed at part.records ∙ from_line row middle (nonempty row middle part.some));
}

-- the sum of an odd number and another is even where the other is odd
parity : (all some more : ℕ) → all ≡ some + more → (some % 2 == 0) ≡ false → not (more % 2 == 0) ≡ (all % 2 == 0)
parity all some more is odd = grind (arith, nat_tests)

-- whether a record is closed with the bytes of one more line, where it is not without them
pub closed_more :
    (row next : List ℕ) (start : ℕ) → are_closed row ≡ false → StartsWith next row → start ≡ length row
    → not (are_closed (take (length next - start) (drop start next))) ≡ are_closed next
closed_more row next start unclosed front is =
    let parts : next ≡ row ++ drop (length row) next =
    sym (take-append-drop (length row) next) ∙ ap (λ t. t ++ drop (length row) next) front in
    let quotes : count_by is_quote next ≡ count_by is_quote row + count_by is_quote (drop (length row) next) =
    ap (count_by is_quote) parts ∙ sum_by-append _ row (drop (length row) next) in
    rw (is, all_after (length row) next) (parity _ _ _ quotes unclosed)

-- a record that goes on
pub not_whole : (row : List ℕ) → are_closed row ≡ false → length row ≤ 1048576 → is_whole row ≡ false
not_whole row unclosed short = rw unclosed (grind (arith, nat_tests, short))
