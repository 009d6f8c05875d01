-- The text of a part: digits without a separator between them.
use Rattle.std.proofs.{Common.{◌≡◌, ℕ, suc, ◌+◌, ◌-◌, ◌<◌, ◌≤◌, List, [], ◌∷◌, ◌++◌, length, Option, sym, ◌∙◌, ap, subst, arith, append_assoc, append-nil, rules}, lemmas.{Int.ints, List.{Edits.{length-between, get_or-between}, Concat.flat_map-cons}}, KnownBytes.Appends-nil}
use Rattle.std.specs.{Prelude.{Bool, false, if◌then◌else◌, slice_index, slice_range, EachIndex, ℤ, pos, ◌-ℤ◌}, Io.KnownBytes.Appends}
use Rattle.decimal_digits.specs.{AppendsPrefix.AppendsPrefix, Number.digit}
use Rattle.fixed_decimal.proofs.Calling.{second_of_three}
use Rattle.decimal_format.specs.{Grouping.separates, Symbols.digit_text, Formatted.{FormattedAbsolute, separator_before, separator_after, formatted_down, shown_count, absolute_text}, Parts.{magnitude_of, part_text, AreDigits, IsRun, digits_text, run_text}}
use Rattle.decimal_format.proofs.lemmas.{formatter.Magnitudes.{formatted_down-add, digit_below}, symbols.Rules.steps}

-- the digits of two pieces without a separator between them
regroup : (a d t z : List ℕ) → (a ++ (d ++ [])) ++ ([] ++ (t ++ z)) ≡ a ++ ((d ++ t) ++ z)
regroup a d t z = simp (append_assoc, append-nil)

module _ (f : FormattedAbsolute) where
  abbrev number : ℕ
  number = f.value.number

  abbrev before : ℕ → List ℕ
  before below = separator_before f.symbols (magnitude_of f below)

  abbrev after : ℕ → List ℕ
  after below = separator_after f.symbols f.strategy f.value.hi (magnitude_of f below)

  below_more : (below k : ℕ) → magnitude_of f below -ℤ pos k ≡ magnitude_of f (below + k)
  below_more below k = omega (arith, ints)

  -- a part, and then the next
  part_text-add : (below i j : ℕ) → part_text f below (i + j) ≡ part_text f below i ++ part_text f (below + i) j
  part_text-add below i j = simp (formatted_down-add, below_more)

  part_text-suc : (below n : ℕ) → part_text f below (suc n)
      ≡ (before below ++ (digit_text f.symbols (digit number (magnitude_of f below)) ++ after below))
      ++ part_text f (below + 1) n
  unfolding formatted_down
  part_text-suc below n = simp below_more

  -- the text of digits with no separator between them
  run_is : (below : ℕ) (bytes : List ℕ) → 0 < length bytes → AreDigits f below bytes → IsRun f below (length bytes)
      → part_text f below (length bytes)
      ≡ run_text f.symbols (before below) (after (below + length bytes - 1)) bytes
  unfolding formatted_down
  run_is below [] some digits run = absurd (omega (arith, some))
  run_is below (d ∷ []) some digits run =
      let first : below + 0 ≡ below = omega arith in
      let last : below ≡ below + length (d ∷ []) - 1 = omega arith in
      let here : d - 48 ≡ digit number (magnitude_of f below) = search (rules, arith) in
      part_text-suc below 0
      ∙ (λ i. (before below ++ (digit_text f.symbols (sym here i) ++ after (last i))) ++ [])
      ∙ append-nil _
      ∙ ap (λ l. before below ++ (l ++ after (below + length (d ∷ []) - 1)))
      (sym (flat_map-cons (λ byte. digit_text f.symbols (byte - 48)) d [] ∙ append-nil _))
  run_is below (d ∷ (e ∷ es)) some digits run =
      let first : below + 0 ≡ below = omega arith in
      let here : d - 48 ≡ digit number (magnitude_of f below) = search (rules, arith) in
      let next : (k : ℕ) → below + 1 + k ≡ below + (k + 1) = λ k. omega arith in
      let last : below + 1 + length (e ∷ es) - 1 ≡ below + length (d ∷ (e ∷ es)) - 1 = omega arith in
      let end = after (below + length (d ∷ (e ∷ es)) - 1) in
      let none_after : after below ≡ [] = ap after (sym first) ∙ run.none_after 0 (omega arith) in
      let none_before : before (below + 1) ≡ [] = run.none_before 0 (omega arith) in
      let rest = run_is (below + 1) (e ∷ es) (omega arith)
      (λ k h. digits (suc k) (omega (arith, h))
      ∙ ap (λ x. 48 + digit number (magnitude_of f x)) (let step : below + suc k ≡ below + 1 + k = omega arith in step))
      (record {
        none_after = λ k h. ap after (next k) ∙ run.none_after (k + 1) (omega (arith, h));
        none_before = λ k h. ap before (next (k + 1)) ∙ run.none_before (k + 1) (omega (arith, h));
      }) in
      part_text-suc below (suc (length es))
      ∙ (λ i. (before below ++ (digit_text f.symbols (sym here i) ++ none_after i))
      ++ (rest ∙ (λ j. none_before j ++ (digits_text f.symbols (e ∷ es) ++ after (last j)))) i)
      ∙ regroup (before below) (digit_text f.symbols (d - 48)) (digits_text f.symbols (e ∷ es)) end
      ∙ ap (λ l. before below ++ (l ++ end))
      (sym (flat_map-cons (λ byte. digit_text f.symbols (byte - 48)) d (e ∷ es)))

  -- the digits from one to another
  digits_between : (below i j : ℕ) (bytes : List ℕ) → j ≤ length bytes → AreDigits f below bytes
      → AreDigits f (below + i) (slice_range bytes i j)
  digits_between below i j bytes h digits k l = grind (arith, length-between, get_or-between)

  -- the integer digits down to the next separator
  pub integer_run : (below m n : ℕ) → magnitude_of f below ≡ pos m → n ≤ m + 1
      → ((k : ℕ) → k + 1 < n → separates f.strategy f.symbols.sizes f.value.hi (pos (m - k)) ≡ false)
      → IsRun f below n
  integer_run below m n is within none = record {
    none_after = λ k h.
        let at : magnitude_of f (below + k) ≡ pos (m - k) = omega (arith, ints, is, h, within) in
        ap (separator_after f.symbols f.strategy f.value.hi) at
        ∙ ap (λ b. if b then f.symbols.grouping else []) (none k h);
    none_before = search (rules, arith, ints);
  }

  -- the text of the digits from one to another is what a run writes
  pub run_between : (below i n : ℕ) (bytes x y : List ℕ) → 0 < n → i + n ≤ length bytes → AreDigits f below bytes
      → IsRun f (below + i) n → x ≡ before (below + i) → y ≡ after (below + i + n - 1)
      → run_text f.symbols x y (slice_range bytes i (i + n)) ≡ part_text f (below + i) n
  run_between below i n bytes x y some within digits run is_before is_after =
      let run_bytes = slice_range bytes i (i + n) in
      let size : length run_bytes ≡ n = length-between bytes i (i + n) within ∙ (omega arith) in
      (λ k. run_text f.symbols (is_before k) ((is_after ∙ ap (λ l. after (below + i + l - 1)) (sym size)) k) run_bytes)
      ∙ sym (run_is (below + i) run_bytes (omega (arith, size, some)) (digits_between below i (i + n) bytes within
      digits) (subst (IsRun f (below + i)) (sym size) run))
      ∙ ap (part_text f (below + i)) size

  -- the bytes of digits are ASCII digits
  pub ascii_between : (below i j : ℕ) (bytes : List ℕ) → j ≤ length bytes → AreDigits f below bytes
      → EachIndex (slice_range bytes i j)
      (λ k. (48 ≤ slice_index (slice_range bytes i j) k) × (slice_index (slice_range bytes i j) k < 58))
  ascii_between below i j bytes h digits k l = grind (steps, digits_between, digit_below)

  -- the grouping separator after a run of integer digits, or none
  pub after_run : (below m n : ℕ) (b : Bool) → magnitude_of f below ≡ pos m → 0 < n → n ≤ m + 1
      → separates f.strategy f.symbols.sizes f.value.hi (pos (m - (n - 1))) ≡ b
      → (if b then f.symbols.grouping else []) ≡ after (below + n - 1)
  after_run below m n b is some within test = grind (arith, ints)

  -- the digits that `write_digits` writes
  pub digits_from : (below : ℕ) (m : ℤ) (n : ℕ) (bytes : List ℕ) → m ≡ magnitude_of f below → n ≡ number
      → EachIndex bytes (λ k. slice_index bytes k ≡ 48 + digit n (m -ℤ pos k)) → AreDigits f below bytes
  digits_from below m n bytes is same digits = grind (arith, below_more)

  -- the parts up to some magnitudes of a part
  pub part_more : (below i n : ℕ) (a b c : Option (List ℕ)) (x : List ℕ) → x ≡ part_text f (below + i) n
      → Appends a b (part_text f below i) → Appends b c x → Appends a c (part_text f below (i + n))
  part_more below i n a b c x is p q = grind (steps, part_text-add)

  pub part_none : (below : ℕ) (a : Option (List ℕ)) → Appends a a (part_text f below 0)
  unfolding formatted_down
  part_none below a = Appends-nil a

  -- a call failed within a part
  pub part_failed : (below i n count : ℕ) → i + n ≤ count → (a b c : Option (List ℕ)) (x : List ℕ)
      → x ≡ part_text f (below + i) n → Appends a b (part_text f below i) → AppendsPrefix b c x
      → AppendsPrefix a c (part_text f below count)
  part_failed below i n count h a b c x is p q =
      let all : i + (n + (count - (i + n))) ≡ count = omega arith in
      subst (AppendsPrefix a c)
      (ap (λ l. part_text f below i ++ l) (sym (part_text-add (below + i) n (count - (i + n))))
      ∙ sym (part_text-add below i (n + (count - (i + n)))) ∙ ap (part_text f below) all)
      (second_of_three (part_text f below i) (part_text f (below + i) n) _ a b c p (subst (AppendsPrefix b c) is q))

  -- the part of all magnitudes is the text without the sign
  pub whole_part : part_text f 0 (shown_count f.value) ≡ absolute_text f.symbols f.strategy f.value
  whole_part = grind (arith, ints)
