-- The steps of a scan.
use Rattle.std.proofs.{Common.{◌≡◌, ◌≢◌, ℕ, ◌+◌, ◌-◌, ◌<◌, ◌≤◌, ◌==◌, Bool, true, false, ◌&&◌, ◌||◌, List, [], ◌∷◌, ◌++◌, length, refl, sym, ◌∙◌, ap, subst, arith, rules, append_assoc, append-nil, length-append, length-drop, take, drop, take-append-drop, inl, inr}, Math.Bool.{beq, not, and-true, and-false, and_comm}, lemmas.{Bool.{cases_eq, cases_lt, Decides.nat_tests}, Int.ints, List.{append_cancel_left, nil_from_length}}}
use Rattle.std.specs.{Prelude.{if◌then◌else◌, ◌*◌, ◌%◌, ◌^◌, pos, ◌↔◌}, Int.Digits.AllBelowBase}
use Rattle.fixed_decimal.specs.declared.variations.Sign.{Sign}
use Rattle.fixed_decimal.specs.declared.variations.Sign.TheVariants as sign
use Rattle.decimal_format.specs.{declared.grouping.GroupingStrategy.{GroupingStrategy, TheVariants.{Never, Always}}, Symbols.{Symbols, digit_text, sign_affixes}, Grouping.{is_grouped, ends_group}, Readable.{IsReadable, BeginsWithDigit}, Reading.{Numeral, AreDigits, digits_text, fraction_text, absolute_numeral_text, separated_by}, Scanning.{separator_if, separated_if, SkipsSeparator, HasBcd, IsUniform, IsSpelled, ReadsSpelled, ReadsRun, ReadsDigits}}
use Rattle.decimal_format.proofs.lemmas.reader.{Bcd.{below_append, below_first, below_rest, last_none, last_push}, Codes.{same_digit, digit_not_grouping, digit_not_minus, digit_not_plus, plus_not_minus, none_not_decimal, none_not_digit, none_not_grouping}, DigitTexts.{digits_text-nil, digits_text-first, digits_text-cong, digits_text-append, digits_text-run, digits_not_grouping, digits-unique, ends_integer, nil_ends, fraction_ends}}

-- ---- Signs.
pub begins-append : (s : Symbols) (number tail : List ℕ) → BeginsWithDigit s number → BeginsWithDigit s (number ++ tail)
begins-append s number tail begins = grind (arith, append_assoc)

code_shorter : (code bytes after : List ℕ) → ((t : List ℕ) → [] ≢ code ++ t) → bytes ≡ code ++ after
    → length after < length bytes
code_shorter [] bytes after some e = absurd (some [] refl)
code_shorter (x ∷ code) bytes after some e = grind (arith, length-append)

module _ (s : Symbols) (readable : IsReadable s) where
  begins_not_minus : (a b : List ℕ) → BeginsWithDigit s a → a ≢ s.minus.prefix ++ b
  begins_not_minus a b p e = grind (arith, digit_not_minus)

  begins_not_plus : (a b : List ℕ) → BeginsWithDigit s a → a ≢ s.plus.prefix ++ b
  begins_not_plus a b p e = digit_not_plus s readable p.digit p.following b p.is_digit (sym p.is ∙ e)

  -- a text after the prefix of one sign is not one after that of another, if a number begins where no prefix is
  pub sign-unique : (x y : Sign) (a b : List ℕ) → (x ≡ sign.None → BeginsWithDigit s a)
      → (y ≡ sign.None → BeginsWithDigit s b)
      → (sign_affixes s x).prefix ++ a ≡ (sign_affixes s y).prefix ++ b → (x ≡ y) × (a ≡ b)
  sign-unique x y a b p q e = grind (arith, begins_not_minus, begins_not_plus, plus_not_minus, append_cancel_left)

  -- a digit has bytes
  pub shorter : (bytes after : List ℕ) (d : ℕ) → d < 10 → bytes ≡ digit_text s d ++ after → length after < length bytes
  shorter bytes after d below e =
      code_shorter (digit_text s d) bytes after (λ t. none_not_digit s readable d t below) e

  -- and so has the grouping separator
  pub shorter_by_separator : (bytes after : List ℕ) → bytes ≡ s.grouping ++ after → length after < length bytes
  shorter_by_separator bytes after e = code_shorter s.grouping bytes after (none_not_grouping s readable) e

  -- digits have at least one byte each
  text_length : (f : ℕ → Bool) (ds after : List ℕ) → AllBelowBase 10 ds
      → length ds + length after ≤ length (digits_text s f ds ++ after)
  text_length f [] after all = omega (arith, ap (λ l. length (l ++ after)) (digits_text-nil s f))
  text_length f (d ∷ ds) after all =
      grind (arith, shorter, digits_text-first, length-append, (text_length f ds after all.1))

run_length : {s : Symbols} {most : ℕ} {bytes after : List ℕ} {number k : ℕ} → IsReadable s
    → ReadsRun s most bytes after number k → k + length after ≤ length bytes
run_length {s = s} {after = after} readable run = grind (arith, text_length)

-- ---- Digits with separators anywhere.
module _ (s : Symbols) (readable : IsReadable s) (rest : List ℕ) where
  -- the first digit, and the others
  spelled_digit : (after left : List ℕ) (d : ℕ) → d < 10 → rest ≡ digit_text s d ++ after → IsSpelled s rest left
      → (others : List ℕ) × (left ≡ d ∷ others) × IsSpelled s after others
  spelled_digit after left d below e (f, tail, ends, all, true, t) =
      absurd (digit_not_grouping s readable d after _ below (sym e ∙ t))
  spelled_digit after [] d below e (f, tail, ends, all, false, t) =
      absurd (ends.digit d after below (ap (λ l. l ++ tail) (sym (digits_text-nil s f)) ∙ sym t ∙ e))
  spelled_digit after (x ∷ others) d below e (f, tail, ends, all, false, t) =
      grind (arith, same_digit, digits_text-first)

  -- a separator before the digits
  spelled_separator : (after left : List ℕ) → rest ≡ s.grouping ++ after → IsSpelled s rest left
      → IsSpelled s after left
  spelled_separator after left e (f, tail, ends, all, b, t) = grind (arith, append_cancel_left, digits_not_grouping)

  -- where neither follows, there are no digits
  pub spelled_none : ((d : ℕ) (r : List ℕ) → d < 10 → rest ≢ digit_text s d ++ r)
      → ((r : List ℕ) → rest ≢ s.grouping ++ r) → (left : List ℕ) → IsSpelled s rest left → left ≡ []
  spelled_none no_digit no_separator left (f, tail, ends, all, true, t) = absurd (no_separator _ t)
  spelled_none no_digit no_separator [] x = grind arith
  spelled_none no_digit no_separator (x ∷ others) (f, tail, ends, all, false, t) =
      absurd (no_digit x _ all.0 (t ∙ digits_text-first s f x others tail))

  module _ {n k : ℕ} {ds : List ℕ} (read : ReadsSpelled s k rest n k ds) where
    -- one digit more
    pub spelled_push : (after : List ℕ) (d : ℕ) → d < 10 → rest ≡ digit_text s d ++ after
        → ReadsSpelled s (k + 1) after (n * 2 ^ 4 % 2 ^ 64 + d) (k + 1) ds
    spelled_push after d below e =
        let step = spelled_digit after read.others d below e read.spelled in
        record {
          first = read.first ++ d ∷ [];
          others = step.0;
          all = search (rules, arith, append_assoc);
          bcd = last_push n k d read.first below read.bcd;
          at_most = omega arith;
          spelled = step.2;
          ends = λ few. absurd (omega (arith, few));
        }

    -- a separator
    pub spelled_skip : (after : List ℕ) → rest ≡ s.grouping ++ after → ReadsSpelled s k after n k ds
    spelled_skip after e = grind (arith, spelled_separator)

    -- no more digits were to be read, or none follows
    pub spelled_most : (most : ℕ) → k ≤ most → (k < most → (left : List ℕ) → IsSpelled s rest left → left ≡ [])
        → ReadsSpelled s most rest n k ds
    spelled_most most few ends = search (rules, arith)

-- where no fewer digits were to be read, all were
pub spelled_all : {s : Symbols} {most n k : ℕ} {rest ds : List ℕ} → ReadsSpelled s most rest n k ds → length ds ≤ most
    → HasBcd n k ds
spelled_all read few = grind (arith, cases_lt, nil_from_length, length-append, append-nil)

-- digits without separators, and nothing else
pub spelled_plain : (s : Symbols) → IsReadable s → (bytes ds : List ℕ) → AllBelowBase 10 ds
    → bytes ≡ digits_text s (λ _. false) ds → IsSpelled s bytes ds
spelled_plain s readable bytes ds all e =
    let plain = λ (m : ℕ). false in
    (plain, [], nil_ends s readable, all, false, e ∙ sym (append-nil (digits_text s plain ds)))

-- the integer digits of a number
pub spelled_whole : (s : Symbols) → IsReadable s → (f : ℕ → Bool) (w : Numeral) (bytes : List ℕ) → AreDigits w
    → bytes ≡ absolute_numeral_text s f w → IsSpelled s bytes w.whole
spelled_whole s readable f w bytes digits e =
    (f, fraction_text s w.fraction, fraction_ends s readable w.fraction, digits.whole, false, e)

-- all of them are read
pub whole_bcd : (s : Symbols) → IsReadable s → (f : ℕ → Bool) (w : Numeral) (bytes rest : List ℕ) (n k : ℕ)
    → AreDigits w → bytes ≡ absolute_numeral_text s f w → length bytes < 2 ^ 64
    → ((ds : List ℕ) → IsSpelled s bytes ds → ReadsSpelled s (2 ^ 64 - 1) rest n k ds) → HasBcd n k w.whole
whole_bcd s readable f w bytes rest n k digits e few read =
    let most = text_length s readable f w.whole (fraction_text s w.fraction) digits.whole in
    spelled_all (read w.whole (spelled_whole s readable f w bytes digits e)) (omega (arith, ap length e, most, few))

-- ---- Digits that follow each other.
pub run_none : (s : Symbols) (bytes : List ℕ) → ReadsRun s 0 bytes bytes 0 0
run_none s bytes = grind (arith, last_none, digits_text-nil)

-- the text of digits and then of others
text_append : (s : Symbols) (bytes ds rest es after : List ℕ) → bytes ≡ digits_text s (λ _. false) ds ++ rest
    → rest ≡ digits_text s (λ _. false) es ++ after → bytes ≡ digits_text s (λ _. false) (ds ++ es) ++ after
text_append s bytes ds rest es after e more = grind (arith, append_assoc, digits_text-append)

-- one digit more
pub run_push : {s : Symbols} {bytes rest : List ℕ} {n k : ℕ} (after : List ℕ) (d : ℕ) → d < 10
    → rest ≡ digit_text s d ++ after → ReadsRun s k bytes rest n k
    → ReadsRun s (k + 1) bytes after (n * 2 ^ 4 % 2 ^ 64 + d) (k + 1)
run_push {s = s} {bytes = bytes} {rest = rest} {n = n} {k = k} after d below e read =
    let none : ℕ → Bool = λ _. false in
    let one : digits_text s none (d ∷ []) ++ after ≡ digit_text s d ++ after =
    digits_text-first s none d [] after ∙ ap (λ l. digit_text s d ++ (l ++ after)) (digits_text-nil s none) in
    record {
      digits = read.digits ++ d ∷ [];
      bcd = last_push n k d read.digits below read.bcd;
      at_most = omega arith;
      text = text_append s bytes read.digits rest (d ∷ []) after read.text (e ∙ sym one);
      ends = λ few. absurd (omega (arith, few));
    }

-- ---- Chosen magnitudes.
-- the same choice, but for one magnitude
abbrev pub choose : (ℕ → Bool) → ℕ → Bool → ℕ → Bool
choose chosen less b m = if m == less then b else chosen m

choose_here : (chosen : ℕ → Bool) (less : ℕ) (b : Bool) → choose chosen less b less ≡ b
choose_here chosen less b = let t : (less == less) ≡ true = search (rules, arith) in rw t refl

choose_other : (chosen : ℕ → Bool) (less m : ℕ) (b : Bool) → m ≢ less → choose chosen less b m ≡ chosen m
choose_other chosen less m b h = grind (arith, nat_tests)

-- at the magnitudes from `left` to n - 1 the tests are equal
abbrev pub Agree : (ℕ → Bool) → (ℕ → Bool) → ℕ → ℕ → Type 0
Agree f g left n = (m : ℕ) → left ≤ m → m < n → f m ≡ g m

-- only magnitudes that a test allows are chosen
abbrev pub AreAllowed : (ℕ → Bool) → (ℕ → Bool) → Type 0
AreAllowed may f = (m : ℕ) → f m ≡ true → may m ≡ true

allowed_is : (may found : Bool) → (found ≡ true → may ≡ true) → (may && found) ≡ found
allowed_is may found h = grind (arith, h)

both_first : (a b : Bool) → (a && b) ≡ true → a ≡ true
both_first a b h = grind (arith, h)

-- ---- Reading digits in groups.
-- the steps of the two flags
all_step : (flag found possible may : Bool) → possible ≡ may
    → (flag && beq found possible) ≡ true ↔ ((flag ≡ true) × (found ≡ (may && true)))
all_step flag found possible may e = (λ h. (grind (arith, e, h), grind (arith, e, h)), λ h. grind (arith, e, h.0, h.1))

none_step : (flag found may : Bool) → (flag && not found) ≡ true ↔ ((flag ≡ true) × (found ≡ (may && false)))
none_step flag found may = (λ h. (grind (arith, h), grind (arith, h)), λ h. grind (arith, h.0, h.1))

-- these digits were read, with separators after the chosen ones, and `left` more are to follow; a separator is where it
-- may be after all of them, or none; and one that follows was chosen
pub record IsReadTo (s : Symbols) (may : ℕ → Bool) (n : ℕ) (bytes rest : List ℕ) (left : ℕ) (has_all has_none :
    Bool) (digits : List ℕ) : Type 0 where
  pub chosen : ℕ → Bool
  pub allowed : AreAllowed may chosen
  pub count : length digits + left ≡ n
  pub are_digits : AllBelowBase 10 digits
  pub text : bytes ≡ digits_text s (λ m. chosen (m + left)) digits ++ rest
  pub skipped : (after : List ℕ) → rest ≡ s.grouping ++ after → may left ≡ true → chosen left ≡ true
  pub all : has_all ≡ true ↔ Agree chosen (separated_if may (λ _. true)) left n
  pub none : has_none ≡ true ↔ Agree chosen (separated_if may (λ _. false)) left n

-- a flag for each choice says that there is one
either_is : (may chosen : ℕ → Bool) (n : ℕ) (all none : Bool)
    → (all ≡ true ↔ Agree (separated_if may chosen) (separated_if may (λ _. true)) 0 n)
    → (none ≡ true ↔ Agree (separated_if may chosen) (separated_if may (λ _. false)) 0 n)
    → (all || none) ≡ true ↔ IsUniform may chosen n
either_is may chosen n all none p q = grind (arith, p, q)

skipped_is : (s : Symbols) (may b : Bool) (after next rest : List ℕ) → SkipsSeparator s may after next b
    → next ≡ s.grouping ++ rest → may ≡ true → b ≡ true
skipped_is s may b after next rest skips e possible = grind arith

-- digits that no digit follows are not the first of more digits, between which there is no separator
run_fails : (s : Symbols) → IsReadable s → (f : ℕ → Bool) (run ds after tail : List ℕ) (low : ℕ)
    → AllBelowBase 10 run → AllBelowBase 10 ds → low + length run < length ds
    → ((m : ℕ) → low < m → m < length ds → f m ≡ false)
    → ((d : ℕ) (r : List ℕ) → d < 10 → after ≢ digit_text s d ++ r)
    → digits_text s (λ _. false) run ++ after ≢ digits_text s f ds ++ tail
run_fails s readable f run [] after tail low p q fewer inside ends e = absurd (omega (arith, fewer))
run_fails s readable f [] (x ∷ ds) after tail low p q fewer inside ends e =
    grind (arith, digits_text-nil, digits_text-first)
run_fails s readable f (d ∷ run) (x ∷ ds) after tail low p q fewer inside ends e =
    grind (arith, same_digit, digits_text-first, run_fails s readable f run ds after tail low p.1 q.1)

module _ {s : Symbols} {may : ℕ → Bool} {n : ℕ} {bytes : List ℕ} where
  pub read_none : IsReadTo s may n bytes bytes n true true []
  read_none = record {
    chosen = may;
    allowed = λ m h. h;
    count = omega arith;
    are_digits = tt;
    text = ap (λ l. l ++ bytes) (sym (digits_text-nil s (λ m. may (m + n))));
    skipped = λ after e h. h;
    all = (λ h m low high. absurd (omega (arith, low, high)), λ h. refl);
    none = (λ h m low high. absurd (omega (arith, low, high)), λ h. refl);
  }

  -- digits that follow each other were read
  pub read_run : {rest after next digits : List ℕ} {left most number count : ℕ} {all none possible b : Bool}
      → IsReadTo s may n bytes rest left all none digits → (run : ReadsRun s most rest after number count)
      → SkipsSeparator s possible after next b → 0 < most → most ≤ count → most ≤ left
      → ((k : ℕ) → k + 1 < most → may (left - 1 - k) ≡ false) → may (left - 1 - (most - 1)) ≡ possible
      → IsReadTo s may n bytes next (left - most) (all && beq b possible) (none && not b) (digits ++ run.digits)
  read_run {after = after} {next = next} {digits = digits} {left = left} {most = most} {all = all} {none = none}
      {possible = possible} {b = b} so_far run skips some full within never last = record {
        chosen = f;
        allowed = allowed;
        count = omega (arith, size, so_far.count, length-append digits run.digits, within);
        are_digits = below_append digits run.digits so_far.are_digits run.bcd.digits;
        text =
            so_far.text
            ∙ (λ i. digits_text-cong s (λ m. so_far.chosen (m + left)) (λ m. f (m + length run.digits + less)) digits
            same i ++ (run.text ∙ ap (λ l. digits_text s (λ _. false) run.digits ++ l) separator
            ∙ sym (digits_text-run s (λ m. f (m + less)) run.digits next (omega (arith, size, some)) later)) i)
            ∙ sym (append_assoc (digits_text s (λ m. f (m + length run.digits + less)) digits)
            (digits_text s (λ m. f (m + less)) run.digits) next)
            ∙ ap (λ l. l ++ next) (sym (digits_text-append s (λ m. f (m + less)) digits run.digits));
        skipped = λ rest h there. here ∙ skipped_is s possible b after next rest skips h (sym may_less ∙ there);
        all = flag true all _ so_far.all (all_step all b possible (may less) (sym may_less));
        none = flag false none _ so_far.none (none_step none b (may less));
      }
    where
      less : ℕ
      less = left - most

      size : length run.digits ≡ most
      size = omega (arith, run.bcd.count, run.at_most, full)

      f : ℕ → Bool
      f = choose so_far.chosen less b

      may_less : may less ≡ possible
      may_less = ap may (let order : less ≡ left - 1 - (most - 1) = omega (arith, some) in order) ∙ last

      here : f less ≡ b
      here = choose_here so_far.chosen less b

      above : (m : ℕ) → left ≤ m → f m ≡ so_far.chosen m
      above m low = choose_other so_far.chosen less m b (λ e. omega (arith, e, low, some, within))

      inside : (m : ℕ) → less < m → m < left → may m ≡ false
      inside m low high =
          ap may (let back : m ≡ left - 1 - (left - 1 - m) = omega (arith, high) in back)
          ∙ never (left - 1 - m) (omega (arith, low, high))

      between : (m : ℕ) → less < m → m < left → f m ≡ false
      between m low high =
          choose_other so_far.chosen less m b (λ e. omega (arith, e, low))
          ∙ sym (allowed_is (may m) (so_far.chosen m) (so_far.allowed m))
          ∙ ap (λ x. x && so_far.chosen m) (inside m low high)

      allowed : AreAllowed may f
      allowed m h = elim (cases_eq m less) [
        | inl q ↦ ap may q ∙ may_less ∙ skips.allowed (sym here ∙ ap f (sym q) ∙ h)
        | inr q ↦ so_far.allowed m (sym (choose_other so_far.chosen less m b q) ∙ h)
      ]

      same : (m : ℕ) → m < length digits → so_far.chosen (m + left) ≡ f (m + length run.digits + less)
      same m high =
          sym (above (m + left) (omega arith))
          ∙ ap f (let order : m + left ≡ m + length run.digits + less = omega (arith, size, within) in order)

      later : (m : ℕ) → 0 < m → m < length run.digits → f (m + less) ≡ false
      later m low high = between (m + less) (omega (arith, low)) (omega (arith, high, size, within))

      separator : after ≡ separator_if s (f (0 + less)) ++ next
      separator =
          skips.text
          ∙ ap (λ x. separator_if s x ++ next) (sym (ap f (let z : 0 + less ≡ less = omega arith in z) ∙ here))

      -- a flag that says whether the tests agree, down to a lower magnitude
      flag : (t has more : Bool) → (has ≡ true ↔ Agree so_far.chosen (separated_if may (λ _. t)) left n)
          → (more ≡ true ↔ ((has ≡ true) × (b ≡ (may less && t))))
          → more ≡ true ↔ Agree f (separated_if may (λ _. t)) less n
      flag t has more was step = (
        λ on m low high. elim (cases_lt m left) [
          | inr upper ↦ above m upper ∙ was.0 (step.0 on).0 m upper high
          | inl lower ↦ elim (cases_eq m less) [
            | inl q ↦ ap f q ∙ here ∙ (step.0 on).1 ∙ ap (λ x. may x && t) (sym q)
            | inr q ↦
                let past : less < m = omega (arith, low, q) in
                between m past lower ∙ ap (λ x. x && t) (sym (inside m past lower))
          ]
        ],
        λ same. step.1 (
          was.1 (λ m low high. sym (above m low) ∙ same m (omega (arith, low)) high),
          sym here ∙ same less (omega arith) (omega (arith, so_far.count, some, within)),
        ),
      )

  module _ {rest digits : List ℕ} {left : ℕ} {all none : Bool}
      (so_far : IsReadTo s may n bytes rest left all none digits) where
    -- where no more is left to read
    pub read_all : left ≡ 0 → ReadsDigits s may n bytes rest (all || none)
    read_all last = record {
      digits = digits;
      chosen = so_far.chosen;
      count = omega (arith, so_far.count, last);
      are_digits = so_far.are_digits;
      text = search (rules, arith);
      uniform = either_is may so_far.chosen n all none (to_last true all so_far.all) (to_last false none so_far.none);
    }
      where
        same : so_far.chosen ≡ separated_if may so_far.chosen
        same = λ i m. sym (allowed_is (may m) (so_far.chosen m) (so_far.allowed m)) i

        to_last : (t flag : Bool) → (flag ≡ true ↔ Agree so_far.chosen (separated_if may (λ _. t)) left n)
            → flag ≡ true ↔ Agree (separated_if may so_far.chosen) (separated_if may (λ _. t)) 0 n
        to_last t flag h =
            subst (λ k. flag ≡ true ↔ Agree (separated_if may so_far.chosen) (separated_if may (λ _. t)) k n) last
            (subst (λ f. flag ≡ true ↔ Agree f (separated_if may (λ _. t)) left n) same h)

    module _ (readable : IsReadable s) (none_last : may 0 ≡ false) (chosen : ℕ → Bool) (ds tail : List ℕ)
        (size : length ds ≡ n) (below : AllBelowBase 10 ds)
        (e : bytes ≡ digits_text s (separated_if may chosen) ds ++ tail) where
      abbrev f : ℕ → Bool
      f = separated_if may chosen

      abbrev first : List ℕ
      first = take (length digits) ds

      abbrev others : List ℕ
      others = drop (length digits) ds

      length_left : length others ≡ left
      length_left = omega (arith, size, so_far.count, length-drop (length digits) ds)

      split : first ++ others ≡ ds
      split = take-append-drop (length digits) ds

      same_size : length digits ≡ length first
      same_size = omega (arith, length_left, size, so_far.count, ap length split, length-append first others)

      digits_left : AllBelowBase 10 (first ++ others)
      digits_left = subst (AllBelowBase 10) (sym split) below

      -- a separator that follows the digits is among those read
      first_ends : (r : List ℕ) → rest ≡ s.grouping ++ r → f (length first - length digits + length others) ≡ true
          → so_far.chosen (0 + left) ≡ true
      first_ends r h there =
          let here : length first - length digits + length others ≡ left = omega (arith, same_size, length_left) in
          let zero : 0 + left ≡ left = omega arith in
          ap so_far.chosen zero ∙ so_far.skipped r h (both_first (may left) _ (sym (ap f here) ∙ there))

      -- where others follow, they begin with a digit
      others_begin : (r : List ℕ) → digits_text s f others ++ tail ≡ s.grouping ++ r
          → so_far.chosen (length digits - length first + left) ≡ true → f (0 + length others) ≡ true
      others_begin r h there = absurd (digits_not_grouping s readable f others tail r
          (below_rest first others digits_left)
          (λ none k. let at : length digits - length first + left ≡ 0 = omega (arith, same_size, length_left, none) in
          let t : false ≡ true = sym none_last ∙ so_far.allowed 0 (sym (ap so_far.chosen at) ∙ there) in cc) h)

      -- of other digits that the text begins with, those that are left follow
      read_left : rest ≡ digits_text s f others ++ tail
      read_left =
          (digits-unique s readable (λ m. so_far.chosen (m + left)) (λ m. f (m + length others)) digits first rest
          (digits_text s f others ++ tail) so_far.are_digits (below_first first others digits_left)
          (record { digit = λ d r h k. same_size; separator = first_ends })
          (record { digit = λ d r h k. sym same_size; separator = others_begin })
          (sym so_far.text ∙ e ∙ ap (λ l. digits_text s f l ++ tail) (sym split)
          ∙ ap (λ l. l ++ tail) (digits_text-append s f first others)
          ∙ append_assoc (digits_text s (λ m. f (m + length others)) first) (digits_text s f others) tail)).1

      pub read_last : left ≡ 0 → rest ≡ tail
      read_last last = grind (arith, nil_from_length, read_left, length_left, digits_text-nil)

      -- and where fewer digits follow than these have before the next end of a group, the text does not begin with them
      pub read_fails : {after : List ℕ} {most number count : ℕ} → ReadsRun s most rest after number count
          → count < most → most ≤ left → ((k : ℕ) → k + 1 < most → may (left - 1 - k) ≡ false) → ⊥
      read_fails {after = after} {most = most} run fewer within never =
          run_fails s readable f run.digits others after tail (left - most) run.bcd.digits
          (below_rest first others digits_left) (omega (arith, length_left, fewer, within, run.bcd.count))
          (λ m low high. ap (λ x. x && chosen m)
          (ap may (let back : m ≡ left - 1 - (left - 1 - m) = omega (arith, high, length_left) in back)
          ∙ never (left - 1 - m) (omega (arith, low, high, length_left, within)))) (run.ends fewer)
          (sym run.text ∙ read_left)

-- ---- Groups.
-- no group ends after the last digit
pub none_after_last : (s : Symbols) → ends_group s.sizes 0 ≡ false
none_after_last s = grind (arith, nat_tests)

-- a strategy separates at all ends of groups, or at none
pub strategy_is : (s : Symbols) (g : GroupingStrategy) (n m : ℕ)
    → separated_by s g n m ≡ (ends_group s.sizes m && is_grouped g s.sizes (pos (n - 1)))
strategy_is s g n m = grind (arith, and_comm)

-- the strategy that writes all separators, or none
abbrev pub strategy_if : Bool → GroupingStrategy
strategy_if true = Always
strategy_if false = Never

pub strategy_separates : (s : Symbols) (all : Bool) (n m : ℕ) → m < n
    → (ends_group s.sizes m && all) ≡ separated_by s (strategy_if all) n m
strategy_separates s all n m inside = grind (arith, ints, nat_tests, and-true, and-false, allowed_is)

-- ---- Whole numbers.
-- a number begins with a digit
pub number_begins : (s : Symbols) (f : ℕ → Bool) (w : Numeral) → AreDigits w
    → BeginsWithDigit s (absolute_numeral_text s f w)
number_begins s f w digits = go w.whole digits.some digits.whole
  where
    go : (whole : List ℕ) → 0 < length whole → AllBelowBase 10 whole
        → BeginsWithDigit s (digits_text s f whole ++ fraction_text s w.fraction)
    go [] some all = absurd (omega (arith, some))
    go (d ∷ ds) some all = record {
      digit = d;
      following = separator_if s (f (length ds)) ++ (digits_text s f ds ++ fraction_text s w.fraction);
      is_digit = all.0;
      is = digits_text-first s f d ds (fraction_text s w.fraction);
    }

-- ---- Fractions.
pub fraction_is : (s : Symbols) (ds : List ℕ) → 0 < length ds
    → s.decimal ++ digits_text s (λ _. false) ds ≡ fraction_text s ds
fraction_is s ds some = grind arith

-- of a text that is one of fraction digits, all of them were read
pub fraction_read : {s : Symbols} {n k : ℕ} {text digits rest : List ℕ} → IsReadable s → (text ≡ [] → ⊥)
    → length text < 2 ^ 64 → text ≡ s.decimal ++ digits → ReadsRun s (2 ^ 64 - 1) digits rest n k → (ds : List ℕ)
    → AllBelowBase 10 ds → text ≡ fraction_text s ds → (0 < k) × (rest ≡ [])
fraction_read readable some few begins run [] all e = absurd (some e)
fraction_read {s = s} {text = text} {digits = digits} {rest = rest} readable some few begins run (d ∷ ds) all e =
    let plain = λ (m : ℕ). false in
    let fewer = code_shorter s.decimal text digits (none_not_decimal s readable) begins in
    let same = digits-unique s readable plain plain (d ∷ ds) run.digits [] rest all run.bcd.digits
    (ends_integer (nil_ends s readable)) (record {
      digit = λ x r below h. absurd (run.ends (omega (arith, run_length readable run, fewer, few)) x r below h);
      separator = λ r h there. there;
    })
    (append-nil (digits_text s plain (d ∷ ds)) ∙ sym (append_cancel_left s.decimal digits _ (sym begins ∙ e))
    ∙ run.text) in
    (omega (arith, ap length same.0, run.bcd.count), sym same.1)
