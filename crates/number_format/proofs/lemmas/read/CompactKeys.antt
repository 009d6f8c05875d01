-- Each key of compact notation has the texts of one of the magnitudes 2 to 19.
use Rattle.std.proofs.{Common.{◌≡◌, ℕ, inl, inr, suc, ◌+◌, ◌-◌, ◌*◌, ◌/◌, ◌%◌, ◌<◌, ◌≤◌, ◌==◌, ◌&&◌, Bool, true, false, nat_lt, cond, List, [], ◌∷◌, ◌++◌, refl, sym, ◌∙◌, ap, subst, arith}, lemmas.{Bool.{and_parts, Decides.nat_tests}, Int.{ints, clamps}}}
use Rattle.std.specs.{Prelude.{find, Option, Some, None, is_none, slice_get, slice_index, option_and_then, if◌then◌else◌, ℤ, pos, unsigned_abs, ◌-ℤ◌, int_lt, int_le, not}, Int.{int_max, int_min}, List.{list_all, Contains}, Option.{option_map_or, option_or}}
use Rattle.fixed_decimal.specs.declared.variations.Sign.{Sign}
use Rattle.plural_rules.specs.declared.rules.PluralCategory.{PluralCategory}
use Rattle.decimal_format.specs.Symbols.{affixes}
use Rattle.locale_data.specs.{declared.{tables.{rows.{compact.{CompactPattern.CompactPattern, CompactRun.CompactRun}}, compact.TheConstants.{COMPACT_RUNS, COMPACT_SETS, COMPACT_PATTERNS}}, compact.CompactStyle.CompactStyle, number_formats.NumberFormats.NumberFormats}, Compact.{compact_patterns, count_code, pattern_for, pattern_with, rows_of, run_at}, Rows.part}
use Rattle.locale_data.proofs.lemmas.tables.{EachRow.passes, TableTexts.contains-part}
use Rattle.number_format.specs.{declared.{format.formatter.NumberFormatter.NumberFormatter, notation.{CompactExponents.CompactExponents, Notation.Notation}, read.{compact.keys.CompactKey.CompactKey, pattern.NumberPattern.NumberPattern}}, CompactReading.{inner_at, is_single, key_at, category_at, sign_at, is_for_other, is_of_one, is_of_other, AreAlike, HasCompactExponents, IsSameBefore, RepeatsAnother}, NumberReading.words_of, NumberText.{around_by, has_categories, is_negative, outer_by}, PatternTexts.Around, Scaled.{compact_exponent, exponent_at}, TextParts.pieces_text}
use Rattle.number_format.proofs.lemmas.format.OuterChoices.{same_outer}

-- ---- Magnitudes.

-- the magnitude from 2 to 19 with the same patterns
abbrev pub clamped : ℤ → ℤ
clamped m = int_max (pos 2) (int_min m (pos 19))

abbrev is_low : CompactRun → Bool
is_low r = nat_lt 2 r.first && nat_lt r.first 20

runs_are_low : list_all is_low COMPACT_RUNS ≡ true
runs_are_low = refl

same_test : (n : ℕ) (m : ℤ) → 2 < n → n < 20 → int_le (pos n) m ≡ int_le (pos n) (clamped m)
same_test n m low high = grind (arith, ints, clamps)

same_run : (runs : List CompactRun) (m : ℤ) → ((r : CompactRun) → Contains runs r → is_low r ≡ true)
    → run_at runs m ≡ run_at runs (clamped m)
same_run [] m low = refl
same_run (r ∷ runs) m low =
    let first = and_parts (nat_lt 2 r.first) (nat_lt r.first 20) (low r (0, omega arith, refl)) in
    let test = same_test r.first m (grind (arith, nat_tests, first.0)) (grind (arith, nat_tests, first.1)) in
    let rest = same_run runs m (λ x c. low x (suc c.0, omega (arith, c.1), c.2)) in
    λ i. cond (test i) (Some r) (rest i)

same_patterns : (f : NumberFormats) (style : CompactStyle) (m : ℤ)
    → compact_patterns f style m ≡ compact_patterns f style (clamped m)
same_patterns f style m = λ i. option_map_or (λ run. part COMPACT_PATTERNS run.patterns)
    (option_and_then (λ set. same_run (part COMPACT_RUNS (rows_of set style).runs) m
    (λ r c. passes is_low COMPACT_RUNS r runs_are_low (contains-part COMPACT_RUNS (rows_of set style).runs r c)) i)
    (slice_get COMPACT_SETS f.compact)) []

same_below : (m : ℤ) → int_lt m (pos 3) ≡ int_lt (clamped m) (pos 3)
same_below m = grind (arith, ints, clamps)

same_row : (m : ℤ) → int_min (int_max m (pos 3)) (pos 19) ≡ int_min (int_max (clamped m) (pos 3)) (pos 19)
same_row m = grind (arith, ints, clamps)

pub same_exponent : (table : CompactExponents) (m : ℤ) → compact_exponent table m ≡ compact_exponent table (clamped m)
same_exponent table m = λ i.
    if same_below m i then pos 0 else pos (slice_index table.rows (unsigned_abs (same_row m i -ℤ pos 3)))

pub same_exponent_at : (n : Notation) → HasCompactExponents n → (m : ℤ)
    → exponent_at n m ≡ exponent_at n (clamped m)
same_exponent_at (Notation.Compact table) has m = same_exponent table m
same_exponent_at Notation.Standard has m = absurd has
same_exponent_at Notation.Scientific has m = absurd has
same_exponent_at Notation.Engineering has m = absurd has

-- ---- Keys.

abbrev pattern_by : Around → Around → Sign → ℤ → NumberPattern
pattern_by outer inner sign exponent = record {
  affixes = affixes (pieces_text outer.prefix ++ pieces_text inner.prefix)
      (pieces_text inner.suffix ++ pieces_text outer.suffix);
  sign = sign;
  category = None;
  exponent = exponent;
}

pub alike_by : (f : NumberFormatter) (style : CompactStyle) (k l : CompactKey)
    → inner_at f style k ≡ inner_at f style l → outer_by f k.whole ≡ outer_by f l.whole → k.sign ≡ l.sign
    → exponent_at f.notation k.magnitude ≡ exponent_at f.notation l.magnitude
    → (is_single k ≡ true → is_single l ≡ true) → (k.category ≡ PluralCategory.One → l.category ≡ PluralCategory.One)
    → AreAlike f style k l
alike_by f style k l inner outer sign exponent single category = record {
  pattern = λ i. pattern_by (outer i) (inner i) (sign i) (exponent i);
  has_number = ap (λ (a : Around). a.has_number) inner;
  one = λ one. elim one [
    | inl by_pattern ↦ inl (single by_pattern)
    | inr by_category ↦ inr (category by_category.0, by_category.1)
  ];
}

abbrev pub code : PluralCategory → ℕ
code PluralCategory.Other = 0
code PluralCategory.One = 1
code PluralCategory.Two = 2
code PluralCategory.Few = 3
code PluralCategory.Many = 4
code PluralCategory.Zero = 5

pub coded : (c : PluralCategory) → (code c < 6) × (category_at (code c) ≡ c)
coded PluralCategory.Other = (omega arith, refl)
coded PluralCategory.One = (omega arith, refl)
coded PluralCategory.Two = (omega arith, refl)
coded PluralCategory.Few = (omega arith, refl)
coded PluralCategory.Many = (omega arith, refl)
coded PluralCategory.Zero = (omega arith, refl)

abbrev sign_code : Sign → ℕ
sign_code Sign.None = 0
sign_code Sign.Negative = 1
sign_code Sign.Positive = 2

sign_coded : (s : Sign) → (sign_code s < 3) × (sign_at (sign_code s) ≡ s)
sign_coded Sign.None = (omega arith, refl)
sign_coded Sign.Negative = (omega arith, refl)
sign_coded Sign.Positive = (omega arith, refl)

abbrev one_code : Bool → ℕ
one_code b = if b then 1 else 0

one_coded : (b : Bool) → (one_code b < 2) × ((one_code b == 1) ≡ b)
one_coded true = (omega arith, refl)
one_coded false = (omega arith, refl)

-- the digits of an index
pub record AreDigitsOf (i a b o w s : ℕ) : Type 0 where
  pub below : i < 3888
  pub magnitude : i / 216 ≡ a
  pub category : i % 216 / 36 ≡ b
  pub one : i % 36 / 18 ≡ o
  pub whole : i % 18 / 3 ≡ w
  pub sign : i % 3 ≡ s

digits_of : (a b o w s : ℕ) → a < 18 → b < 6 → o < 2 → w < 6 → s < 3
    → AreDigitsOf (a * 216 + b * 36 + o * 18 + w * 3 + s) a b o w s
digits_of a b o w s ha hb ho hw hs = record {
  below = omega (arith, ha, hb, ho, hw, hs);
  magnitude = omega (arith, ha, hb, ho, hw, hs);
  category = omega (arith, ha, hb, ho, hw, hs);
  one = omega (arith, ha, hb, ho, hw, hs);
  whole = omega (arith, ha, hb, ho, hw, hs);
  sign = omega (arith, ha, hb, ho, hw, hs);
}

-- each key has the texts of one with an index
pub index_of : (f : NumberFormatter) (style : CompactStyle) → HasCompactExponents f.notation
    → (k : CompactKey)
    → (i : ℕ) × (i < 3888) × AreAlike f style (key_at i) k
index_of f style exponents k =
    let m = clamped k.magnitude in
    let a = unsigned_abs (m -ℤ pos 2) in
    let c = coded k.category in
    let o = one_coded k.is_one in
    let w = coded k.whole in
    let s = sign_coded k.sign in
    let i = a * 216 + code k.category * 36 + one_code k.is_one * 18 + code k.whole * 3 + sign_code k.sign in
    let is = digits_of a (code k.category) (one_code k.is_one) (code k.whole) (sign_code k.sign)
    (omega (arith, ints, clamps)) c.0 o.0 w.0 s.0 in
    let magnitude : pos (i / 216 + 2) ≡ m = omega (arith, ints, clamps, is.magnitude) in
    let category = ap category_at is.category ∙ c.1 in
    let one = ap (λ n. n == 1) is.one ∙ o.1 in
    let sign = ap sign_at is.sign ∙ s.1 in
    let single : is_single (key_at i) ≡ is_single k = (λ j. one j && not (is_negative (sign j))) in (
      i,
      is.below,
      alike_by f style (key_at i) k
          ((λ j. around_by f.style (sign j)
          (pattern_for (category j) (single j) (compact_patterns f.formats style (magnitude j))))
          ∙ ap (λ ps. around_by f.style k.sign (pattern_for k.category (is_single k) ps))
          (sym (same_patterns f.formats style k.magnitude)))
          (ap (λ n. outer_by f (category_at n)) is.whole ∙ ap (outer_by f) w.1) sign
          (ap (exponent_at f.notation) magnitude ∙ sym (same_exponent_at f.notation exponents k.magnitude))
          (λ e. sym single ∙ e) (λ e. sym category ∙ e),
    )

-- ---- Patterns of other numbers.

found : (q : CompactPattern → Bool) (ps : List CompactPattern) (p : CompactPattern) → find q ps ≡ Some p → q p ≡ true
found q [] p e = absurd (cc)
found q (x ∷ ps) p e = go (q x) refl e (found q ps p)
  where
    go : (b : Bool) → q x ≡ b → cond b (Some x) (find q ps) ≡ Some p → (find q ps ≡ Some p → q p ≡ true) → q p ≡ true
    go true is e later = let same : x ≡ p = cc in subst (λ y. q y ≡ true) same is
    go false is e later = later e

counted : (count : Option PluralCategory) (ps : List CompactPattern) (p : CompactPattern)
    → pattern_with count ps ≡ Some p → (count_code p.count == count_code count) ≡ true
counted count ps p e = found (λ p. count_code p.count == count_code count) ps p e

counts_one : (count : Option PluralCategory) → (count_code count == 0) ≡ true → is_none count ≡ true
counts_one None e = refl
counts_one (Some PluralCategory.Zero) e = absurd (cc)
counts_one (Some PluralCategory.One) e = absurd (cc)
counts_one (Some PluralCategory.Two) e = absurd (cc)
counts_one (Some PluralCategory.Few) e = absurd (cc)
counts_one (Some PluralCategory.Many) e = absurd (cc)
counts_one (Some PluralCategory.Other) e = absurd (cc)

not_both : (count : Option PluralCategory) → is_none count ≡ true → is_for_other count ≡ true → ⊥
not_both None none other = absurd (cc)
not_both (Some c) none other = absurd (cc)

counts_other : (c : PluralCategory) (count : Option PluralCategory) → (count_code count == count_code (Some c)) ≡ true
    → is_for_other count ≡ true → c ≡ PluralCategory.Other
counts_other c None e is = absurd (cc)
counts_other c (Some PluralCategory.Zero) e is = absurd (cc)
counts_other c (Some PluralCategory.One) e is = absurd (cc)
counts_other c (Some PluralCategory.Two) e is = absurd (cc)
counts_other c (Some PluralCategory.Few) e is = absurd (cc)
counts_other c (Some PluralCategory.Many) e is = absurd (cc)
counts_other PluralCategory.Other (Some PluralCategory.Other) e is = refl
counts_other PluralCategory.Zero (Some PluralCategory.Other) e is = absurd (cc)
counts_other PluralCategory.One (Some PluralCategory.Other) e is = absurd (cc)
counts_other PluralCategory.Two (Some PluralCategory.Other) e is = absurd (cc)
counts_other PluralCategory.Few (Some PluralCategory.Other) e is = absurd (cc)
counts_other PluralCategory.Many (Some PluralCategory.Other) e is = absurd (cc)

or_itself : (z : Option CompactPattern) → z ≡ option_or z z
or_itself None = refl
or_itself (Some p) = refl

-- a pattern that is for the other numbers is theirs
same_as_other : (ps : List CompactPattern) (c : PluralCategory) (is_one : Bool)
    → is_of_other (pattern_for c is_one ps) ≡ true
    → pattern_for c is_one ps ≡ pattern_for PluralCategory.Other false ps
same_as_other ps c is_one is = go _ _ _ (exact is_one) own is
  where
    exact : (b : Bool) (p : CompactPattern) → (if b then pattern_with None ps else None) ≡ Some p
        → is_none p.count ≡ true
    exact true p e = counts_one p.count (counted None ps p e)
    exact false p e = absurd (cc)

    own : (p : CompactPattern) → pattern_with (Some c) ps ≡ Some p → is_for_other p.count ≡ true
        → pattern_with (Some c) ps ≡ pattern_with (Some PluralCategory.Other) ps
    own p e is = ap (λ c. pattern_with (Some c) ps) (counts_other c p.count (counted (Some c) ps p e) is)

    go : (x y z : Option CompactPattern) → ((p : CompactPattern) → x ≡ Some p → is_none p.count ≡ true)
        → ((p : CompactPattern) → y ≡ Some p → is_for_other p.count ≡ true → y ≡ z)
        → is_of_other (option_or (option_or x y) z) ≡ true
        → option_or (option_or x y) z ≡ option_or z z
    go (Some p) y z none other is = absurd (not_both p.count (none p refl) is)
    go None (Some p) z none other is = other p refl is ∙ or_itself z
    go None None z none other is = or_itself z

-- a pattern that is not for 1 itself is the same with 1 and without it
same_as_category : (ps : List CompactPattern) (c : PluralCategory) (is_one : Bool)
    → is_of_one (pattern_for c is_one ps) ≡ false → pattern_for c is_one ps ≡ pattern_for c false ps
same_as_category ps c false is = refl
same_as_category ps c true is = go _ (λ p e. counts_one p.count (counted None ps p e)) is
  where
    go : (x : Option CompactPattern) → ((p : CompactPattern) → x ≡ Some p → is_none p.count ≡ true)
        → is_of_one (option_or (option_or x (pattern_with (Some c) ps)) (pattern_with (Some PluralCategory.Other) ps))
        ≡ false
        → option_or (option_or x (pattern_with (Some c) ps)) (pattern_with (Some PluralCategory.Other) ps)
        ≡ option_or (pattern_with (Some c) ps) (pattern_with (Some PluralCategory.Other) ps)
    go (Some p) none is = let one = none p refl in absurd (cc)
    go None none is = refl

-- ---- Keys that repeat another.

-- a key that is not for 1 itself
not_one : (n : ℕ) → n ≡ 0 → (s b : Bool) → ((n == 1) && s) ≡ true → b ≡ true
not_one n is s b one = absurd (let e = ap (λ n. (n == 1) && s) (sym is) ∙ one in cc)

-- nor for the category of the other numbers
not_other : (n : ℕ) → n ≡ 0 → (c : PluralCategory) → category_at n ≡ PluralCategory.One → c ≡ PluralCategory.One
not_other n is c one = absurd (let e = ap category_at (sym is) ∙ one in cc)

module _ (f : NumberFormatter) (style : CompactStyle) (i : ℕ) where
  pub same_in_row : 216 ≤ i → IsSameBefore f style (key_at i).magnitude → AreAlike f style (key_at (i - 216)) (key_at i)
  same_in_row from same =
      let j = i - 216 in
      let k = key_at i in
      let magnitude : pos (j / 216 + 2) ≡ (k.magnitude -ℤ pos 1) = omega (arith, ints, from) in
      let category : j % 216 / 36 ≡ i % 216 / 36 = omega (arith, from) in
      let one : j % 36 / 18 ≡ i % 36 / 18 = omega (arith, from) in
      let whole : j % 18 / 3 ≡ i % 18 / 3 = omega (arith, from) in
      let sign : j % 3 ≡ i % 3 = omega (arith, from) in
      let single : is_single (key_at j) ≡ is_single k = (λ n. (one n == 1) && not (is_negative (sign_at (sign n)))) in
      alike_by f style (key_at j) k
      ((λ n. around_by f.style (sign_at (sign n))
      (pattern_for (category_at (category n)) (single n) (compact_patterns f.formats style (magnitude n))))
      ∙ ap (λ ps. around_by f.style k.sign (pattern_for k.category (is_single k) ps)) (sym same.0))
      (ap (λ n. outer_by f (category_at n)) whole) (ap sign_at sign)
      (ap (exponent_at f.notation) magnitude ∙ sym same.1) (λ e. sym single ∙ e)
      (λ e. ap category_at (sym category) ∙ e)

  pub repeats_magnitude : 216 ≤ i → IsSameBefore f style (key_at i).magnitude → RepeatsAnother f style i
  repeats_magnitude from same = (i - 216, omega (arith, from), same_in_row from same)

  pub repeats_other : 18 ≤ i % 216
      → is_of_other (pattern_for (key_at i).category (is_single (key_at i))
      (compact_patterns f.formats style (key_at i).magnitude)) ≡ true
      → RepeatsAnother f style i
  repeats_other from is =
      let j = i / 216 * 216 + i % 18 in
      let k = key_at i in
      let ps = compact_patterns f.formats style k.magnitude in
      let magnitude : j / 216 ≡ i / 216 = omega arith in
      let category : j % 216 / 36 ≡ 0 = omega arith in
      let one : j % 36 / 18 ≡ 0 = omega arith in
      let whole : j % 18 / 3 ≡ i % 18 / 3 = omega arith in
      let sign : j % 3 ≡ i % 3 = omega arith in (
        j,
        omega (arith, from),
        alike_by f style (key_at j) k
            ((λ n. around_by f.style (sign_at (sign n)) (pattern_for (category_at (category n))
            ((one n == 1) && not (is_negative (sign_at (sign n))))
            (compact_patterns f.formats style (pos (magnitude n + 2)))))
            ∙ ap (around_by f.style k.sign) (sym (same_as_other ps k.category (is_single k) is)))
            (ap (λ n. outer_by f (category_at n)) whole) (ap sign_at sign)
            (ap (λ n. exponent_at f.notation (pos (n + 2))) magnitude)
            (not_one (j % 36 / 18) one (not (is_negative (sign_at (j % 3)))) (is_single k))
            (not_other (j % 216 / 36) category k.category),
      )

  pub repeats_one : 18 ≤ i % 36
      → is_of_one (pattern_for (key_at i).category (is_single (key_at i))
      (compact_patterns f.formats style (key_at i).magnitude)) ≡ false
      → RepeatsAnother f style i
  repeats_one from is =
      let j = i - 18 in
      let k = key_at i in
      let ps = compact_patterns f.formats style k.magnitude in
      let magnitude : j / 216 ≡ i / 216 = omega (arith, from) in
      let category : j % 216 / 36 ≡ i % 216 / 36 = omega (arith, from) in
      let one : j % 36 / 18 ≡ 0 = omega (arith, from) in
      let whole : j % 18 / 3 ≡ i % 18 / 3 = omega (arith, from) in
      let sign : j % 3 ≡ i % 3 = omega (arith, from) in (
        j,
        omega (arith, from),
        alike_by f style (key_at j) k
            ((λ n. around_by f.style (sign_at (sign n)) (pattern_for (category_at (category n))
            ((one n == 1) && not (is_negative (sign_at (sign n))))
            (compact_patterns f.formats style (pos (magnitude n + 2)))))
            ∙ ap (around_by f.style k.sign) (sym (same_as_category ps k.category (is_single k) is)))
            (ap (λ n. outer_by f (category_at n)) whole) (ap sign_at sign)
            (ap (λ n. exponent_at f.notation (pos (n + 2))) magnitude)
            (not_one (j % 36 / 18) one (not (is_negative (sign_at (j % 3)))) (is_single k))
            (λ e. ap category_at (sym category) ∙ e),
      )

  -- what is around the whole text does not depend on the category
  pub repeats_whole : 3 ≤ i % 18 → has_categories f ≡ false → RepeatsAnother f style i
  repeats_whole from none =
      let j = i - 3 in
      let k = key_at i in
      let magnitude : j / 216 ≡ i / 216 = omega (arith, from) in
      let category : j % 216 / 36 ≡ i % 216 / 36 = omega (arith, from) in
      let one : j % 36 / 18 ≡ i % 36 / 18 = omega (arith, from) in
      let sign : j % 3 ≡ i % 3 = omega (arith, from) in
      let single : is_single (key_at j) ≡ is_single k =
      (λ n. (one n == 1) && not (is_negative (sign_at (sign n)))) in (
        j,
        omega (arith, from),
        alike_by f style (key_at j) k
            (λ n. around_by f.style (sign_at (sign n)) (pattern_for (category_at (category n)) (single n)
            (compact_patterns f.formats style (pos (magnitude n + 2)))))
            (same_outer f.formats f.outer (words_of f) f.options.style (key_at j).whole k.whole none)
            (ap sign_at sign) (ap (λ n. exponent_at f.notation (pos (n + 2))) magnitude) (λ e. sym single ∙ e)
            (λ e. ap category_at (sym category) ∙ e),
      )
