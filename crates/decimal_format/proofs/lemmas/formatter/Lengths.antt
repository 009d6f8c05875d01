-- The length of the text.
use Rattle.std.proofs.{Common.{◌≡◌, ℕ, suc, ◌+◌, ◌-◌, ◌*◌, ◌<◌, Bool, true, false, List, [], ◌∷◌, ◌++◌, length, ◌∙◌, ap, arith, length-append, rules}, Math.Nat.add-mul, lemmas.Int.{ints, clamps}}
use Rattle.std.specs.{Prelude.{if◌then◌else◌, pos, ◌-ℤ◌, ◌≤ℤ◌, ◌<ℤ◌}, Int.{int_gap, int_min, Digits.AllBelowBase}}
use Rattle.decimal_unsigned.specs.Unsigned.{Unsigned, IsValue}
use Rattle.fixed_decimal.specs.declared.variations.Sign.TheVariants.{None}
use Rattle.fixed_decimal.proofs.Calling.{gap_is}
use Rattle.decimal_format.specs.{declared.grouping.GroupingStrategy.GroupingStrategy, Grouping.separates, Symbols.{Symbols, HaveWidth}, Formatted.{shown_count, absolute_text}, Parts.separators_below, Reading.{digits_text, fraction_text}, Scanning.separator_if}
use Rattle.decimal_format.proofs.lemmas.{reader.NumeralTexts.{digits_of_value, absolute_is}, symbols.Separators.{separators_below-suc, separators_below-zero}}

module _ (s : Symbols) (w : ℕ) (width : HaveWidth s.digits w) where
  length-separator : (b : Bool) → length (separator_if s b) ≡ (if b then 1 else 0) * length s.grouping
  length-separator true = omega arith
  length-separator false = omega arith

  -- digits, where the number of separators among the last ones is known
  length-digits_text : (f : ℕ → Bool) (count : ℕ → ℕ) → count 0 ≡ 0
      → ((n : ℕ) → count (suc n) ≡ count n + (if f n then 1 else 0)) → (ds : List ℕ) → AllBelowBase 10 ds
      → length (digits_text s f ds) ≡ length ds * w + count (length ds) * length s.grouping
  unfolding digits_text
  length-digits_text f count zero next [] all =
      omega (arith, ap (λ k. k * length s.grouping) zero)
  length-digits_text f count zero next (d ∷ ds) all =
      grind (arith, length-append, length-separator, add-mul, (length-digits_text f count zero next ds all.1))

  -- the separator is there if there are fraction digits
  length-fraction : (separator ds : List ℕ) → (0 < length ds → separator ≡ s.decimal)
      → (length ds ≡ 0 → separator ≡ []) → AllBelowBase 10 ds
      → length (fraction_text s ds) ≡ length ds * w + length separator
  length-fraction separator [] some none all = omega (arith, ap length (none (omega arith)))
  length-fraction separator (d ∷ ds) some none all =
      grind (arith, length-append, length-digits_text (λ _. false) (λ _. 0))

-- the length of a text, with the separator before its fraction digits
pub length-absolute : (s : Symbols) (g : GroupingStrategy) (v : Unsigned) → IsValue v → (w : ℕ) → HaveWidth s.digits w
    → (separator : List ℕ) → (v.lo <ℤ pos 0 → separator ≡ s.decimal) → (pos 0 ≤ℤ v.lo → separator ≡ [])
    → length (absolute_text s g v)
    ≡ shown_count v * w + separators_below g s.sizes v.hi (int_gap (pos 0) v.hi + 1) * length s.grouping
    + length separator
length-absolute s g v valid w width separator fraction whole =
    let d = digits_of_value (record { sign = None; absolute = v }) valid in
    let n = length d.0.whole in
    let j = length d.0.fraction in
    let size = length-append d.0.whole d.0.fraction in
    let hi : v.hi ≡ pos (n - 1) = ap (λ (u : Unsigned). u.hi) d.2.absolute in
    let lo : v.lo ≡ int_min (pos n -ℤ pos (length (d.0.whole ++ d.0.fraction))) (pos 0) = search (rules, arith) in
    let integers : int_gap (pos 0) v.hi + 1 ≡ n = omega (arith, ints, gap_is (pos 0) v.hi, hi, d.1.some) in
    let count : shown_count v ≡ n + j = omega (arith, ints, clamps, gap_is v.lo v.hi, hi, lo, size, d.1.some) in
    let text = ap (absolute_text s g) d.2.absolute ∙ absolute_is d.0 d.1 d.2.few s g in
    let separators : separators_below g s.sizes v.hi (int_gap (pos 0) v.hi + 1) * length s.grouping
    ≡ separators_below g s.sizes (pos (n - 1)) n * length s.grouping = search (rules, arith) in
    let separated = λ (m : ℕ). separates g s.sizes (pos (n - 1)) (pos m) in
    omega (
      arith,
      ap length text,
      length-append (digits_text s separated d.0.whole) (fraction_text s d.0.fraction),
      length-digits_text s w width separated (separators_below g s.sizes (pos (n - 1)))
          (separators_below-zero g s.sizes (pos (n - 1))) (separators_below-suc g s.sizes (pos (n - 1))) d.0.whole
          d.1.whole,
      length-fraction s w width separator d.0.fraction
          (λ some. fraction (omega (arith, ints, clamps, lo, size, some)))
          (λ none. whole (omega (arith, ints, clamps, lo, size, none))) d.1.fraction,
      ap (λ k. k * w) count,
      add-mul n j w,
      separators,
    )
