-- The text magnitude by magnitude.
use Rattle.std.proofs.{Common.{◌≡◌, ℕ, zero, suc, ◌+◌, ◌/◌, ◌<◌, List, ◌++◌, sym, ◌∙◌, ap, arith, append_assoc, append-nil}, lemmas.Int.ints, Math.Nat.mod-lt}
use Rattle.std.specs.Prelude.{ℤ, pos, ◌-ℤ◌}
use Rattle.decimal_digits.specs.Number.{weight, digit}
use Rattle.decimal_unsigned.specs.Unsigned.{Unsigned}
use Rattle.decimal_format.specs.{declared.grouping.GroupingStrategy.GroupingStrategy, Symbols.Symbols, Formatted.{magnitude_text, formatted_down, nth_text}}

-- the given number of magnitudes, and then others
pub formatted_down-add : (s : Symbols) (strategy : GroupingStrategy) (hi : ℤ) (number : ℕ) (m : ℤ) (i j : ℕ)
    → formatted_down s strategy hi number m (i + j)
    ≡ formatted_down s strategy hi number m i ++ formatted_down s strategy hi number (m -ℤ pos i) j
unfolding formatted_down
formatted_down-add s strategy hi number m zero j = grind (arith, ints)
formatted_down-add s strategy hi number m (suc i) j =
    let n : suc i + j ≡ suc (i + j) = omega arith in
    let k : (m -ℤ pos 1) -ℤ pos i ≡ m -ℤ pos (suc i) = omega (arith, ints) in
    let here = magnitude_text s strategy hi number m in
    ap (formatted_down s strategy hi number m) n
    ∙ (λ x. here ++ (formatted_down-add s strategy hi number (m -ℤ pos 1) i j
    ∙ ap (λ y. formatted_down s strategy hi number (m -ℤ pos 1) i ++ formatted_down s strategy hi number y j) k) x)
    ∙ sym (append_assoc here (formatted_down s strategy hi number (m -ℤ pos 1) i)
    (formatted_down s strategy hi number (m -ℤ pos (suc i)) j))

-- a digit is below 10
pub digit_below : (number : ℕ) (m : ℤ) → digit number m < 10
digit_below number m = mod-lt (number / weight m) (omega arith)

module _ (s : Symbols) (strategy : GroupingStrategy) (v : Unsigned) where
  -- the bytes of the first magnitudes
  abbrev pub first_magnitudes : ℕ → List ℕ
  first_magnitudes i = formatted_down s strategy v.hi v.number v.hi i

  -- one magnitude more
  pub one_more : (i : ℕ) → first_magnitudes (i + 1) ≡ first_magnitudes i ++ nth_text s strategy v i
  unfolding formatted_down
  one_more i = simp (formatted_down-add, append-nil)
