use Rattle.std.proofs.{Common.{◌≡◌, ℕ, ◌<◌, ◌≤◌, sym, ◌∙◌, ap, subst, arith, rules, w16, w32, to_z, of_z, Fits, FitsSigned}, lemmas.Int.{ints, clamps, to_z-of_z}}
use Rattle.std.specs.{Prelude.{ℤ, pos, negsuc, ◌+ℤ◌, ◌-ℤ◌, ◌≤ℤ◌}, Int.{int_max, int_min}}
use Rattle.number_format.specs.{declared.digits.{ranges.SignificantDigits.SignificantDigits, precision.Precision.Precision}, ShownDigits.{last_at, fraction_end, position_of}}
use Rattle.number_format.proofs.digits.precision.Precision.position.Goals as goal

-- ---- The limits of positions, of a number whose first digit is at a magnitude.
abbrev InLimits : ℤ → ℤ → Type 0
InLimits at z = (z ≤ℤ int_max at (pos 3)) × (negsuc 163839 ≤ℤ z)

of_fraction : (n : ℕ) (at : ℤ) → n < 65536 → InLimits at (fraction_end n)
of_fraction n at few = (omega (arith, ints, clamps), omega (arith, ints))

of_multiples : (n k : ℕ) (at : ℤ) → n ≤ 32768 → k ≤ 3 → InLimits at (fraction_end n +ℤ pos k)
of_multiples n k at few less = (omega (arith, ints, clamps), omega (arith, ints))

sum_fits : (n k : ℕ) → n ≤ 32768 → k ≤ 3 → FitsSigned w32 (fraction_end n +ℤ pos k)
sum_fits n k few less = omega (arith, ints)

sum_is : (n k : ℕ) (z : ℤ) → FitsSigned w32 z → k ≤ 3 → z ≡ fraction_end n
    → (to_z w32 (of_z w32 z) +ℤ to_z w32 k) ≡ (fraction_end n +ℤ pos k)
sum_is n k z fits less is = omega (arith, ints)

of_significant : (s : SignificantDigits) (at : ℤ) → negsuc 98302 ≤ℤ at → InLimits at (last_at s.max at)
of_significant s at low = (omega (arith, ints, clamps), omega (arith, ints))

least_of : (at a b : ℤ) → InLimits at a → InLimits at b → InLimits at (int_min a b)
least_of at a b (most, least) (_, other) = (omega (arith, ints, clamps), omega (arith, ints, clamps))

greatest_of : (at a b : ℤ) → InLimits at a → InLimits at b → InLimits at (int_max a b)
greatest_of at a b (most, least) (other, _) = (omega (arith, ints, clamps), omega (arith, ints, clamps))

lowest : (first : ℤ) (exponent : ℕ) → FitsSigned w16 first → Fits w16 exponent → negsuc 98302 ≤ℤ (first -ℤ pos exponent)
lowest first exponent fits few = omega (arith, ints)

-- the position of one precision, as a result of 32 bits
found : (p q : Precision) (at z : ℤ) → FitsSigned w32 z → p ≡ q → z ≡ position_of q at → InLimits at (position_of q at)
    → (to_z w32 (of_z w32 z) ≡ position_of p at) × InLimits at (to_z w32 (of_z w32 z))
found p q at z fits same is within =
    simp to_z-of_z (is ∙ ap (λ p. position_of p at) (sym same), subst (InLimits at) (sym is) within)

pub returns-in-Fraction : goal.returns-in-Fraction
returns-in-Fraction c =
    let at = c.args.first -ℤ pos c.args.exponent in
    let f = found c.args.self _ at _ (search rules) c.in-Fraction.is c.fraction_end.ensures
    (of_fraction c.in-Fraction.fraction.max at (search rules)) in
    record { position = f.0; at_most = f.1.0; at_least = f.1.1 }

pub returns-in-Multiples : goal.returns-in-Multiples
returns-in-Multiples c =
    let at = c.args.first -ℤ pos c.args.exponent in
    let m = c.in-Multiples.multiples in
    let n = c.fraction_end-in-Multiples.result in
    let k = m.increment.zeros in
    let n_fits : FitsSigned w32 n = search rules in
    let sum : (to_z w32 (of_z w32 n) +ℤ to_z w32 k) ≡ (fraction_end m.digits +ℤ pos k) =
    sum_is m.digits k n n_fits m.increment.few_zeros c.fraction_end-in-Multiples.ensures in
    let f = found c.args.self _ at _ (subst (FitsSigned w32) (sym sum) (sum_fits m.digits k m.at_most
    m.increment.few_zeros)) c.in-Multiples.is sum (of_multiples m.digits k at m.at_most m.increment.few_zeros) in
    record { position = f.0; at_most = f.1.0; at_least = f.1.1 }

pub returns-in-Significant : goal.returns-in-Significant
returns-in-Significant c =
    let first_fits : FitsSigned w16 c.args.first = search rules in
    let at = c.args.first -ℤ pos c.args.exponent in
    let f = found c.args.self _ at _ (search rules) c.in-Significant.is (simp to_z-of_z at c.last_at.ensures)
    (of_significant c.in-Significant.significant at (lowest _ _ first_fits c.ranges.exponent)) in
    record { position = f.0; at_most = f.1.0; at_least = f.1.1 }

pub returns-in-MorePrecision : goal.returns-in-MorePrecision
returns-in-MorePrecision c =
    let first_fits : FitsSigned w16 c.args.first = search rules in
    let at = c.args.first -ℤ pos c.args.exponent in
    let both = c.in-MorePrecision.both in
    let s_fits : FitsSigned w32 c.last_at-in-MorePrecision.result = search rules in
    let e_fits : FitsSigned w32 c.fraction_end-in-MorePrecision.result = search rules in
    let s = simp to_z-of_z at c.last_at-in-MorePrecision.ensures in
    let e = c.fraction_end-in-MorePrecision.ensures in
    let f = found c.args.self _ at _ (search rules) c.in-MorePrecision.is
    (simp to_z-of_z at c.min.ensures.value ∙ (λ i. int_min (s i) (e i)))
    (least_of at _ _ (of_significant both.significant at (lowest _ _ first_fits c.ranges.exponent))
    (of_fraction both.fraction.max at (search rules))) in
    record { position = f.0; at_most = f.1.0; at_least = f.1.1 }

pub returns-in-LessPrecision : goal.returns-in-LessPrecision
returns-in-LessPrecision c =
    let first_fits : FitsSigned w16 c.args.first = search rules in
    let at = c.args.first -ℤ pos c.args.exponent in
    let both = c.in-LessPrecision.both in
    let s_fits : FitsSigned w32 c.last_at-in-LessPrecision.result = search rules in
    let e_fits : FitsSigned w32 c.fraction_end-in-LessPrecision.result = search rules in
    let s = simp to_z-of_z at c.last_at-in-LessPrecision.ensures in
    let e = c.fraction_end-in-LessPrecision.ensures in
    let f = found c.args.self _ at _ (search rules) c.in-LessPrecision.is
    (simp to_z-of_z at c.max.ensures.value ∙ (λ i. int_max (s i) (e i)))
    (greatest_of at _ _ (of_significant both.significant at (lowest _ _ first_fits c.ranges.exponent))
    (of_fraction both.fraction.max at (search rules))) in
    record { position = f.0; at_most = f.1.0; at_least = f.1.1 }
