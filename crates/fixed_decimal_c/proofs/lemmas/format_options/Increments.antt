-- Increments of roundings.
use Rattle.std.proofs.Common.{◌≡◌, ℕ, zero, suc, ◌*◌, ◌^◌, ◌≤◌, true, refl, arith}
use Rattle.decimal_digits.specs.{Rounding.step_of, declared.rounding.RoundingIncrement.{RoundingIncrement, TheVariants.{MultiplesOf1, MultiplesOf2, MultiplesOf5, MultiplesOf25}}}
use Rattle.number_format.specs.Increments.{is_increment}

-- with up to three zeros, and at most 5,000
pub is_listed : (base : RoundingIncrement) (zeros : ℕ) → zeros ≤ 3 → step_of base * 10 ^ zeros ≤ 5000
    → is_increment (step_of base * 10 ^ zeros) ≡ true
is_listed MultiplesOf1 zero few most = refl
is_listed MultiplesOf1 (suc zero) few most = refl
is_listed MultiplesOf1 (suc (suc zero)) few most = refl
is_listed MultiplesOf1 (suc (suc (suc zero))) few most = refl
is_listed MultiplesOf1 (suc (suc (suc (suc n)))) few most = absurd (omega (arith, few))
is_listed MultiplesOf2 zero few most = refl
is_listed MultiplesOf2 (suc zero) few most = refl
is_listed MultiplesOf2 (suc (suc zero)) few most = refl
is_listed MultiplesOf2 (suc (suc (suc zero))) few most = refl
is_listed MultiplesOf2 (suc (suc (suc (suc n)))) few most = absurd (omega (arith, few))
is_listed MultiplesOf5 zero few most = refl
is_listed MultiplesOf5 (suc zero) few most = refl
is_listed MultiplesOf5 (suc (suc zero)) few most = refl
is_listed MultiplesOf5 (suc (suc (suc zero))) few most = refl
is_listed MultiplesOf5 (suc (suc (suc (suc n)))) few most = absurd (omega (arith, few))
is_listed MultiplesOf25 zero few most = refl
is_listed MultiplesOf25 (suc zero) few most = refl
is_listed MultiplesOf25 (suc (suc zero)) few most = refl
is_listed MultiplesOf25 (suc (suc (suc zero))) few most = absurd (omega (arith, most))
is_listed MultiplesOf25 (suc (suc (suc (suc n)))) few most = absurd (omega (arith, few))
