-- The decimal digits of an integer, the last one first.
use Rattle.std.proofs.{Common.{◌≡◌, ℕ, ◌/◌, ◌%◌, ◌^◌, ◌<◌, ◌≤◌, ◌∷◌, length, arith}, lemmas.{Int.Digits.{digits_of_step, length-digits_of-le}, List.{reverse-append, length-reverse}}}
use Rattle.decimal_digits.specs.AscendingDigits.{ascending_digits}

-- the last digit, and then the digits of the rest
pub ascending_digits-step : (n digit rest : ℕ) → 0 < n → digit ≡ n % 10 → rest ≡ n / 10
    → ascending_digits n ≡ digit ∷ ascending_digits rest
ascending_digits-step n digit rest h d r = grind (arith, digits_of_step, reverse-append)

-- an integer of 128 bits has at most 39 digits
pub length-ascending_digits : (n : ℕ) → n < 2 ^ 128 → length (ascending_digits n) ≤ 39
length-ascending_digits n h = grind (arith, length-reverse, length-digits_of-le)
