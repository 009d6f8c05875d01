-- The remainder below a position, and how a mode rounds it.
use Rattle.std.proofs.{Common.{ℕ, ◌≡◌, ◌+◌, ◌-◌, ◌*◌, ◌/◌, ◌%◌, ◌<◌, ◌≤◌, ◌==◌, refl, ◌∙◌, ap, arith, true, false, ℤ, cond, Bool}, Math.Nat.{mul-le-mul_right, mul-pos, div-add-mod'}, lemmas.{Bool.Decides.nat_tests, Nat.{div-mul-add, mod-mul-add}}}
use Rattle.decimal_digits.proofs.lemmas.digits.DigitLists.{ten_pos}
use Rattle.decimal_digits.specs.{Number.offset, Remainders.{RemainderIs, rounds_up_of, RoundsTo}, Rounding.{step_of, unit_at, rounded_number}, contracts.rounding.remainder.Remainder.the_type, declared.rounding.RoundingIncrement.RoundingIncrement, declared.rounding.UnsignedRoundingMode.UnsignedRoundingMode, declared.rounding.remainder.Remainder.Remainder, declared.rounding.remainder.Remainder.TheVariants.{Zero, BelowHalf, Half, AboveHalf}}
use denote.Enum.Declared.{tag_of}

-- ---- `rest` units and the tail below one unit, compared with half of `step` units
abbrev quarters_of : Remainder → ℕ
quarters_of remainder = tag_of the_type remainder

below_unit : (remainder : Remainder) (r u : ℕ) → 0 < u → RemainderIs remainder r u → (r < u)
    × (quarters_of remainder < 4)
below_unit remainder r u p is = grind arith

-- less than half of the step, from quarters
pub part_below : (remainder : Remainder) (step rest : ℕ) → 4 * rest + quarters_of remainder < 2 * step
    → ¬ (4 * rest + quarters_of remainder ≡ 0) → (r unit : ℕ) → 0 < unit → RemainderIs remainder r unit
    → RemainderIs BelowHalf (rest * unit + r) (step * unit)
part_below remainder step rest h k r unit p is =
    let l : 2 * rest + (1 + quarters_of remainder / 2) ≤ step = omega arith in
    let some = λ (s : 0 < rest). mul-pos s p in
    grind (arith, mul-le-mul_right unit l)

-- half of the step, from quarters
pub part_half : (remainder : Remainder) (step rest : ℕ) → 4 * rest + quarters_of remainder ≡ 2 * step → (r unit : ℕ)
    → 0 < unit
    → RemainderIs remainder r unit
    → RemainderIs Half (rest * unit + r) (step * unit)
part_half remainder step rest h r unit p is =
    let l : 2 * rest + quarters_of remainder / 2 ≡ step = omega arith in
    grind (arith, ap (λ v. v * unit) l)

-- more than half of the step, from quarters
pub part_above : (remainder : Remainder) (step rest : ℕ) → rest < step → 2 * step < 4 * rest + quarters_of remainder
    → (r unit : ℕ) → 0 < unit → RemainderIs remainder r unit
    → RemainderIs AboveHalf (rest * unit + r) (step * unit)
part_above remainder step rest l h r unit p is =
    let b = below_unit remainder r unit p is in
    let m : step + (1 - quarters_of remainder) ≤ 2 * rest + (quarters_of remainder + 1) / 4 = omega arith in
    grind (arith, mul-le-mul_right unit m, mul-le-mul_right unit l)

-- ---- q units and r over
rounded_by : (q u r : ℕ) (odd : Bool) → r < u → odd ≡ (q % 2 == 1) → (mode : UnsignedRoundingMode) (left : Remainder)
    → RemainderIs left r u
    → rounded_number mode u (q * u + r) ≡ (q + cond (rounds_up_of mode left odd) 1 0) * u
unfolding rounded_number
rounded_by q u r odd l o mode left is = grind (arith, nat_tests, mod-mul-add q u r l, div-mul-add q u r l)

-- an increment is above 0
pub step_pos : (increment : RoundingIncrement) → 0 < step_of increment
step_pos increment = grind arith

-- a unit is above 0
pub unit_pos : (increment : RoundingIncrement) (position : ℤ) → 0 < unit_at increment position
unit_pos increment position = mul-pos (step_pos increment) (ten_pos (offset position))

-- 100 is an even number of steps
half_steps : (increment : RoundingIncrement) → (h : ℕ) × (2 * h * step_of increment ≡ 100)
half_steps increment = (50 / step_of increment, grind arith)

steps_up : (h s q hundreds unit : ℕ) (up : Bool) → 2 * h * s ≡ 100
    → (2 * (h * hundreds) + q + cond up 1 0) * (s * unit) ≡ (100 * hundreds + (q * s + cond up s 0)) * unit
steps_up h s q hundreds unit true half = omega (arith, ap (λ v. v * (hundreds * unit)) half)
steps_up h s q hundreds unit false half = omega (arith, ap (λ v. v * (hundreds * unit)) half)

-- so the last two digits determine the quotient's parity, which with the class of the remainder decides
-- whether the mode rounds up
pub two_split : (mode : UnsignedRoundingMode) (increment : RoundingIncrement) (remainder left : Remainder)
    (s two rest result : ℕ)
    (odd up : Bool) → s ≡ step_of increment
    → rest ≡ two % step_of increment → odd ≡ (two / step_of increment % 2 == 1)
    → ((r unit : ℕ) → 0 < unit → RemainderIs remainder r unit → RemainderIs left (rest * unit + r) (s * unit))
    → up ≡ rounds_up_of mode left odd → result ≡ two - rest + cond up s 0
    → (hundreds n m : ℕ) → n ≡ 100 * hundreds + two → m ≡ 100 * hundreds + result
    → RoundsTo mode (step_of increment) remainder n m
two_split mode increment remainder left s two rest result odd up step is_rest is_odd part goes made hundreds n m of_n
    of_m
    r unit p is =
    let (h, half) = half_steps increment in
    let q = 2 * (h * hundreds) + two / s in
    let half' = rw (← step) at half in
    let steps = ap (λ v. v * (hundreds * unit)) half' in
    let whole : two / s * s + rest ≡ two = omega (arith, div-add-mod' two s, ap (λ v. two % v) step) in
    let wholes = ap (λ v. v * unit) whole in
    let taken : two - rest ≡ two / s * s = omega arith in
    let apart : n * unit + r ≡ q * (s * unit) + (rest * unit + r) = rw of_n (omega arith) in
    let same : two / step_of increment % 2 ≡ q % 2 = omega (arith, ap (λ v. two / v) step) in
    let above = mul-pos (let some : 0 < s = omega (arith, step_pos increment) in some) p in
    let left_is = part r unit p is in
    let by = rounded_by q (s * unit) (rest * unit + r) odd (below_unit left _ _ above left_is).0
    (is_odd ∙ ap (λ v. v == 1) same) mode left left_is in
    rw (← step, apart, by, ← goes, of_m, made, taken) (steps_up h s (two / s) hundreds unit up half')

-- by one, the last digit's parity and the tail make the mode go up, or not
pub one_by : (mode : UnsignedRoundingMode) (remainder : Remainder) (k m rest last : ℕ) (up : Bool)
    → k ≡ 10 * rest + last → up ≡ rounds_up_of mode remainder (last % 2 == 1) → m ≡ k + cond up 1 0
    → RoundsTo mode 1 remainder k m
one_by mode remainder k m rest last up is goes made r unit p tail =
    let one : 1 * unit ≡ unit = omega arith in
    let parity : last % 2 ≡ k % 2 = omega arith in
    rw (one, made, goes)
    (rounded_by k unit r _ (below_unit remainder r unit p tail).0 (ap (λ v. v == 1) parity) mode remainder tail)

-- with nothing below it, a number stays
pub exact_stays : (mode : UnsignedRoundingMode) (remainder : Remainder) (k m : ℕ) → remainder ≡ Zero → m ≡ k
    → RoundsTo mode 1 remainder k m
exact_stays mode remainder k m is same =
    one_by mode remainder k m (k / 10) (k % 10) false (omega arith) (rw is refl) (omega (arith, same))
