-- Numbers of units, and their order.
use Rattle.std.proofs.{Common.{ℕ, ◌≡◌, ◌*◌, ◌/◌, ◌%◌, ◌<◌, ◌^◌, ◌==◌, refl, sym, ◌∙◌, ap, arith, ℤ, pos, negsuc, ◌*ℤ◌, ◌<ℤ◌, Bool, true, false, eqb-true}, Math.Nat.{zero-mul, div-add-mod', mul_assoc, mul-lt-mul_of_pos_right, one-le-pow}, lemmas.{Int.ints, Nat.pow-add, Bool.Decides.nat_tests, Grind.common_steps}}
use Rattle.std.specs.{Prelude.{Ok, Err, if◌then◌else◌}, Cmp.{int_cmp_is, int_ranks}, Ordering.{int_cmp, MatchOrdering}, declared.cmp.Ordering.Ordering, declared.cmp.Ordering.TheVariants.{Less, Equal, Greater}}
use Rattle.decimal_digits.specs.Number.{weight, offset}
use Rattle.decimal_unsigned.specs.{declared.error.IntegerError.TheVariants.NotWhole, Edits.multiplied}
use Rattle.fixed_decimal.specs.{Decimal.{Decimal, signed, signed_number}, ToInteger.{signed_in_range, as_signed}, declared.variations.Sign.{Sign, TheVariants.{None, Negative, Positive}}}
use Rattle.fixed_decimal_c.specs.Keys.{HasUnits}

-- an integer in range is itself
in_range_is : (b : ℕ) (z k : ℤ) → signed_in_range b z ≡ Ok k → z ≡ k
in_range_is b (pos n) k e = grind (arith, ints, nat_tests, common_steps)
in_range_is b (negsuc n) k e = grind (arith, ints, nat_tests, common_steps)

-- the integer of a product
signed_times : (s : Sign) (q w : ℕ) → signed s (q * w) ≡ signed s q *ℤ pos w
signed_times None q w = omega (arith, ints)
signed_times Positive q w = omega (arith, ints)
signed_times Negative q w = grind (arith, ints, zero-mul)

-- 1 is 10 ^ 18 units
one_is : weight (pos 0) ≡ weight (negsuc 17) * 10 ^ 18
unfolding offset
one_is = pow-add 10 32750 18

units_of_whole : (s : Sign) (n : ℕ) (k : ℤ) (b : Bool) → (n * 10 ^ 18 % weight (pos 0) == 0) ≡ b
    → (if b then signed_in_range (2 ^ 127) (signed s (n * 10 ^ 18 / weight (pos 0))) else Err NotWhole) ≡ Ok k
    → signed s n ≡ k *ℤ pos (weight (negsuc 17))
units_of_whole s n k false is e = absurd (cc)
units_of_whole s n k true is e =
    let q : ℕ = n * 10 ^ 18 / weight (pos 0) in
    let split = div-add-mod' (n * 10 ^ 18) (weight (pos 0)) in
    let zero : n * 10 ^ 18 % weight (pos 0) ≡ 0 = eqb-true (n * 10 ^ 18 % weight (pos 0)) 0 is in
    let whole : q * weight (pos 0) ≡ n * 10 ^ 18 = omega arith in
    let scaled : q * (weight (negsuc 17) * 10 ^ 18) ≡ n * 10 ^ 18 = ap (λ t. q * t) (sym one_is) ∙ whole in
    let apart = mul_assoc q (weight (negsuc 17)) (10 ^ 18) in
    let exact : q * weight (negsuc 17) ≡ n = omega arith in
    ap (signed s) (sym exact) ∙ signed_times s q (weight (negsuc 17))
    ∙ ap (λ z. z *ℤ pos (weight (negsuc 17))) (in_range_is (2 ^ 127) (signed s q) k e)

-- a decimal has as many units as the decimal times 10 ^ 18 is
pub has_units : (v : Decimal) (k : ℤ)
    → as_signed (2 ^ 127) (record v { absolute = multiplied v.absolute (pos 18) }) ≡ Ok k → HasUnits v k
has_units v k is =
    units_of_whole v.sign v.absolute.number k (v.absolute.number * 10 ^ 18 % weight (pos 0) == 0) refl is

-- ---- Order.
less_times : (p : ℕ) → 0 < p → (x y : ℤ) → x <ℤ y → (x *ℤ pos p) <ℤ (y *ℤ pos p)
less_times p h (pos a) (pos b) l =
    let less : a * p < b * p = mul-lt-mul_of_pos_right (omega (arith, ints)) h in omega (arith, ints)
less_times p h (negsuc a) (pos b) l = omega (arith, ints)
less_times p h (pos a) (negsuc b) l = absurd (omega (arith, ints))
less_times p h (negsuc a) (negsuc b) l =
    let less : b * p < a * p = mul-lt-mul_of_pos_right (omega (arith, ints)) h in omega (arith, ints)

order_times : (p : ℕ) → 0 < p → (x y : ℤ) → int_cmp x y ≡ int_cmp (x *ℤ pos p) (y *ℤ pos p)
order_times p h x y = int_cmp_is (x *ℤ pos p) (y *ℤ pos p) (int_cmp x y) (by (int_cmp x y) (int_ranks x y))
  where
    by : (r : Ordering) → MatchOrdering r (x <ℤ y) (x ≡ y) (y <ℤ x)
        → MatchOrdering r ((x *ℤ pos p) <ℤ (y *ℤ pos p)) (x *ℤ pos p ≡ y *ℤ pos p) ((y *ℤ pos p) <ℤ (x *ℤ pos p))
    by Less l = less_times p h x y l
    by Equal e = ap (λ z. z *ℤ pos p) e
    by Greater l = less_times p h y x l

-- numbers are in the order of their units
pub order_of_units : (x y : ℤ) (v w : Decimal) → HasUnits v x → HasUnits w y
    → int_cmp x y ≡ int_cmp (signed_number v) (signed_number w)
order_of_units x y v w left right =
    order_times (weight (negsuc 17)) (one-le-pow (offset (negsuc 17)) 10 (omega arith)) x y
    ∙ ap (λ z. int_cmp z (y *ℤ pos (weight (negsuc 17)))) (sym left) ∙ ap (int_cmp (signed_number v)) (sym right)
