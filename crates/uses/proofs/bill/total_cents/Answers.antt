use Rattle.std.proofs.{Common.{◌≡◌, ℕ, ◌*◌, ◌/◌, ◌%◌, ◌^◌, ◌≤◌, Ok, Err, inr, subst, sym, ◌∙◌, ap, arith, rules}, Math.Nat.{div-add-mod', mul-mod_left}, lemmas.Int.ints}
use Rattle.std.specs.Prelude.{IsFalse, pos, negsuc}
use Rattle.decimal_digits.specs.Number.{weight}
use Rattle.decimal_unsigned.specs.{Edits.leaves_limits, ToInteger.as_integer, Unsigned.Unsigned, declared.error.IntegerError.TheVariants.{NotWhole, OutOfRange}}
use Rattle.fixed_decimal.proofs.Calling.{weight_up, integer_is, not_whole, out_of_range, out_of_range_whole}
use Rattle.uses.specs.Bill.{cent}
use Rattle.uses.proofs.bill.total_cents.Goals as goal

-- a hundred cents are one unit
hundred : weight (pos 0) ≡ cent * 10 ^ 2
hundred = weight_up (negsuc 1) 2 (omega (arith, ints))

module _ (n m : ℕ) (e : m ≡ n * 10 ^ 2) where
  all_cents : (total : ℕ) → Ok total ≡ as_integer (2 ^ 64) m → n ≡ total * cent
  all_cents total h = omega (arith, e, integer_is (2 ^ 64) m total (sym h), ap (λ k. total * k) hundred)

  part_of_a_cent : Err NotWhole ≡ as_integer (2 ^ 64) m → ¬ (n % cent ≡ 0)
  part_of_a_cent h z =
      let whole : m ≡ n / cent * weight (pos 0) =
      omega (arith, e, z, div-add-mod' n cent, ap (λ k. n / cent * k) hundred) in
      not_whole (2 ^ 64) m (sym h) (ap (λ k. k % weight (pos 0)) whole ∙ mul-mod_left (n / cent) (weight (pos 0)))

  too_great : Err OutOfRange ≡ as_integer (2 ^ 64) m → 2 ^ 64 * cent ≤ n
  too_great h = omega (arith, e, out_of_range (2 ^ 64) m (sym h), hundred)

  whole_cents : Err OutOfRange ≡ as_integer (2 ^ 64) m → n % cent ≡ 0
  whole_cents h =
      let q = m / weight (pos 0) in
      let z = out_of_range_whole (2 ^ 64) m (sym h) in
      let whole : m ≡ q * weight (pos 0) = omega (arith, div-add-mod' m (weight (pos 0)), z) in
      let all : n ≡ q * cent = omega (arith, e, whole, ap (λ k. q * k) hundred) in
      ap (λ k. k % cent) all ∙ mul-mod_left q cent

pub returns-in-Ok-try_to_u64-clause-ok : goal.returns-in-Ok-try_to_u64-clause-ok
returns-in-Ok-try_to_u64-clause-ok c =
    all_cents c.args.amount.now.number c.multiply_pow10.new.self.number
    (ap (λ (v : Unsigned). v.number) c.in-Ok-multiply_pow10.ensures.moved
    ∙ ap (λ (v : Unsigned). v.number * 10 ^ 2) c.in-Ok.ensures.cases)
    c.in-Ok-try_to_u64.total c.in-Ok-try_to_u64.ensures.value

pub returns-in-Err-NotWhole-clause-err : goal.returns-in-Err-NotWhole-clause-err
returns-in-Err-NotWhole-clause-err c = λ count some. (
  some,
  subst (λ v. IsFalse (leaves_limits v (pos 2))) c.in-Ok.ensures.cases
      (c.in-Ok-multiply_pow10.ensures.fits.0 (search rules)),
  part_of_a_cent c.args.amount.now.number c.multiply_pow10.new.self.number
      (ap (λ (v : Unsigned). v.number) c.in-Ok-multiply_pow10.ensures.moved
      ∙ ap (λ (v : Unsigned). v.number * 10 ^ 2) c.in-Ok.ensures.cases)
      (rw c.in-Err-NotWhole.field-0-is at c.in-Err-NotWhole.ensures.value),
)

pub returns-clause-err : goal.returns-clause-err
returns-clause-err c = λ count some.
    let n = c.args.amount.now.number in
    let m = c.multiply_pow10.new.self.number in
    let e =
    ap (λ (v : Unsigned). v.number) c.in-Ok-multiply_pow10.ensures.moved
    ∙ ap (λ (v : Unsigned). v.number * 10 ^ 2) c.in-Ok.ensures.cases in
    let is = rw c.in-Err-OutOfRange.field-0-is at c.in-Err-OutOfRange.ensures.value in
    (some, inr (whole_cents n m e is, too_great n m e is))
