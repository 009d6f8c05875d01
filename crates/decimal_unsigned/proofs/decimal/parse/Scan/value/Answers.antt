use Rattle.std.proofs.{Common.{ap, arith, length, map}, lemmas.List.{length-append, length-map}}
use Rattle.std.specs.Char.{digit_value}
use Rattle.decimal_digits.specs.Number.{size}
use Rattle.decimal_unsigned.proofs.lemmas.decimal.Values.{size-number_of}
use Rattle.decimal_unsigned.proofs.decimal.parse.Scan.value.Goals as goal

pub returns-in_err-reserve-clause-succeeds : goal.returns-in_err-reserve-clause-succeeds
returns-in_err-reserve-clause-succeeds g c = λ few.
    let whole = c.between.result.0.now in
    let fraction = c.between.result.1.now in
    let k =
    c.in_err-reserve.ensures.succeeds
    (omega (
      arith,
      ap length c.between.ensures.value,
      length-append (map digit_value whole) (map digit_value fraction),
      length-map whole digit_value,
      length-map fraction digit_value,
      size-number_of c.self.invariant.plan.stored,
      few,
      ap (λ v. size v.number) c.self.view_is,
      ap length c.empty-digits.ensures,
    )) in
    absurd (cc)
