use Rattle.std.proofs.Common.{rules}
use Rattle.decimal_unsigned.proofs.lemmas.parse.BcdValues.{wide_allocates}
use Rattle.decimal_unsigned.specs.Reading.{read}
use Rattle.decimal_unsigned.proofs.decimal.UnsignedOver.scan_any.Goals as goal

pub returns-in_err-digits : goal.returns-in_err-digits
returns-in_err-digits g c =
    let bcd = c.in-Some.bcd in
    let a =
    wide_allocates (read c.args.text.now) _ bcd.len g.D.DigitStore.L bcd.bounds c.in-Some.ensures.value
    (λ fits. let k = c.in_err-digits.ensures.succeeds fits in absurd (cc)) in
    search (rules, a)
