use Rattle.std.proofs.Common.{sym, arith}
use Rattle.decimal_unsigned.proofs.lemmas.from_bcd.WholeNumbers.{leading_39, in_range-above}
use Rattle.decimal_unsigned.proofs.decimal.to_integer.leading_39_digits.Goals as goal

pub returns-in_default : goal.returns-in_default
returns-in_default g c =
    let next = leading_39 (g.D.DigitStore.digits c.args.digits.now) in
    sym (in_range-above _ _ (omega (arith, next, c.leading_u128.ensures, c.in_default.ensures)))
