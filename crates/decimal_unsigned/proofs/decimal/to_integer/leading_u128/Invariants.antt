use Rattle.std.proofs.Common.{◌≡◌}
use Rattle.decimal_digits.specs.Remainders.{leading}
use Rattle.decimal_unsigned.proofs.decimal.to_integer.leading_u128.Given as goal

-- the digits before the index are read
abbrev pub invariant-loop-index : goal.invariant-loop-index
invariant-loop-index g l = l.number ≡ leading l.index (g.D.DigitStore.digits l.digits)
