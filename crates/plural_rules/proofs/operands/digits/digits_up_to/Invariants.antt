use Rattle.std.proofs.Common.{◌≡◌, ◌+◌}
use Rattle.decimal_digits.specs.Number.{offset}
use Rattle.plural_rules.specs.DigitSlice.{digit_slice}
use Rattle.plural_rules.proofs.operands.digits.digits_up_to.Given as goal

abbrev pub invariant-loop-below : goal.invariant-loop-below
invariant-loop-below g l = l.found ≡ digit_slice l.value.number (offset l.top + 1) l.below
