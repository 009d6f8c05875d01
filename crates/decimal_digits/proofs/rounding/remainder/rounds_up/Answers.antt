use Rattle.std.proofs.Common.{rules}
use Rattle.decimal_digits.proofs.rounding.remainder.rounds_up.Goals as goal

pub returns-in-Zero : goal.returns-in-Zero
returns-in-Zero c = search rules
