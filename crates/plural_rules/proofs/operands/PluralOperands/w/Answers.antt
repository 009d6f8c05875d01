use Rattle.std.proofs.{Common.arith, lemmas.{Int.{ints, clamps}, Grind.common_steps, Bool.Decides.nat_tests}}
use Rattle.plural_rules.proofs.lemmas.operands.Shifted.{last-shifted}
use Rattle.fixed_decimal.proofs.Calling.{narrow_kept}
use Rattle.plural_rules.proofs.operands.PluralOperands.w.Goals as goal

pub returns-clause-value : goal.returns-clause-value
returns-clause-value g c = grind (arith, ints, clamps, nat_tests, common_steps, narrow_kept, last-shifted)
