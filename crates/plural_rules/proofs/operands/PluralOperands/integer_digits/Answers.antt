use Rattle.std.proofs.{Common.arith, lemmas.{Int.{ints, clamps}, Grind.common_steps, Bool.Decides.nat_tests}}
use Rattle.plural_rules.proofs.lemmas.operands.Shifted.{integer_digits_of}
use Rattle.fixed_decimal.proofs.Calling.{narrow_kept, offset_is}
use Rattle.plural_rules.proofs.operands.PluralOperands.integer_digits.Goals as goal

pub new-requires : goal.new-requires
new-requires g c = grind (arith, ints, clamps, narrow_kept, offset_is)

pub returns : goal.returns
returns g c = grind (arith, ints, clamps, nat_tests, common_steps, narrow_kept, integer_digits_of)
