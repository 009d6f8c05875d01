use Rattle.std.proofs.{Common.{refl, rules, arith}, lemmas.{Grind.common_steps, List.drop_all}}
use Rattle.decimal_unsigned.proofs.decimal.from_integer.write_integer_digits.Goals as goal

pub loop-digit-init : goal.loop-digit-init
loop-digit-init g c = record { all = search rules; start = refl; placed = drop_all 39 c.args.buffer.now (omega arith) }

pub loop-digit-preserved : goal.loop-digit-preserved
loop-digit-preserved g c = grind (arith, common_steps)

pub returns : goal.returns
returns g c = grind (arith, common_steps)
