use Rattle.std.proofs.{Common.arith, lemmas.Grind.common_steps}
use Rattle.decimal_unsigned.proofs.lemmas.{decimal.Values.narrow_kept, laws.ValueLaws.{least_hi, shortest}}
use Rattle.decimal_unsigned.proofs.decimal.UnsignedOver.trim_start.Goals as goal

pub returns : goal.returns
returns g c = grind (arith, narrow_kept, least_hi, shortest, common_steps)
