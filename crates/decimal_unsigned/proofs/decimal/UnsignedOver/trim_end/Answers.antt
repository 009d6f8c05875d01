use Rattle.std.proofs.{Common.arith, lemmas.Grind.common_steps}
use Rattle.decimal_unsigned.proofs.lemmas.{decimal.Values.narrow_kept, laws.ValueLaws.{greatest_lo, shortest}}
use Rattle.decimal_unsigned.proofs.decimal.UnsignedOver.trim_end.Goals as goal

pub returns : goal.returns
returns g c = grind (arith, narrow_kept, greatest_lo, shortest, common_steps)
