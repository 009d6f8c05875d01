use Rattle.std.proofs.{Common.arith, lemmas.Grind.common_steps}
use Rattle.decimal_unsigned.proofs.lemmas.text.Pieces.{one_byte}
use Rattle.decimal_unsigned.proofs.decimal.UnsignedOver.only_byte.Goals as goal

pub returns : goal.returns
returns g c = grind (arith, one_byte, common_steps)
