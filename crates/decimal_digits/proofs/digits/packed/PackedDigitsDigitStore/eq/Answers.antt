use Rattle.std.proofs.{Common.arith, lemmas.Grind.common_steps}
use Rattle.decimal_digits.proofs.lemmas.digits.Packing.{same_bytes}
use Rattle.decimal_digits.proofs.digits.packed.PackedDigitsDigitStore.eq.Goals as goal

pub returns : goal.returns
returns c = grind (arith, same_bytes, common_steps)
