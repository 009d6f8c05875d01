use Rattle.std.proofs.Common.{arith}
use Rattle.plural_rules.proofs.lemmas.operands.DigitSlice.{digit_slice-modulo}
use Rattle.plural_rules.proofs.operands.digits.horner_modulo.Goals as goal

pub loop-below-preserved : goal.loop-below-preserved
loop-below-preserved g c = grind (arith, digit_slice-modulo)
