use Rattle.std.proofs.{Common.arith, lemmas.Grind.common_steps}
use Rattle.number_format.proofs.digits.settings.DigitSettings.resolve.Goals as goal

pub returns-clause-ok : goal.returns-clause-ok
returns-clause-ok c = grind (arith, common_steps)

pub returns-clause-error : goal.returns-clause-error
returns-clause-error c = grind (arith, common_steps)

pub returns-in_err-precision-clause-error : goal.returns-in_err-precision-clause-error
returns-in_err-precision-clause-error c = grind (arith, common_steps)

pub returns-in_err-fraction-clause-error : goal.returns-in_err-fraction-clause-error
returns-in_err-fraction-clause-error c = grind (arith, common_steps)

pub returns-in_err-significant-clause-error : goal.returns-in_err-significant-clause-error
returns-in_err-significant-clause-error c = grind (arith, common_steps)

pub returns-in_err-increment-clause-error : goal.returns-in_err-increment-clause-error
returns-in_err-increment-clause-error c = grind (arith, common_steps)

pub returns-then-min-eq0-clause-error : goal.returns-then-min-eq0-clause-error
returns-then-min-eq0-clause-error c = grind (arith, common_steps)
