use Rattle.std.proofs.Common.{rules}
use Rattle.fixed_decimal_c.proofs.lemmas.styles.CodedStyles.{no_amount, no_unit}
use Rattle.fixed_decimal_c.proofs.styles.StyleCodes.decode.Goals as goal

pub returns-in-None-clause-none : goal.returns-in-None-clause-none
returns-in-None-clause-none c = no_amount c.args.self.now (search rules) c.in-None.ensures.none

pub returns-in-None-unit-clause-none : goal.returns-in-None-unit-clause-none
returns-in-None-unit-clause-none c = no_unit c.args.self.now (search rules) c.in-None-unit.ensures.none
