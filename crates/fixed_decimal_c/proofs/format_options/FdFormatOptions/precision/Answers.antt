use Rattle.std.proofs.Common.{rules}
use Rattle.fixed_decimal_c.proofs.lemmas.format_options.Precisions.{no_fraction, no_significant}
use Rattle.fixed_decimal_c.proofs.format_options.FdFormatOptions.precision.Goals as goal

pub returns-in-None-clause-none : goal.returns-in-None-clause-none
returns-in-None-clause-none c = no_fraction c.args.self.now (search rules) c.in-None.ensures.none

pub returns-in-None-significant-clause-none : goal.returns-in-None-significant-clause-none
returns-in-None-significant-clause-none c =
    no_significant c.args.self.now (search rules) c.in-None-significant.ensures.none
