use Rattle.fixed_decimal_c.proofs.format_options.FdFormatOptions.both.Goals as goal

pub returns-in_default-clause-none : goal.returns-in_default-clause-none
returns-in_default-clause-none c b are = c.in_default.ensures.none b.fraction are.0

pub returns-in_default-significant-clause-none : goal.returns-in_default-significant-clause-none
returns-in_default-significant-clause-none c b are = c.in_default-significant.ensures.none b.significant are.1
