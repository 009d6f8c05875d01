use Rattle.std.proofs.{Common.{sym, ap, ◌∙◌}, lemmas.Bool.false≢true}
use Rattle.number_format.specs.Increments.{is_increment}
use Rattle.fixed_decimal_c.proofs.lemmas.format_options.Increments.{is_listed}
use Rattle.fixed_decimal_c.proofs.format_options.FdFormatOptions.multiples.Goals as goal

pub returns-in_default-clause-none : goal.returns-in_default-clause-none
returns-in_default-clause-none c m digits increment =
    let i = m.increment in
    false≢true (sym c.in_default.ensures.err.1 ∙ ap is_increment (sym increment)
    ∙ is_listed i.base i.zeros i.few_zeros i.at_most)
