use Rattle.std.proofs.Common.{Ok, Err, refl, subst}
use Rattle.number_format.specs.Formatters.{IsFormatterWith}
use Rattle.fixed_decimal_c.specs.declared.error.FdError.TheVariants.{Formatter}
use Rattle.fixed_decimal_c.proofs.lemmas.formatter.Kept.{lacks}
use Rattle.fixed_decimal_c.proofs.formatter.FdFormatter.format.Goals as goal

pub returns-in_default : goal.returns-in_default
returns-in_default c = (Err Formatter, (refl, c.in_default.ensures.none), (refl, refl))

pub returns-in_default-with_outer : goal.returns-in_default-with_outer
returns-in_default-with_outer c =
    let missing = c.in_default-with_outer.ensures.none in
    (Err Formatter, lacks c.args.self.now c.in-Some.ids c.in-Some.ensures.some.0 missing, (refl, refl))

pub returns : goal.returns
returns c =
    let ids = c.in-Some.ids in
    let o = c.in-Some.options in
    let f = c.in-Some-with_outer.formatter in
    let (rows, options) = c.in-Some.ensures.some in
    let is =
    subst (λ texts. IsFormatterWith ids texts o f) c.outer_of_one-outer.ensures c.in-Some-with_outer.ensures.some in
    (Ok f, (ids, o, rows, options, is), c.format_text.ensures)
