use Rattle.std.proofs.Common.{subst}
use Rattle.std.specs.Prelude.{IfSome}
use Rattle.number_format.specs.Formatters.{IsFormatterWith}
use Rattle.number_format.proofs.format.formatter.NumberFormatter.at.Goals as goal

pub returns-clause-some : goal.returns-clause-some
returns-clause-some c =
    subst (λ texts. IfSome c.with_outer.result (IsFormatterWith c.args.ids.now texts c.args.options.now))
    c.outer_of_one.ensures c.with_outer.ensures.some
