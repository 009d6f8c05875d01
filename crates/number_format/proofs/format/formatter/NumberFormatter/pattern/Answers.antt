use Rattle.std.proofs.Common.{◌≡◌, subst}
use Rattle.std.specs.Prelude.{Option, IfOk}
use Rattle.fixed_decimal.specs.declared.variations.Sign.{Sign}
use Rattle.plural_rules.specs.declared.rules.PluralCategory.{PluralCategory}
use Rattle.number_format.specs.NumberReading.{pattern_at}
use Rattle.number_format.proofs.format.formatter.NumberFormatter.pattern.Goals as goal

pub returns : goal.returns
returns c =
    subst (λ (k : Option PluralCategory × Sign). IfOk c.pattern_at.result (λ p. p ≡ pattern_at c.args.self.now k))
    c.number_key.ensures c.pattern_at.ensures
