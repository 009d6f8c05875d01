use Rattle.std.proofs.Common.{◌∙◌, ap}
use Rattle.std.specs.Prelude.{Option}
use Rattle.fixed_decimal.specs.declared.variations.Sign.{Sign}
use Rattle.plural_rules.specs.declared.rules.PluralCategory.{PluralCategory}
use Rattle.number_format.specs.NumberReading.{pattern_at}
use Rattle.number_format.proofs.format.formatter.NumberFormatter.pattern_texts.Goals as goal

pub returns : goal.returns
returns c =
    c.texts_at.ensures
    ∙ ap (λ (k : Option PluralCategory × Sign). (pattern_at c.args.self.now k).affixes) c.number_key.ensures
