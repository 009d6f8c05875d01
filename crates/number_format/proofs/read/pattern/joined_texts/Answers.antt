use Rattle.std.proofs.Common.{◌++◌, ◌∙◌}
use Rattle.decimal_format.specs.Symbols.{affixes}
use Rattle.number_format.proofs.read.pattern.joined_texts.Goals as goal

pub returns : goal.returns
returns c =
    let before = c.as_str.ensures.value ∙ c.short_text-before.ensures in
    let prefix = c.as_str-2.ensures.value ∙ c.short_text-prefix.ensures in
    let suffix = c.as_str-3.ensures.value ∙ c.short_text-suffix.ensures in
    let after = c.as_str-4.ensures.value ∙ c.short_text-after.ensures in
    λ i. affixes ((c.pair_text.ensures ∙ (λ j. before j ++ prefix j)) i)
    ((c.pair_text-2.ensures ∙ (λ j. suffix j ++ after j)) i)
