use Rattle.std.proofs.Common.{◌++◌, ◌∙◌}
use Rattle.number_format.specs.WholeUnits.{unit_around}
use Rattle.number_format.proofs.lemmas.read.PatternLists.{piece_text}
use Rattle.number_format.proofs.read.unit_texts.unit_text.Goals as goal

pub returns : goal.returns
returns c =
    let a = unit_around c.args.texts.now c.args.category in
    let around = c.unit_around-around in
    let before = c.as_str.ensures.value ∙ c.short_text-before.ensures
    ∙ piece_text around.result.kind _ a.prefix around.ensures.prefix in
    let after = c.as_str-2.ensures.value ∙ c.short_text-after.ensures
    ∙ piece_text around.result.kind _ a.suffix around.ensures.suffix in
    c.pair_text.ensures ∙ (λ i. before i ++ after i)
