use Rattle.std.proofs.Common.{◌∙◌}
use Rattle.number_format.specs.{NumberReading.outer_at, PatternTexts.pattern_around}
use Rattle.number_format.proofs.lemmas.read.PatternLists.{joined_are}
use Rattle.number_format.proofs.format.formatter.NumberFormatter.texts_at.Goals as goal

pub returns : goal.returns
returns c =
    let f = c.args.self.now in
    c.joined_texts.ensures
    ∙ joined_are c.outer_at.result c.affixes.result (outer_at f c.args.key.0) (pattern_around f.style c.args.key.1)
    c.outer_at.ensures c.affixes.ensures
