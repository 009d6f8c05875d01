use Rattle.std.proofs.Common.{◌∙◌}
use Rattle.number_format.specs.{CompactReading.inner_at, NumberText.outer_by}
use Rattle.number_format.proofs.lemmas.read.PatternLists.{joined_are}
use Rattle.number_format.proofs.format.formatter.NumberFormatter.word_texts.Goals as goal

pub returns : goal.returns
returns c =
    let f = c.args.self.now in
    c.joined_texts.ensures
    ∙ joined_are c.outer_around.result c.inner_at.result (outer_by f c.args.key.whole)
    (inner_at f c.args.style c.args.key) c.outer_around.ensures c.inner_at.ensures
