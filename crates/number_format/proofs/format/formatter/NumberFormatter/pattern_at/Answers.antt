use Rattle.std.proofs.Common.{◌∙◌}
use Rattle.std.specs.Prelude.{pos}
use Rattle.number_format.specs.{NumberReading.outer_at, PatternTexts.pattern_around}
use Rattle.number_format.proofs.lemmas.read.PatternLists.{joined_are}
use Rattle.number_format.proofs.format.formatter.NumberFormatter.pattern_at.Goals as goal

pub returns : goal.returns
returns c =
    let f = c.args.self.now in
    let key = c.args.key in
    let affixes = c.in_ok-affixes.ensures
    ∙ joined_are c.outer_at.result c.affixes.result (outer_at f key.0) (pattern_around f.style key.1) c.outer_at.ensures
    c.affixes.ensures in
    λ i. record { affixes = affixes i; sign = key.1; category = key.0; exponent = pos 0 }
