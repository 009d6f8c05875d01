use Rattle.std.proofs.{Common.{◌∙◌, None, rules, w16, w32, FitsSigned}, lemmas.Int.to_z-of_z}
use Rattle.number_format.specs.{CompactReading.inner_at, NumberText.outer_by}
use Rattle.number_format.proofs.lemmas.read.PatternLists.{joined_are}
use Rattle.number_format.proofs.format.formatter.NumberFormatter.word_pattern.Goals as goal

pub returns : goal.returns
returns c =
    let f = c.args.self.now in
    let key = c.args.key in
    let magnitude_fits : FitsSigned w16 key.magnitude = search rules in
    let exponent_fits : FitsSigned w32 c.exponent_at.result = search rules in
    let at = simp to_z-of_z at c.exponent_at.ensures.value in
    let exponent = to_z-of_z w32 c.exponent_at.result exponent_fits ∙ at in
    let affixes = c.in_ok-affixes.ensures
    ∙ joined_are c.outer_around-outer.result c.inner_at.result (outer_by f key.whole) (inner_at f c.args.style key)
    c.outer_around-outer.ensures c.inner_at.ensures in
    λ i. record { affixes = affixes i; sign = key.sign; category = None; exponent = exponent i }
