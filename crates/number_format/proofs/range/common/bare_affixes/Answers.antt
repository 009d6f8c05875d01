use Rattle.std.proofs.Common.{subst}
use Rattle.number_format.specs.{NumberText.{AreParts, around_by}, RangeText.without_spaces}
use Rattle.number_format.proofs.range.common.bare_affixes.Goals as goal

pub returns : goal.returns
returns c =
    let n = c.args.number.now in
    let shown = c.affixes.result in
    subst (λ pattern. AreParts (around_by (without_spaces n.formatter.now.style) n.value.sign pattern) shown)
    c.compact_pattern.ensures.value (rw c.requires at c.affixes.ensures)
