use Rattle.std.proofs.Common.{subst}
use Rattle.number_format.specs.NumberText.{around_by, AreParts}
use Rattle.number_format.proofs.format.formatted_number.FormattedNumber.affixes.Goals as goal

pub returns : goal.returns
returns c =
    let n = c.args.self.now in
    subst (λ pattern. AreParts (around_by n.formatter.now.style n.value.sign pattern) c.affixes.result)
    c.compact_pattern.ensures.value c.affixes.ensures
