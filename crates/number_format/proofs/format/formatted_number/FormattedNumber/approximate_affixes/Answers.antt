use Rattle.std.proofs.Common.{subst}
use Rattle.number_format.specs.{FormattedRanges.AreWideAffixes, RangeText.approximate_around}
use Rattle.number_format.proofs.format.formatted_number.FormattedNumber.approximate_affixes.Goals as goal

pub returns : goal.returns
returns c =
    let n = c.args.self.now in
    subst (λ pattern. AreWideAffixes
    (approximate_around n.formatter.now.style c.args.approximately n.value.sign pattern) c.affixes.result)
    c.compact_pattern.ensures.value c.affixes.ensures
