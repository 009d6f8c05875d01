use Rattle.std.proofs.{Common.{ap, arith, rules, subst, w16, FitsSigned}, lemmas.Int.to_z-of_z}
use Rattle.number_format.specs.{declared.read.compact.keys.CompactKey.CompactKey, CompactReading.IsSameBefore}
use Rattle.number_format.proofs.format.formatter.NumberFormatter.is_same_row.Goals as goal

pub returns : goal.returns
returns c = λ t.
    let fits : FitsSigned w16 c.key_at.result.magnitude = search rules in
    let same = simp to_z-of_z at c.is_same_before.ensures in
    let magnitude = ap (λ (k : CompactKey). k.magnitude) c.key_at.ensures in
    (omega arith, subst (IsSameBefore c.args.self.now c.args.style) magnitude (same t))
