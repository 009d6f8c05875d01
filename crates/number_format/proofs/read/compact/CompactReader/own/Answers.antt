use Rattle.std.proofs.Common.{inl, inr, refl}
use Rattle.number_format.proofs.read.compact.CompactReader.own.Goals as goal

pub returns-then-is_own : goal.returns-then-is_own
returns-then-is_own g c = inl (c.is_own.ensures.0 c.if-is_own.true, c.times.ensures)

pub returns : goal.returns
returns g c = inr (λ own. let t = c.is_own.ensures.1 own in absurd (cc (t, c.if-is_own.false)), refl)
