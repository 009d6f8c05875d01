use Rattle.std.proofs.Common.{inl, inr}
use Rattle.number_format.proofs.read.number_reader.can_read_notation.Goals as goal

pub returns-then-is_standard : goal.returns-then-is_standard
returns-then-is_standard c = (λ t. inl (c.is_standard.ensures.0 c.if-is_standard.true), λ h. c.if-is_standard.true)

pub returns-else-is_standard : goal.returns-else-is_standard
returns-else-is_standard c = (
  λ t. inr (c.can_read_other.ensures.0 t),
  λ h. elim h [
    | inl e ↦ let t = c.is_standard.ensures.1 e in absurd (cc (t, c.if-is_standard.false))
    | inr e ↦ c.can_read_other.ensures.1 e
  ],
)
