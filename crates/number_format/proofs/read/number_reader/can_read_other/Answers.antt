use Rattle.std.proofs.Common.{inl, inr}
use Rattle.number_format.proofs.read.number_reader.can_read_other.Goals as goal

pub returns-then-can_read_exponents : goal.returns-then-can_read_exponents
returns-then-can_read_exponents c =
    (λ t. inl (c.can_read_exponents.ensures.0 c.if-can_read_exponents.true), λ h. c.if-can_read_exponents.true)

pub returns-else-can_read_exponents : goal.returns-else-can_read_exponents
returns-else-can_read_exponents c = (
  λ t. inr (c.can_read_words.ensures.0 t),
  λ h. elim h [
    | inl e ↦ let t = c.can_read_exponents.ensures.1 e in absurd (cc (t, c.if-can_read_exponents.false))
    | inr e ↦ c.can_read_words.ensures.1 e
  ],
)
