use Rattle.std.proofs.Common.{inl, inr}
use Rattle.number_format.proofs.read.apart.are_pair_apart.Goals as goal

pub returns-then-are_prefixes_apart : goal.returns-then-are_prefixes_apart
returns-then-are_prefixes_apart c =
    (λ t. inl (c.are_prefixes_apart.ensures.0 t), λ pair. c.if-are_prefixes_apart.true)

pub returns-else-are_prefixes_apart : goal.returns-else-are_prefixes_apart
returns-else-are_prefixes_apart c = (
  λ t. inr (c.are_suffixes_apart.ensures.0 t),
  λ pair. elim pair [
    | inl h ↦ let t = c.are_prefixes_apart.ensures.1 h in absurd (cc (t, c.if-are_prefixes_apart.false))
    | inr h ↦ c.are_suffixes_apart.ensures.1 h
  ],
)
