use Rattle.std.proofs.Common.{w16, to_z, of_z, sym, ◌∙◌, ap, arith, inl, inr}
use Rattle.std.specs.Ordering.{nat_cmp}
use Rattle.decimal_unsigned.proofs.lemmas.decimal.{Comparing.{none_order, magnitudes_order, numbers_order, ordered}, Values.magnitude_kept}
use Rattle.decimal_unsigned.proofs.decimal.UnsignedOver.compare.Goals as goal

pub returns-then-len-eq0 : goal.returns-then-len-eq0
returns-then-len-eq0 g c =
    ordered c.self.invariant c.other.invariant c.self.view_is c.other.view_is
    (c.cmp.ensures
    ∙ (λ k. nat_cmp (c.len-len.ensures k) (c.len-other_len.ensures k))
    ∙ none_order c.self.invariant c.other.invariant (elim c.then-len-eq0.either [
      | inl h ↦ inl (sym c.len-len.ensures ∙ h)
      | inr h ↦ inr (sym c.len-other_len.ensures ∙ h.1)
    ]))

pub returns-then-self-other : goal.returns-then-self-other
returns-then-self-other g c =
    ordered c.self.invariant c.other.invariant c.self.view_is c.other.view_is
    (c.cmp-then-self-other.ensures
    ∙ magnitudes_order c.self.invariant c.other.invariant (omega arith) (omega arith)
    (λ e. c.if-self-other.true (ap (of_z w16) e)))

pub returns : goal.returns
returns g c =
    ordered c.self.invariant c.other.invariant c.self.view_is c.other.view_is
    (c.compare_digits.ensures
    ∙ numbers_order c.self.invariant c.other.invariant
    (sym (magnitude_kept c.self.invariant) ∙ ap (to_z w16) c.if-self-other.false ∙ magnitude_kept c.other.invariant))
