use Rattle.std.proofs.Common.{◌≡◌, w16, to_z, of_z, sym, ◌∙◌, ap}
use Rattle.std.specs.Cmp.{both_ways}
use Rattle.decimal_unsigned.proofs.lemmas.decimal.{Comparing.{same_magnitude, same_digits, same_is, is_same, not_same, tells}, Values.{value_of_view, magnitude_kept, hi_kept, lo_kept}}
use Rattle.decimal_unsigned.specs.Unsigned.{Unsigned}
use Rattle.decimal_unsigned.proofs.decimal.equality.UnsignedOverPartialEq.eq.Goals as goal

pub returns-then-self-other : goal.returns-then-self-other
returns-then-self-other g c =
    tells _ _ _ (value_of_view c.self.invariant c.self.view_is, value_of_view c.other.invariant c.other.view_is)
    (sym (not_same _ _ (λ e. c.if-self-other.true (ap (of_z w16) (same_magnitude c.self.invariant c.other.invariant
    (ap (λ (v : Unsigned). v.number) (c.self.view_is ∙ e ∙ sym c.other.view_is)))))))

pub returns-then-self-other-2 : goal.returns-then-self-other-2
returns-then-self-other-2 g c =
    tells _ _ _ (value_of_view c.self.invariant c.self.view_is, value_of_view c.other.invariant c.other.view_is)
    (sym (not_same _ _ (λ e. c.if-self-other-2.true
    (ap (λ (v : Unsigned). of_z w16 v.hi) (c.self.view_is ∙ e ∙ sym c.other.view_is)))))

pub returns-then-self-other-3 : goal.returns-then-self-other-3
returns-then-self-other-3 g c =
    tells _ _ _ (value_of_view c.self.invariant c.self.view_is, value_of_view c.other.invariant c.other.view_is)
    (sym (not_same _ _ (λ e. c.if-self-other-3.true
    (ap (λ (v : Unsigned). of_z w16 v.lo) (c.self.view_is ∙ e ∙ sym c.other.view_is)))))

pub returns : goal.returns
returns g c =
    let t = c.self.invariant in
    let u = c.other.invariant in
    let m : c.self.inside.magnitude ≡ c.other.inside.magnitude =
    sym (magnitude_kept t) ∙ ap (to_z w16) c.if-self-other.false ∙ magnitude_kept u in
    let h : c.self.inside.hi ≡ c.other.inside.hi =
    sym (hi_kept t) ∙ ap (to_z w16) c.if-self-other-2.false ∙ hi_kept u in
    let l : c.self.inside.lo ≡ c.other.inside.lo =
    sym (lo_kept t) ∙ ap (to_z w16) c.if-self-other-3.false ∙ lo_kept u in
    tells _ _ _ (value_of_view t c.self.view_is, value_of_view u c.other.view_is)
    (both_ways c.eq.result _
    (λ e. is_same _ _ (sym c.self.view_is ∙ (let d = c.eq.ensures.0 e in cc) ∙ c.other.view_is))
    (λ e. c.eq.ensures.1 (same_digits t u
    (ap (λ (v : Unsigned). v.number) (c.self.view_is ∙ same_is _ _ e ∙ sym c.other.view_is)))))
