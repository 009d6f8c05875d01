use Rattle.std.proofs.Common.{sym, ◌∙◌, inl, inr, arith}
use Rattle.std.specs.Ordering.{nat_cmp}
use Rattle.decimal_unsigned.proofs.lemmas.decimal.Comparing.{fronts_order}
use Rattle.decimal_unsigned.proofs.decimal.compare.compare_digits.Goals as goal

pub returns-then-front-other_front : goal.returns-then-front-other_front
returns-then-front-other_front g c =
    let ds = g.D.DigitStore.digits c.args.digits.now in
    let es = g.E.DigitStore.digits c.args.other.now in
    let left = c.bcd_at-front.ensures in
    let right = c.bcd_at-other_front.ensures in
    c.cmp.ensures
    ∙ (λ k. nat_cmp (left k) (right k))
    ∙ fronts_order ds es c.requires.stripped.back c.requires.other_stripped.back
    (g.met.D.DigitStore.are_digits c.args.digits.now) (g.met.E.DigitStore.are_digits c.args.other.now)
    (elim c.then-front-other_front.either [
      | inl h ↦ inl (λ e. h (left ∙ e ∙ sym right))
      | inr h ↦ inr (
        omega (arith, h.1, c.max-longest.ensures, c.len-then-shortest-le16.ensures, c.len-then-shortest-le16-2.ensures),
        omega (arith, h.1, c.max-longest.ensures, c.len-then-shortest-le16.ensures, c.len-then-shortest-le16-2.ensures),
      )
    ])
