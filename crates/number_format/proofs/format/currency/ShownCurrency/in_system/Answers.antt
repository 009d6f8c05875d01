use Rattle.std.proofs.Common.{◌≡◌, Bool, true, false, refl, ◌∙◌}
use Rattle.std.specs.Prelude.{◌&&◌}
use Rattle.number_format.specs.NumberStyles.{keeps_spaces}
use Rattle.number_format.proofs.format.currency.ShownCurrency.in_system.Goals.{then-self, else-self, then-has_spaces, else-has_spaces, then-self-2, else-self-2, then-self-3, else-self-3}
use Rattle.number_format.proofs.format.currency.ShownCurrency.in_system.Goals as goal

-- a space of the symbol is shown if the numbering system keeps it
shown : (space has spaced keeps is : Bool) → (space ≡ true → has ≡ true) → (has ≡ true → spaced ≡ keeps)
    → (space ≡ true → is ≡ spaced) → (space ≡ false → is ≡ space) → is ≡ (space && keeps)
shown true has spaced keeps is has_if spaced_if is_if is_else = is_if refl ∙ spaced_if (has_if refl)
shown false has spaced keeps is has_if spaced_if is_if is_else = is_else refl

pub returns : goal.returns
returns c system named =
    let self = c.args.self.now in
    let keeps = keeps_spaces system in
    let has = c.if-self.has_spaces in
    let spaced = c.if-has_spaces.spaced in
    let before_has : self.space_before ≡ true → has ≡ true = λ e.
    elim c.if-self.branch [
      | then-self w ↦ w.has_spaces-is ∙ e
      | else-self w ↦ let not = w.if-self.false in absurd (cc)
    ] in
    let after_has : self.space_after ≡ true → has ≡ true = λ e.
    elim c.if-self.branch [
      | then-self w ↦ w.has_spaces-is ∙ w.if-self.true
      | else-self w ↦ w.has_spaces-is ∙ e
    ] in
    let keeps_if : has ≡ true → spaced ≡ keeps = λ e.
    elim c.if-has_spaces.branch [
      | then-has_spaces w ↦ w.spaced-is ∙ w.keeps_spaces-spaced.ensures system named
      | else-has_spaces w ↦ let not = w.if-has_spaces.false in absurd (cc)
    ] in
    let before = shown self.space_before has spaced keeps c.if-self-2.result before_has keeps_if (λ e.
    elim c.if-self-2.branch [
      | then-self-2 w ↦ w.result-is
      | else-self-2 w ↦ let not = w.if-self-2.false in absurd (cc)
    ]) (λ e.
    elim c.if-self-2.branch [
      | then-self-2 w ↦ let is = w.if-self-2.true in absurd (cc)
      | else-self-2 w ↦ w.result-is
    ]) in
    let after = shown self.space_after has spaced keeps c.if-self-3.result after_has keeps_if (λ e.
    elim c.if-self-3.branch [
      | then-self-3 w ↦ w.result-is
      | else-self-3 w ↦ let not = w.if-self-3.false in absurd (cc)
    ]) (λ e.
    elim c.if-self-3.branch [
      | then-self-3 w ↦ let is = w.if-self-3.true in absurd (cc)
      | else-self-3 w ↦ w.result-is
    ]) in
    λ i. record self { space_before = before i; space_after = after i }
