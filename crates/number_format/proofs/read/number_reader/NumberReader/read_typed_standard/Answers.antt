use Rattle.std.proofs.Common.{List, ℕ, inl, inr, ap, subst}
use Rattle.number_format.specs.{declared.format.outer.OuterTexts.OuterTexts, AffixedTexts.{IsReadTyped, Reader}, NumberReading.NumberReader, WholeUnits.{SaysNone, SaysNumber}}
use Rattle.number_format.proofs.read.number_reader.NumberReader.read_typed_standard.Goals as goal

pub returns-in-Some : goal.returns-in-Some
returns-in-Some g c =
    inl (
      c.in-Some.number,
      subst (λ (u : OuterTexts). SaysNumber u c.args.text.now c.in-Some.number)
          (ap (λ (r : NumberReader). r.units) c.self.view_is)
          (subst (λ (t : List ℕ). SaysNumber c.self.inside.units t c.in-Some.number) c.as_bytes.ensures.value
          c.in-Some.ensures),
      c.said.ensures,
    )

pub returns-in-None : goal.returns-in-None
returns-in-None g c =
    inr (
      subst (λ (u : OuterTexts). SaysNone u c.args.text.now) (ap (λ (r : NumberReader). r.units) c.self.view_is)
          (subst (λ (t : List ℕ). SaysNone c.self.inside.units t) c.as_bytes.ensures.value c.in-None.ensures),
      subst (λ (r : Reader). IsReadTyped g.D.DigitStore.L r c.args.alternatives.now c.args.text.now
          c.read_lenient.result)
          (ap (λ (r : NumberReader). r.texts) c.self.view_is) c.read_lenient.ensures,
    )
