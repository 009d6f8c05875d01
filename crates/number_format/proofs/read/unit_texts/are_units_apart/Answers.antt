use Rattle.std.proofs.Common.{List, ℕ, refl, sym, ◌∙◌, subst}
use Rattle.plural_rules.specs.declared.rules.PluralCategory.{PluralCategory}
use Rattle.number_format.specs.WholeUnits.{IsUnitText}
use Rattle.number_format.proofs.read.unit_texts.are_units_apart.Goals as goal

pub returns-then-one : goal.returns-then-one
returns-then-one c = (
  λ t text one two. absurd (let e = sym c.if-one.true ∙ c.unit_around-one.ensures.has_number ∙ one.none in cc),
  λ apart. refl,
)

pub returns-then-is_unit_text : goal.returns-then-is_unit_text
returns-then-is_unit_text c =
    let same = c.as_bytes.ensures.value ∙ c.as_str.ensures.value ∙ c.unit_text-text.ensures in (
      λ t. absurd (cc),
      λ apart. absurd (apart c.as_bytes.result.now
          (record { none = sym c.unit_around-one.ensures.has_number ∙ c.if-one.false; is = same })
          (c.is_unit_text.ensures.0 c.if-is_unit_text.true)),
    )

pub returns : goal.returns
returns c =
    let same = c.as_bytes.ensures.value ∙ c.as_str.ensures.value ∙ c.unit_text-text.ensures in (
      λ t text one two.
          let t = c.is_unit_text.ensures.1
          (subst (λ (x : List ℕ). IsUnitText c.args.texts.now x PluralCategory.Two) (one.is ∙ sym same) two) in
          absurd (cc (t, c.if-is_unit_text.false)),
      λ apart. refl,
    )
