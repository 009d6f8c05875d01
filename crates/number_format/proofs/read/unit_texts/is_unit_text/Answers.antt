use Rattle.std.proofs.Common.{◌++◌, sym, ◌∙◌}
use Rattle.number_format.specs.WholeUnits.{unit_around}
use Rattle.number_format.proofs.lemmas.read.PatternLists.{piece_text}
use Rattle.number_format.proofs.read.unit_texts.is_unit_text.Goals as goal

pub returns-then-around : goal.returns-then-around
returns-then-around c = (
  λ t. absurd (cc),
  λ is. absurd (let e = sym c.if-around.true ∙ c.unit_around-around.ensures.has_number ∙ is.none in cc),
)

pub returns : goal.returns
returns c =
    let a = unit_around c.args.texts.now c.args.category in
    let around = c.unit_around-around in
    let before = piece_text around.result.kind _ a.prefix around.ensures.prefix in
    let after = piece_text around.result.kind _ a.suffix around.ensures.suffix in (
      λ t. record {
        none = sym around.ensures.has_number ∙ c.if-around.false;
        is = c.are_joined.ensures.0 t ∙ (λ i. before i ++ after i);
      },
      λ is. c.are_joined.ensures.1 (is.is ∙ sym (λ i. before i ++ after i)),
    )
