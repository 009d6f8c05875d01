use Rattle.std.proofs.{Common.{◌≡◌, List, length, sym, ◌∙◌, subst, arith, rules}, lemmas.Bool.Decides.nat_tests}
use Rattle.std.specs.Prelude.{All}
use Rattle.number_format.specs.{declared.read.pattern.NumberPattern.NumberPattern, CompactReading.{HasOneText, IsWordReader}}
use Rattle.number_format.proofs.lemmas.read.CompactOwn.{by_power}
use Rattle.number_format.proofs.read.compact.CompactReader.new.Goals.{then-is_empty, else-is_empty}
use Rattle.number_format.proofs.read.compact.CompactReader.new.Goals as goal

pub invariant_of-result : goal.invariant_of-result
invariant_of-result c =
    let f = c.args.formatter in
    let style = c.args.style in
    let reader : IsWordReader f style c.new-reader.result = search rules in (
      reader,
      c.requires.wholes,
      λ t. elim c.if-is_empty.branch [
        | then-is_empty w ↦
            let none : length c.args.wholes.items ≡ 0 =
            grind (arith, nat_tests, c.is_empty.ensures, w.if-is_empty.true) in
            by_power f style c.args.patterns.items c.args.wholes.items c.requires.patterns c.requires.wholes none
            (subst (λ (ps : List NumberPattern). All (λ p. All (HasOneText p) ps) ps) w.as_slice.ensures.value
            (w.are_by_power-is_by_power.ensures (sym w.is_by_power-is ∙ t)))
        | else-is_empty w ↦ absurd (let e = sym w.is_by_power-is ∙ t in cc)
      ],
    )
