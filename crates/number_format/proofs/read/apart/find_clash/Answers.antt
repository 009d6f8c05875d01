use Rattle.std.proofs.Common.{arith}
use Rattle.std.specs.Prelude.{All}
use Rattle.number_format.specs.AffixedTexts.{AreToldApart}
use Rattle.number_format.proofs.lemmas.read.PatternLists.{all_done, all_more, listed_at, named_by_all}
use Rattle.number_format.proofs.read.apart.find_clash.Goals as goal

pub returns-in-Some : goal.returns-in-Some
returns-in-Some c =
    let item = c.pattern-item.result in (
      item,
      listed_at c.args.patterns.now c.loop-pattern.pattern-index item item (omega arith) c.pattern-item.is,
      c.in-Some.ensures,
    )

pub loop-pattern-preserved : goal.loop-pattern-preserved
loop-pattern-preserved c =
    let s = c.args.symbols.now in
    let ps = c.args.patterns.now in
    let item = c.pattern-item.result in
    all_more (λ p. All (AreToldApart s p) ps) ps c.loop-pattern.pattern-index item item (omega arith) c.pattern-item.is
    c.in_default.ensures c.loop-pattern.invariant

pub returns : goal.returns
returns c =
    let s = c.args.symbols.now in
    let ps = c.args.patterns.now in
    named_by_all s ps
    (all_done (λ p. All (AreToldApart s p) ps) ps c.loop-pattern.pattern-index (omega arith) c.loop-pattern.invariant)
