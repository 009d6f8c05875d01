use Rattle.std.proofs.Common.{arith}
use Rattle.std.specs.Prelude.{All}
use Rattle.number_format.specs.CompactReading.{HasOneText}
use Rattle.number_format.proofs.lemmas.read.PatternLists.{all_done, all_more}
use Rattle.number_format.proofs.read.compact.powers.are_by_power.Goals as goal

pub loop-pattern-preserved : goal.loop-pattern-preserved
loop-pattern-preserved c =
    let ps = c.args.patterns.now in
    let item = c.pattern-item.result in
    all_more (λ p. All (HasOneText p) ps) ps c.loop-pattern.pattern-index item item (omega arith) c.pattern-item.is
    (c.have_one_text.ensures c.if-not-have_one_text.false) c.loop-pattern.invariant

pub returns : goal.returns
returns c = λ t.
    let ps = c.args.patterns.now in
    all_done (λ p. All (HasOneText p) ps) ps c.loop-pattern.pattern-index (omega arith) c.loop-pattern.invariant
