use Rattle.std.proofs.Common.{arith}
use Rattle.number_format.specs.CompactReading.{HasOneText}
use Rattle.number_format.proofs.lemmas.read.PatternLists.{all_done, all_more}
use Rattle.number_format.proofs.read.compact.powers.have_one_text.Goals as goal

pub loop-other-preserved : goal.loop-other-preserved
loop-other-preserved c =
    let item = c.other-item.result in
    all_more (HasOneText c.args.first.now) c.args.others.now c.loop-other.other-index item item (omega arith)
    c.other-item.is (c.has_one_text.ensures c.if-not-has_one_text.false) c.loop-other.invariant

pub returns : goal.returns
returns c = λ t.
    all_done (HasOneText c.args.first.now) c.args.others.now c.loop-other.other-index (omega arith)
    c.loop-other.invariant
