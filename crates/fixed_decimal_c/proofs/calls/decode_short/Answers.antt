use Rattle.std.proofs.Common.{◌<◌, ◌∙◌, length, take, length-set, arith}
use Rattle.fixed_decimal_c.proofs.lemmas.calls.Decoding.{decodes_set, unknown_at}
use Rattle.fixed_decimal_c.proofs.calls.decode_short.Goals as goal

pub loop-at-preserved : goal.loop-at-preserved
loop-at-preserved c =
    let inside : c.loop-at.at < length c.loop-at.list =
    omega (arith, c.loop-at.invariant.room, c.loop-at-test.true, c.requires) in
    record {
      calls = decodes_set c.args.calls.now c.args.texts.now c.loop-at.list c.loop-at.at _ c.in-Some.call
          c.loop-at-test.true inside c.loop-at.invariant.calls c.in-Some.ensures.some;
      room = length-set c.loop-at.list c.loop-at.at c.in-Some.call ∙ c.loop-at.invariant.room;
    }

pub returns-in-None-clause-err : goal.returns-in-None-clause-err
returns-in-None-clause-err c = (
  (take c.loop-at.at c.loop-at.list, c.loop-at.invariant.calls),
  unknown_at c.args.calls.now c.args.texts.now c.loop-at.at _ c.loop-at-test.true c.in-None.ensures.none,
)
