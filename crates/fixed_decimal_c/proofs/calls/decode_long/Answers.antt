use Rattle.std.proofs.Common.{arith}
use Rattle.fixed_decimal_c.proofs.lemmas.calls.Decoding.{decodes_more, unknown_at}
use Rattle.fixed_decimal_c.proofs.calls.decode_long.Goals as goal

pub returns-in_default-decode-clause-err : goal.returns-in_default-decode-clause-err
returns-in_default-decode-clause-err c = (
  (c.loop-at.list.items, c.loop-at.invariant.calls),
  unknown_at c.args.calls.now c.args.texts.now c.loop-at.at _ c.loop-at-test.true c.in_default-decode.ensures.none,
)

pub loop-at-preserved : goal.loop-at-preserved
loop-at-preserved c = record {
  calls = rw c.push_reserved.ensures.items
      (decodes_more c.args.calls.now c.args.texts.now c.loop-at.list.items c.loop-at.at _ c.in-Some.call
      c.loop-at-test.true c.loop-at.invariant.calls c.in-Some.ensures.some);
  count = omega (arith, c.push_reserved.ensures.len, c.loop-at.invariant.count);
  room = omega (arith, c.push_reserved.ensures.capacity, c.loop-at.invariant.room);
}
