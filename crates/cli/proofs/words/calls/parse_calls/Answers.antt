use Rattle.std.proofs.{Common.{◌≡◌, Some, None, string_bytes, arith}, lemmas.List.map-append}
use Rattle.conversions.specs.Calls.{call_of, copied}
use Rattle.cli.proofs.lemmas.words.CallWords.{calls_next, calls_end}
use Rattle.cli.proofs.words.calls.parse_calls.Goals as goal

pub returns-in_default-call-clause-err : goal.returns-in_default-call-clause-err
returns-in_default-call-clause-err c =
    let word = c.index-words-index.result in
    let unknown : None ≡ call_of (string_bytes word) = rw c.as_str.ensures.value at c.in_default-call.ensures in
    rw (calls_end c.args.words.now c.loop-index.index _ word c.loop-index-test.true c.index-words-index.is
    c.loop-index.invariant.names unknown)
    (rw c.as_str-in_default-call.ensures.value at c.error_of_word.ensures)

pub loop-index-preserved : goal.loop-index-preserved
loop-index-preserved c =
    let word = c.index-words-index.result in
    let call = copied c.in-Some-call.call in
    let named : Some call ≡ call_of (string_bytes word) = rw c.as_str.ensures.value at c.in-Some-call.ensures in
    let capacity = c.push_reserved.ensures.capacity in
    record {
      names = rw (c.push_reserved.ensures.items, map-append)
          (calls_next c.args.words.now c.loop-index.index _ word c.loop-index-test.true c.index-words-index.is
          c.loop-index.invariant.names call named);
      count = omega (arith, c.push_reserved.ensures.len, c.loop-index.invariant.count);
      room = omega (arith, capacity, c.loop-index.invariant.room);
    }
