use Rattle.std.proofs.Common.{◌≡◌, [], ◌∷◌, ◌++◌, Some, None, string_bytes}
use Rattle.conversions.specs.Calls.{call_of, copied}
use Rattle.cli.proofs.lemmas.words.CallWords.{calls_next, calls_end}
use Rattle.cli.proofs.words.calls.first_error.Goals as goal

pub returns-in_default-clause-some : goal.returns-in_default-clause-some
returns-in_default-clause-some c =
    let word = c.index-words-index.result in
    let unknown : None ≡ call_of (string_bytes word) = rw c.as_str.ensures.value at c.in_default.ensures in
    let (calls, names) = c.loop-index.invariant in
    rw (calls_end c.args.words.now c.loop-index.index calls word c.loop-index-test.true c.index-words-index.is names
    unknown)
    (rw c.as_str-in_default.ensures.value at c.error_of_word.ensures)

pub loop-index-preserved : goal.loop-index-preserved
loop-index-preserved c =
    let word = c.index-words-index.result in
    let call = copied c.in-Some.field-0 in
    let named : Some call ≡ call_of (string_bytes word) = rw c.as_str.ensures.value at c.in-Some.ensures in
    let (calls, names) = c.loop-index.invariant in (
      calls ++ (call ∷ []),
      calls_next c.args.words.now c.loop-index.index calls word c.loop-index-test.true c.index-words-index.is names
          call named,
    )
