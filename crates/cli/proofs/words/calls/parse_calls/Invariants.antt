use Rattle.std.proofs.Common.{◌≡◌, ◌≤◌, length, vec_len, vec_capacity}
use Rattle.std.specs.Prelude.{map}
use Rattle.conversions.specs.Calls.{copied}
use Rattle.cli.proofs.lemmas.words.CallWords.{Begin}
use Rattle.cli.proofs.words.calls.parse_calls.Given as goal

-- the words so far name the calls, and there is room for those of all words
abbrev pub invariant-loop-index : goal.invariant-loop-index
invariant-loop-index l = record {
  names : Begin l.words l.index (map copied l.calls.items);
  count : vec_len l.calls ≡ l.index;
  room : length l.words ≤ vec_capacity l.calls;
}
