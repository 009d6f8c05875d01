use Rattle.std.proofs.Common.{◌≡◌, length, take}
use Rattle.fixed_decimal_c.specs.Calls.{AreCalls}
use Rattle.fixed_decimal_c.proofs.calls.decode_short.Given as goal

-- the calls so far are the first of the list
abbrev pub invariant-loop-at : goal.invariant-loop-at
invariant-loop-at l = record {
  calls : AreCalls (take l.at l.calls) l.texts (take l.at l.list);
  room : length l.list ≡ 8;
}
