use Rattle.std.proofs.Common.{◌≡◌, ◌≤◌, length, take, vec_len, vec_capacity}
use Rattle.fixed_decimal_c.specs.Calls.{AreCalls}
use Rattle.fixed_decimal_c.proofs.calls.decode_long.Given as goal

-- the calls so far are those of the list, and there is room for all
abbrev pub invariant-loop-at : goal.invariant-loop-at
invariant-loop-at l = record {
  calls : AreCalls (take l.at l.calls) l.texts l.list.items;
  count : vec_len l.list ≡ l.at;
  room : length l.calls ≤ vec_capacity l.list;
}
