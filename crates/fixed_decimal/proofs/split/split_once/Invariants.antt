use Rattle.std.proofs.Common.{◌≡◌, ◌==◌, false, take}
use Rattle.std.specs.List.{list_any}
use Rattle.fixed_decimal.proofs.split.split_once.Given as goal

abbrev pub invariant-loop-at : goal.invariant-loop-at
invariant-loop-at l = list_any (λ c. c == l.letter) (take l.at l.text) ≡ false
