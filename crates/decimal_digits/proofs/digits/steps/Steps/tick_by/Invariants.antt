use Rattle.std.proofs.Common.{◌≡◌, ◌+◌}
use Rattle.decimal_digits.proofs.digits.steps.Steps.tick_by.Given as goal

abbrev pub invariant-loop : goal.invariant-loop
invariant-loop l = l.self.count ≡ l.initial.self.count + l.counter
