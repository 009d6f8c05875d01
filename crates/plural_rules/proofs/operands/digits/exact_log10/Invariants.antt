use Rattle.std.proofs.Common.{◌≡◌, ◌^◌}
use Rattle.plural_rules.proofs.operands.digits.exact_log10.Given as goal

abbrev pub invariant-loop-zeros : goal.invariant-loop-zeros
invariant-loop-zeros l = l.next ≡ 10 ^ l.zeros
