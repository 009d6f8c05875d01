use Rattle.std.proofs.{Common.arith, Math.Nat.pow-le-pow_right}
use Rattle.plural_rules.proofs.operands.digits.exact_log10.Goals as goal

pub overflow_mul-next : goal.overflow_mul-next
overflow_mul-next c = grind (arith, pow-le-pow_right)
