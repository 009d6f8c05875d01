use Rattle.std.proofs.{Common.{ap, arith}, lemmas.Int.{ints, clamps}}
use Rattle.fixed_decimal.proofs.Calling.{narrow_kept, offset_is}
use Rattle.plural_rules.proofs.lemmas.operands.Shifted.{fraction_at}
use Rattle.plural_rules.proofs.operands.PluralOperands.fraction_digits.Goals as goal

pub new-requires : goal.new-requires
new-requires g c = grind (arith, ints, narrow_kept, offset_is)

pub returns-clause-digits : goal.returns-clause-digits
returns-clause-digits g c = grind (arith, fraction_at, narrow_kept)

pub returns-clause-shown : goal.returns-clause-shown
returns-clause-shown g c = omega (arith, ints, clamps, ap (λ o. o.value.lo) c.self.view_is)
