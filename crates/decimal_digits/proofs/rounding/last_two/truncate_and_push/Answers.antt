use Rattle.std.proofs.{Common.arith, lemmas.Grind.common_steps}
use Rattle.decimal_digits.proofs.lemmas.digits.Nibbles.{nibble_rules}
use Rattle.decimal_digits.proofs.rounding.last_two.truncate_and_push.Goals as goal

pub returns-then-index-len-clause-ok : goal.returns-then-index-len-clause-ok
returns-then-index-len-clause-ok g c = grind (arith, nibble_rules)

pub returns-then-index-len-clause-accesses : goal.returns-then-index-len-clause-accesses
returns-then-index-len-clause-accesses g c = omega arith

pub returns-in_ok-reserve : goal.returns-in_ok-reserve
returns-in_ok-reserve g c = grind (arith, common_steps)
