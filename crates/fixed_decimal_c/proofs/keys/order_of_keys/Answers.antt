use Rattle.std.proofs.Common.{rules, ◌≡◌, ◌∙◌}
use Rattle.std.specs.Ordering.{int_cmp}
use Rattle.fixed_decimal_c.specs.Keys.{key_units}
use Rattle.fixed_decimal_c.proofs.lemmas.keys.Units.{order_of_units}
use Rattle.fixed_decimal_c.proofs.keys.order_of_keys.Goals as goal

-- src/keys.rt
pub returns-clause-order : goal.returns-clause-order
returns-clause-order c v w left right =
    let units : c.cmp.result ≡ int_cmp (key_units c.args.left.now) (key_units c.args.right.now) = search rules in
    units ∙ order_of_units (key_units c.args.left.now) (key_units c.args.right.now) v w left right
