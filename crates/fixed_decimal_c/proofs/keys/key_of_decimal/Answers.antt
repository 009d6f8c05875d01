use Rattle.std.proofs.Common.{rules, ◌≡◌, ◌^◌, pos}
use Rattle.std.specs.Prelude.{Ok}
use Rattle.decimal_unsigned.specs.Edits.{multiplied}
use Rattle.fixed_decimal.specs.ToInteger.{as_signed}
use Rattle.fixed_decimal_c.specs.Keys.{key_units}
use Rattle.fixed_decimal_c.proofs.lemmas.keys.Units.{has_units}
use Rattle.fixed_decimal_c.proofs.keys.key_of_decimal.Goals as goal

-- src/keys.rt
pub returns-clause-ok : goal.returns-clause-ok
returns-clause-ok c =
    let moved : c.multiply_pow10.new.self ≡ multiplied c.args.value.absolute (pos 18) = search rules in
    let is : as_signed (2 ^ 127) (record c.args.value { absolute = multiplied c.args.value.absolute (pos 18) })
    ≡ Ok (key_units c.key_of_units.result) =
    search rules in
    has_units c.args.value (key_units c.key_of_units.result) is
