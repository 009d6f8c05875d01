use Rattle.std.proofs.Common.{rules, refl}
use Rattle.fixed_decimal_c.proofs.lemmas.units.SameUnits.{not_sanctioned}
use Rattle.fixed_decimal_c.proofs.units.unit_named.Goals as goal

pub returns-else-is_sanctioned : goal.returns-else-is_sanctioned
returns-else-is_sanctioned c = (
  refl,
  not_sanctioned c.args.text.now c.in-Ok-try_from_str.unit (search rules) (search rules),
)
