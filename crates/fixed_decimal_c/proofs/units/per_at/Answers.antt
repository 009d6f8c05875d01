use Rattle.std.proofs.Common.{◌≡◌, ◌≢◌, ℕ, Option, Some, None, rules}
use Rattle.locale_names.specs.declared.unit_id.UnitId.{UnitId}
use Rattle.fixed_decimal_c.specs.Units.{per_number, unit_number}
use Rattle.fixed_decimal_c.proofs.units.per_at.Goals as goal

-- a number of no unit is that of no unit after `per`, but 0
no_per : (n : ℕ) → n ≢ 0 → ((id : UnitId) → n ≡ unit_number id → ⊥) → (per : Option UnitId) → n ≡ per_number per → ⊥
no_per n positive none None is = positive is
no_per n positive none (Some id) is = none id is

pub returns-in-None-clause-none : goal.returns-in-None-clause-none
returns-in-None-clause-none c = no_per c.args.number (search rules) c.in-None.ensures.none
