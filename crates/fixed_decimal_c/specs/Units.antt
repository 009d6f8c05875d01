-- Units by numbers, as C has them.
use Rattle.std.specs.{Prelude.{◌≡◌, ℕ, ◌+◌, true, List, Option, None, Some, Result, Ok, Err, IsSomeAnd}, Str.IsUtf8}
use Rattle.locale_names.specs.{declared.unit_id.{Unit.Unit, UnitId.UnitId}, Texts.short_text, Units.{indices_of, is_sanctioned, named, row_of}}
use Rattle.fixed_decimal_c.specs.{declared.{error.FdError.{FdError, TheVariants.{UnknownOption, UnknownUnit}}, units.FdUnits.FdUnits}, Errors.status_of, Texts.WritesTo}

-- ---- Numbers.

-- one more than the index of the unit
abbrev pub unit_number : UnitId → ℕ
unit_number id = id.index + 1

-- of the unit after `per`; 0 if there is none
abbrev pub per_number : Option UnitId → ℕ
per_number None = 0
per_number (Some id) = unit_number id

-- a unit has these numbers
pub record HasNumbers (first second : ℕ) (unit : Unit) : Type 0 where
  pub unit_is : first ≡ unit_number unit.unit
  pub per_is : second ≡ per_number unit.per

-- ---- Names.

-- a text names a unit that ECMA-402 has
pub record NamesUnit (text : List ℕ) (unit : Unit) : Type 0 where
  pub utf8 : IsUtf8 text
  pub name : named text ≡ Ok (indices_of unit)
  pub sanctioned : is_sanctioned unit ≡ true

-- the unit that a text names; or it names none
abbrev pub IsUnitNamed : Result Unit FdError → List ℕ → Type 0
IsUnitNamed (Ok unit) text = NamesUnit text unit
IsUnitNamed (Err error) text = (error ≡ UnknownUnit) × ((unit : Unit) → NamesUnit text unit → ⊥)

-- the name of the unit with a number
pub record IsNameOf (number : ℕ) (text : List ℕ) : Type 0 where
  pub unit : UnitId
  pub number_is : number ≡ unit_number unit
  pub name : IsSomeAnd (row_of unit) (λ row. text ≡ short_text row.name)

-- no unit has the number
abbrev pub IsNoUnit : FdError → ℕ → Type 0
IsNoUnit error number = (error ≡ UnknownOption) × ((id : UnitId) → number ≡ unit_number id → ⊥)

-- the name is written if it fits; or there is none
abbrev pub WritesUnitName : Result ℕ FdError → ℕ → List ℕ → List ℕ → Type 0
WritesUnitName answer number old new = WritesTo (IsNameOf number) (λ error. IsNoUnit error number) answer old new

-- ---- Answers, as C receives them.

-- an answer that is a unit
abbrev pub fd_units : Result Unit FdError → FdUnits
fd_units (Ok unit) = record { status = 0; unit = unit_number unit.unit; per_unit = per_number unit.per }
fd_units (Err error) = record { status = status_of error; unit = 0; per_unit = 0 }

-- C receives an answer of which P holds
abbrev pub EncodesUnits : FdUnits → (Result Unit FdError → Type 0) → Type 0
EncodesUnits r P = (answer : Result Unit FdError) × (r ≡ fd_units answer) × P answer
