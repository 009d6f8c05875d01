-- Units in skeletons: by their identifiers, or by their types too.
use Rattle.std.specs.{Prelude.{ℕ, ◌+◌, ◌-◌, ◌==◌, nat_lt, Bool, ◌&&◌, if◌then◌else◌, nat_eq, List, [], ◌∷◌, map, length, take, drop, slice_index, slice_get, codes, Option, Some, None, unwrap_or}, List.{list_any, position_from, starts_with}, Option.{option_and_then, option_map_or}, Str.bytes_eq}
use Rattle.locale_names.specs.{declared.tables.{rows.units.UnitRow.UnitRow, units.TheConstants.UNITS}, Texts.{short_text, text_or_nothing}, Units.{Indices, unit_index, split_per, is_compound}}
use Rattle.number_skeleton.specs.{declared.choices.ChosenUnit.{ChosenUnit, TheVariants.{Percent, Permille, Units}}, Counts.run, Words.{is_name, padded}}

-- ---- The units of CLDR, and their texts.
-- an index, if it is that of a unit
unfoldable pub unit_at : ℕ → Option ℕ
unit_at index = if nat_lt index (length UNITS) then Some index else None

unfoldable pub index_named : List ℕ → Option ℕ
index_named name = unit_index name

abbrev pub name_of : UnitRow → List ℕ
name_of row = short_text row.name

-- an index is that of two units
unfoldable pub is_two : ℕ → Bool
is_two index = is_compound index

-- the identifier of the unit with an index
unfoldable pub name_at : ℕ → List ℕ
name_at index = option_map_or name_of (slice_get UNITS index) []

-- the type of the unit with an index, as `length`
unfoldable pub type_at : ℕ → List ℕ
type_at index = option_map_or (λ (row : UnitRow). short_text row.unit_type) (slice_get UNITS index) []

-- ---- A unit and its type.
-- the units of people's ages, which have the texts of the units of time
abbrev pub person_units : List (List ℕ)
person_units =
    map (padded 16)
    (codes "day-person" ∷ codes "week-person" ∷ codes "month-person" ∷ codes "year-person" ∷ [])

unfoldable pub is_person : List ℕ → Bool
is_person text = list_any (λ name. is_name name text) person_units

-- `day` of `day-person`
unfoldable pub without_person : List ℕ → List ℕ
without_person text = if is_person text then take (length text - 7) text else text

-- the unit that bytes name: that of `day` for `day-person`
unfoldable pub bytes_named : List ℕ → Option ℕ
bytes_named bytes = index_named (text_or_nothing (without_person bytes))

-- two units, of which the second is not two
abbrev pub two_units : Option ℕ → Option ℕ → Option Indices
two_units None second = None
two_units (Some first) None = None
two_units (Some first) (Some second) = if is_two second then None else Some (first, Some second)

-- the unit that bytes name, or two units with `-per-` between them
abbrev pub units_by : Option ℕ → Option (List ℕ × List ℕ) → Option Indices
units_by (Some index) parts = Some (index, None)
units_by None parts = option_and_then (λ p. two_units (bytes_named p.0) (bytes_named p.1)) parts

unfoldable pub units_named : List ℕ → Option Indices
units_named bytes = units_by (bytes_named bytes) (split_per bytes)

-- percent and permille are units that have patterns of their own
unfoldable pub hundredth : List ℕ → Option ChosenUnit
hundredth text =
    if is_name (padded 16 (codes "percent")) text then Some Percent
    else if is_name (padded 16 (codes "permille")) text then Some Permille
    else None

abbrev pub of_type : List ℕ → Option ℕ → Option ℕ
of_type kind None = None
of_type kind (Some index) = if bytes_eq (type_at index) kind then Some index else None

-- the index of a unit by its type and its identifier: `length-meter`
unfoldable pub measured : List ℕ → Option ℕ
measured text =
    let kind = run 97 122 text in
    if slice_index text kind == 45
    then of_type (take kind text) (bytes_named (drop (kind + 1) text))
    else None

unfoldable pub measured_unit : ℕ → ChosenUnit
measured_unit index = unwrap_or (hundredth (name_at index)) (Units (index, None))

-- ---- Two units.
-- a name is two others with `-per-` between them
abbrev pub is_joined : List ℕ → List ℕ → List ℕ → Bool
is_joined first second name =
    let rest = drop (length first) name in
    starts_with nat_eq name first && starts_with nat_eq rest (codes "-per-") && bytes_eq (drop 5 rest) second

unfoldable pub index_joined : List ℕ → List ℕ → List UnitRow → ℕ → Option ℕ
index_joined first second units from = position_from (λ row. is_joined first second (name_of row)) from units

-- two units are one if `-per-` between them makes the identifier of one
unfoldable pub joined : ℕ → ℕ → Indices
joined unit per =
    option_map_or (λ both. (both, None)) (index_joined (name_at unit) (name_at per) UNITS 0) (unit, Some per)
