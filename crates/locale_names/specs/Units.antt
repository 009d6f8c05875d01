-- The identifiers of units.
use Rattle.std.specs.{Cmp.Lexicographic.slice_cmp, Ordering.{is_lt, nat_cmp}, Prelude.{ℕ, ◌+◌, ◌&&◌, Bool, true, false, not, if◌then◌else◌, nat_eq, List, [], ◌∷◌, take, drop, codes, Option, None, Some, Result, Ok, Err, slice_get}, Option.{option_map, option_map_or}, List.{position_from, starts_with}, Str.bytes_eq}
use Rattle.locale_names.specs.declared.{tables.{rows.units.UnitRow.UnitRow, units.TheConstants.{UNITS}}, unit_id.{Unit.Unit, UnitError.{UnitError, TheVariants.{Unknown, Numerator, Denominator}}, UnitId.UnitId}}
use Rattle.locale_names.specs.Texts.{short_bytes}

-- the row of a unit
abbrev pub row_of : UnitId → Option UnitRow
row_of id = slice_get UNITS id.index

-- the identifiers of units are sorted by their bytes, and each is less than the next
abbrev pub are_sorted : List UnitRow → Bool
are_sorted [] = true
are_sorted (u ∷ []) = true
are_sorted (u ∷ v ∷ units) =
    is_lt (slice_cmp nat_cmp (short_bytes u.name) (short_bytes v.name)) && are_sorted (v ∷ units)

-- the index of the unit with an identifier
abbrev pub index_in : List UnitRow → List ℕ → Option ℕ
index_in units name = position_from (λ unit. bytes_eq (short_bytes unit.name) name) 0 units

abbrev pub unit_index : List ℕ → Option ℕ
unit_index name = index_in UNITS name

-- the index of the first `-per-` in a text, whose first byte has an index
abbrev pub per_from : ℕ → List ℕ → Option ℕ
per_from i [] = None
per_from i (b ∷ bs) = if starts_with nat_eq (b ∷ bs) (codes "-per-") then Some i else per_from (i + 1) bs

-- the text before the first `-per-`, and the text after it
abbrev pub split_per : List ℕ → Option (List ℕ × List ℕ)
split_per text = option_map (λ i. (take i text, drop (i + 5) text)) (per_from 0 text)

-- an index is that of a unit with `-per-` in its identifier
abbrev pub is_compound : ℕ → Bool
is_compound index = option_map_or (λ (unit : UnitRow). unit.is_compound) (slice_get UNITS index) false

-- the indices of a unit and of the one after `-per-`
abbrev pub Indices : Type 0
Indices = ℕ × Option ℕ

abbrev pub index_of : UnitId → ℕ
index_of id = id.index

abbrev pub indices_of : Unit → Indices
indices_of unit = (unit.unit.index, option_map index_of unit.per)

abbrev pub with_denominator : ℕ → Option ℕ → Result Indices UnitError
with_denominator first None = Err Denominator
with_denominator first (Some second) = if is_compound second then Err Denominator else Ok (first, Some second)

abbrev pub joined : Option ℕ → Option ℕ → Result Indices UnitError
joined None second = Err Numerator
joined (Some first) second = with_denominator first second

abbrev pub parts_named : Option (List ℕ × List ℕ) → Result Indices UnitError
parts_named None = Err Unknown
parts_named (Some parts) = joined (unit_index parts.0) (unit_index parts.1)

abbrev pub whole_or_parts : Option ℕ → List ℕ → Result Indices UnitError
whole_or_parts (Some index) text = Ok (index, None)
whole_or_parts None text = parts_named (split_per text)

-- what a text names: a unit, or else two units with `-per-` between them
abbrev pub named : List ℕ → Result Indices UnitError
named text = whole_or_parts (unit_index text) text

-- the messages of the error
abbrev pub error_text : UnitError → List ℕ
error_text Unknown = codes "The text is no unit"
error_text Numerator = codes "The text before -per- is no unit"
error_text Denominator = codes "The text after -per- is no unit"

-- ---- What ECMA-402 admits.

-- a test of the row of a unit
abbrev pub has : (UnitRow → Bool) → UnitId → Bool
has test id = option_map_or test (row_of id) false

-- one of the 45 units that ECMA-402 sanctions
abbrev pub is_sanctioned_part : UnitRow → Bool
is_sanctioned_part row = row.is_sanctioned && not row.is_compound

abbrev pub sanctioned_with : UnitId → Option UnitId → Bool
sanctioned_with unit None = has (λ row. row.is_sanctioned) unit
sanctioned_with unit (Some per) = has is_sanctioned_part unit && has is_sanctioned_part per

-- one of these, or two with `-per-` between them
abbrev pub is_sanctioned : Unit → Bool
is_sanctioned unit = sanctioned_with unit.unit unit.per
