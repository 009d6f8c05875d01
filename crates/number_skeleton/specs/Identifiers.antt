-- The identifiers of units that ICU reads, of which this library has only some.
use Rattle.std.specs.{Prelude.{ℕ, zero, suc, ◌==◌, nat_lt, max, Bool, true, false, ◌&&◌, not, if◌then◌else◌, nat_eq, List, [], ◌∷◌, map, length, drop, slice_index, fold, codes, Option, Some, None}, List.starts_with, Option.option_map_or}
use Rattle.locale_data.specs.Rows.{unpadded}
use Rattle.locale_names.specs.declared.tables.{rows.units.UnitRow.UnitRow, units.TheConstants.UNITS}
use Rattle.number_skeleton.specs.{Units.{name_of, person_units}, Words.padded}

-- ---- Words at the start of a text.
-- the length of a word, if it is longer and the text starts with it
unfoldable pub longer : List ℕ → ℕ → List ℕ → ℕ
longer text longest word = if starts_with nat_eq text word then max longest (length word) else longest

-- the length of the longest of some words that a text starts with, or 0
unfoldable pub longest_word : List (List ℕ) → List ℕ → ℕ
longest_word words text = fold (λ longest word. longer text longest (unpadded word)) 0 words

-- the powers of units, each with the hyphen after it
abbrev pub powers : List (List ℕ)
powers =
    map (padded 16) (codes "square-" ∷ codes "cubic-" ∷ codes "pow2-" ∷ codes "pow3-" ∷ codes "pow4-" ∷ codes "pow5-"
    ∷ codes "pow6-" ∷ codes "pow7-" ∷ codes "pow8-" ∷ codes "pow9-" ∷ codes "pow10-" ∷ codes "pow11-" ∷ codes "pow12-"
    ∷ codes "pow13-" ∷ codes "pow14-" ∷ codes "pow15-" ∷ [])

-- the prefixes of units, decimal and binary
abbrev pub prefixes : List (List ℕ)
prefixes =
    map (padded 16) (codes "quecto" ∷ codes "ronto" ∷ codes "yocto" ∷ codes "zepto" ∷ codes "atto" ∷ codes "femto"
    ∷ codes "pico" ∷ codes "nano" ∷ codes "micro" ∷ codes "milli" ∷ codes "centi" ∷ codes "deci" ∷ codes "deka"
    ∷ codes "hecto" ∷ codes "kilo" ∷ codes "mega" ∷ codes "giga" ∷ codes "tera" ∷ codes "peta" ∷ codes "exa"
    ∷ codes "zetta" ∷ codes "yotta" ∷ codes "ronna" ∷ codes "quetta" ∷ codes "kibi" ∷ codes "mebi" ∷ codes "gibi"
    ∷ codes "tebi" ∷ codes "pebi" ∷ codes "exbi" ∷ codes "zebi" ∷ codes "yobi" ∷ [])

-- ---- Lengths of what a text starts with; 0 if it does not.
unfoldable pub power_length : List ℕ → ℕ
power_length text = longest_word powers text

unfoldable pub prefix_length : List ℕ → ℕ
prefix_length text = longest_word prefixes text

-- that of the longest name of some units, or a length that is not less
unfoldable pub longest_name : List ℕ → ℕ → List UnitRow → ℕ
longest_name text longest units = fold (λ n row. longer text n (name_of row)) longest units

-- the units without patterns of their own
unfoldable pub other_length : List ℕ → ℕ
other_length text = longer text (longest_word person_units text) (codes "100-kilometer")

-- the longest unit
unfoldable pub unit_length : List ℕ → ℕ
unit_length text = longest_name text (other_length text) UNITS

-- ---- What follows a unit at the start of a text, if it starts with one.
abbrev pub is_prefixed : List ℕ → Bool
is_prefixed text =
    let prefix = prefix_length text in nat_lt 0 prefix && nat_lt 0 (unit_length (drop prefix text))

-- what follows a unit, or one after a single prefix
abbrev pub after_unit : List ℕ → Option (List ℕ)
after_unit text =
    let rest = drop (prefix_length text) text in
    if nat_lt 0 (unit_length text) then Some (drop (unit_length text) text)
    else if is_prefixed text && not (is_prefixed rest) then Some (drop (unit_length rest) rest)
    else None

-- what follows such a unit, or a power of one
unfoldable pub after_factor : List ℕ → Option (List ℕ)
after_factor text = after_unit (drop (power_length text) text)

-- ---- Identifiers.
-- what joins a unit to the next one: `-and-` to mixed units, `-per-` or `-` to others
abbrev pub joiner_length : Bool → List ℕ → ℕ
joiner_length true text = if starts_with nat_eq text (codes "-and-") then 5 else 0
joiner_length false text =
    if starts_with nat_eq text (codes "-per-") then 5 else if slice_index text 0 == 45 then 1 else 0

-- at most this number of units, joined
unfoldable pub are_units : Bool → ℕ → List ℕ → Bool
are_units mixed zero text = false
are_units mixed (suc n) text =
    option_map_or (λ rest. if length rest == 0 then true
    else if joiner_length mixed rest == 0 then false
    else are_units mixed n (drop (joiner_length mixed rest) rest)) (after_factor text) false

abbrev pub is_mixed : List ℕ → Bool
is_mixed text = option_map_or (λ rest. starts_with nat_eq rest (codes "-and-")) (after_factor text) false

-- `per-` may come first
abbrev pub units_start : List ℕ → ℕ
units_start text = if starts_with nat_eq text (codes "per-") then 4 else 0

unfoldable pub is_identifier : List ℕ → Bool
is_identifier text =
    let units = drop (units_start text) text in are_units (is_mixed units) (length text) units
