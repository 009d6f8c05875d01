-- The patterns of units in a locale.
use Rattle.std.specs.{Prelude.{◌≡◌, ◌≤◌, All, ℕ, ◌+◌, ◌-◌, ◌*◌, ◌/◌, ◌%◌, ◌^◌, ◌==◌, ◌&&◌, Bool, true, if◌then◌else◌, List, [], ◌∷◌, ◌++◌, find, length, Option, None, Some, slice_get}, Option.{option_map, option_map_or}, Borrow.Bor, Str.trim}
use Rattle.plural_rules.specs.declared.rules.PluralCategory.{PluralCategory, TheVariants.One}
use Rattle.locale_names.specs.{declared.{tables.{rows.{locales.LocaleNames.LocaleNames, units.{Compound.Compound, UnitJoiner.UnitJoiner}}, units.TheConstants.{COMPOUNDS, UNITS, UNIT_ENTRIES, UNIT_JOINERS, UNIT_RUNS}}, locale_units.{InnerPattern.InnerPattern, PerPatterns.PerPatterns, UnitDisplay.{UnitDisplay, TheVariants.{Long, Short, Narrow}}, UnitPattern.UnitPattern, UnitPatterns.UnitPatterns}, unit_id.Unit.Unit}, Entries.{entries_in, entry_of, entry_for, run_in}, LocaleRow.IsLocaleRow, Texts.{short_text, unit_text}, Units.{Indices, indices_of}}

-- ---- The rows of a unit.

-- the two units are a third
abbrev pub is_pair : ℕ → ℕ → Compound → Bool
is_pair numerator denominator compound =
    (compound.numerator == numerator) && (compound.denominator == denominator)

abbrev pub as_one : Indices → Option Compound → Indices
as_one units None = units
as_one units (Some compound) = (compound.unit, None)

-- two units that have patterns of their own are one unit
abbrev pub as_one_unit : ℕ → Option ℕ → Indices
as_one_unit unit None = (unit, None)
as_one_unit unit (Some per) = as_one (unit, Some per) (find (is_pair unit per) COMPOUNDS)

-- the list of runs of a width
abbrev pub list_of : LocaleNames → UnitDisplay → ℕ
list_of locale Long = locale.long
list_of locale Short = locale.short
list_of locale Narrow = locale.narrow

-- the pattern of two units of a width
abbrev pub joiner_of : LocaleNames → UnitDisplay → ℕ
joiner_of locale Long = locale.long_joiner
joiner_of locale Short = locale.short_joiner
joiner_of locale Narrow = locale.narrow_joiner

-- the run of a unit in a list
abbrev pub run_at : ℕ → ℕ → ℕ
run_at list unit = run_in UNIT_RUNS (list * length UNITS + unit)

abbrev pub rows_of : LocaleNames → UnitDisplay → Indices → UnitPatterns
rows_of locale display units = record {
  unit = run_at (list_of locale display) units.0;
  per = option_map (λ per. record { unit = run_at (list_of locale display) per; joiner = joiner_of locale display })
      units.1;
}

-- the rows of a unit in the locale of a tag
pub record AreRowsOf (tag : List ℕ) (unit : Unit) (display : UnitDisplay) (rows : UnitPatterns) : Type 0 where
  pub locale : LocaleNames
  pub of_tag : IsLocaleRow tag locale
  pub value : rows ≡ rows_of locale display (as_one_unit unit.unit.index (indices_of unit).1)

-- ---- What is written around a number.

-- texts before and after a number, or a text instead of it
pub record Around : Type 0 where
  pub prefix : List ℕ
  pub has_number : Bool
  pub suffix : List ℕ

-- the pattern of an entry: 32 bits are the start of its text, 8 its length, and 8 the bytes before the number
abbrev pub pattern_of : ℕ → Around
pattern_of entry =
    let start = entry / 2 ^ 32 in
    let len = entry / 2 ^ 24 % 256 in
    let place = entry / 2 ^ 16 % 256 in
    record {
      prefix = unit_text start place;
      has_number = entry / 2 ^ 8 % 256 == 1;
      suffix = unit_text (start + place) (len - place);
    }

-- the text of an entry, without the number
abbrev pub text_of : ℕ → List ℕ
text_of entry = unit_text (entry / 2 ^ 32) (entry / 2 ^ 24 % 256)

abbrev pub entries_of : ℕ → List ℕ
entries_of run = entries_in UNIT_ENTRIES run

abbrev pub number_alone : Around
number_alone = record { prefix = []; has_number = true; suffix = [] }

-- the pattern of a unit for a category, or else for `other`
abbrev pub unit_pattern : ℕ → PluralCategory → Around
unit_pattern run category =
    option_map_or pattern_of (entry_for (λ entry. entry) category (entries_of run)) number_alone

-- the text of a unit for `one`
abbrev pub singular : ℕ → List ℕ
singular run = option_map_or text_of (entry_for (λ entry. entry) One (entries_of run)) []

-- the second of two units: this text without white space at its ends
abbrev pub denominator : ℕ → List ℕ
denominator run = trim (singular run)

-- what a pattern of two units has around the first one
abbrev pub joined : UnitJoiner → List ℕ → Around
joined joiner second =
    let before = short_text joiner.before in
    let between = short_text joiner.between in
    let after = short_text joiner.after in
    if joiner.numerator_first
    then record { prefix = before; has_number = true; suffix = between ++ (second ++ after) }
    else record { prefix = before ++ (second ++ between); has_number = true; suffix = after }

abbrev pub per_around : Option ℕ → PerPatterns → Around
per_around (Some entry) per = pattern_of entry
per_around None per =
    option_map_or (λ joiner. joined joiner (denominator per.unit)) (slice_get UNIT_JOINERS per.joiner) number_alone

-- what is written around a unit before `per`: by the pattern of the second unit for this, or else by that of two units
abbrev pub outer_pattern : PerPatterns → Around
outer_pattern per = per_around (entry_of (λ entry. entry) 6 (entries_of per.unit)) per

abbrev pub outer_of : UnitPatterns → Around
outer_of rows = option_map_or outer_pattern rows.per number_alone

-- a pattern instead of the number of another one
abbrev pub inside : Around → Around → Around
inside inner outer = record {
  prefix = outer.prefix ++ inner.prefix;
  has_number = inner.has_number;
  suffix = inner.suffix ++ outer.suffix;
}

-- what is written around a number of a unit
abbrev pub around_number : UnitPatterns → PluralCategory → Around
around_number rows category = inside (unit_pattern rows.unit category) (outer_of rows)

-- texts one after another
abbrev pub joined_texts : List (Bor (List ℕ)) → List ℕ
joined_texts [] = []
joined_texts (text ∷ []) = text.now
joined_texts (text ∷ (next ∷ texts)) = text.now ++ joined_texts (next ∷ texts)

-- the pattern of one unit
abbrev pub around_inner : InnerPattern → Around
around_inner pattern = record {
  prefix = pattern.prefix.now;
  has_number = pattern.has_number;
  suffix = pattern.suffix.now;
}

-- the texts of a pattern are these
pub record IsAround (around : Around) (pattern : UnitPattern) : Type 0 where
  pub prefix : joined_texts pattern.before ++ pattern.prefix.now ≡ around.prefix
  pub has_number : pattern.has_number ≡ around.has_number
  pub suffix : pattern.suffix.now ++ joined_texts pattern.after ≡ around.suffix

-- texts of at most 255 bytes
abbrev pub AreShort : List (Bor (List ℕ)) → Type 0
AreShort texts = All (λ text. length text.now ≤ 255) texts

pub record AreShortAround (pattern : UnitPattern) : Type 0 where
  pub before : AreShort pattern.before
  pub prefix : length pattern.prefix.now ≤ 255
  pub suffix : length pattern.suffix.now ≤ 255
  pub after : AreShort pattern.after
