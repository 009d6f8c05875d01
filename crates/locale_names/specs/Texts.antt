-- Texts in the tables.
use Rattle.std.specs.{Prelude.{ℕ, ◌+◌, ◌/◌, ◌%◌, ◌^◌, ◌==◌, if◌then◌else◌, List, [], slice_range}, Str.is_utf8}
use Rattle.locale_names.specs.declared.tables.{rows.TextRange.TextRange, currency_texts.TheConstants.{NAME_TEXTS_0, NAME_TEXTS_1, NAME_TEXTS_2, NAME_TEXTS_3, NAME_TEXTS_4, NAME_TEXTS_5, NAME_TEXTS_6, NAME_TEXTS_7, NAME_TEXTS_8}, short_texts.TheConstants.SHORT_TEXTS, unit_texts.TheConstants.{UNIT_TEXTS_0, UNIT_TEXTS_1, UNIT_TEXTS_2, UNIT_TEXTS_3, UNIT_TEXTS_4}}

-- a number of bytes from an index on, as far as there are any
abbrev pub bytes_in : List ℕ → ℕ → ℕ → List ℕ
bytes_in bytes start len = slice_range bytes start (start + len)

-- bytes as a text, and no text where they are none
abbrev pub text_or_nothing : List ℕ → List ℕ
text_or_nothing bytes = if is_utf8 bytes then bytes else []

unfoldable pub text_in : List ℕ → ℕ → ℕ → List ℕ
text_in bytes start len = text_or_nothing (bytes_in bytes start len)

unfoldable pub short_bytes : TextRange → List ℕ
short_bytes range = bytes_in SHORT_TEXTS range.start range.len

abbrev pub short_text : TextRange → List ℕ
short_text range = text_in SHORT_TEXTS range.start range.len

-- the parts of the texts of units and of currencies
abbrev pub unit_part : ℕ → List ℕ
unit_part i =
    if i == 0 then UNIT_TEXTS_0 else if i == 1 then UNIT_TEXTS_1 else if i == 2 then UNIT_TEXTS_2
    else if i == 3 then UNIT_TEXTS_3 else if i == 4 then UNIT_TEXTS_4 else []

abbrev pub name_part : ℕ → List ℕ
name_part i =
    if i == 0 then NAME_TEXTS_0 else if i == 1 then NAME_TEXTS_1 else if i == 2 then NAME_TEXTS_2
    else if i == 3 then NAME_TEXTS_3 else if i == 4 then NAME_TEXTS_4 else if i == 5 then NAME_TEXTS_5
    else if i == 6 then NAME_TEXTS_6 else if i == 7 then NAME_TEXTS_7 else if i == 8 then NAME_TEXTS_8 else []

-- a text by a number: its part, and where it starts there
abbrev pub unit_text : ℕ → ℕ → List ℕ
unit_text start len = text_in (unit_part (start / 2 ^ 17)) (start % 2 ^ 17) len

abbrev pub name_text : ℕ → ℕ → List ℕ
name_text start len = text_in (name_part (start / 2 ^ 17)) (start % 2 ^ 17) len
