-- Texts as ranges of a table of bytes.
use Rattle.std.specs.{Prelude.{ℕ, ◌&&◌, nat_le, Bool, List, length}, Str.is_utf8}
use Rattle.locale_data.specs.{declared.tables.rows.TableRange.TableRange, Rows.part}

-- bytes are a text of at most 255 bytes
abbrev pub is_short_text : List ℕ → Bool
is_short_text bytes = is_utf8 bytes && nat_le (length bytes) 255

-- a range of a table of bytes is one
abbrev pub is_text : List ℕ → TableRange → Bool
is_text bytes range = is_short_text (part bytes range)
