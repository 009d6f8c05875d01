-- The fields of a line.
use Rattle.std.specs.{Prelude.{◌≡◌, ◌⊎◌, ℕ, zero, suc, nat_eq, ◌+◌, ◌-◌, ◌%◌, ◌==◌, ◌||◌, ◌&&◌, if◌then◌else◌, Bool, true, false, not, List, [], ◌∷◌, ◌++◌, length, take, drop, slice_index, count_by, flat_map, Option, Some, None, is_some, unwrap_or, option_map, Result, Ok, Err}, List.{list_any, starts_with}, Io.BufRead.strip_last}
use Rattle.conversions.specs.declared.error.OperationError.{OperationError}
use Rattle.conversions.specs.declared.error.OperationError.TheVariants as operation
use Rattle.cli.specs.declared.lines.fields.{Cursor.Cursor, Field.Field}

-- ---- Where a field is.

-- the field with this 0-based index
abbrev pub at_index : Field → ℕ → Field
at_index field index = record field { index = index }

-- the byte of a quote
abbrev pub quote : ℕ
quote = 34

abbrev pub is_quote : ℕ → Bool
is_quote byte = byte == quote

-- whether the number of quotes is even: each quote that opens is closed
abbrev pub are_closed : List ℕ → Bool
are_closed bytes = count_by is_quote bytes % 2 == 0

-- whether what follows these bytes of a field is outside of quotes, which only CSV has
abbrev pub is_outside : Field → List ℕ → Bool
is_outside field before = not field.is_csv || are_closed before

-- the bytes of a line from a start up to an end, and the line with other bytes instead
abbrev pub within : List ℕ → ℕ × ℕ → List ℕ
within line bounds = take (bounds.1 - bounds.0) (drop bounds.0 line)

abbrev pub replaced : List ℕ → ℕ × ℕ → List ℕ → List ℕ
replaced line bounds bytes = take bounds.0 line ++ (bytes ++ drop bounds.1 line)

-- whether this delimiter is at this index of a line; one of no bytes is nowhere
abbrev pub is_at : List ℕ → List ℕ → ℕ → Bool
is_at [] line index = false
is_at (first ∷ rest) line index = slice_index line index == first && starts_with nat_eq (drop (index + 1) line) rest

-- whether the field that starts here ends at this index: at a delimiter outside of its quotes
abbrev pub ends_at : Field → List ℕ → ℕ → ℕ → Bool
ends_at field line start index =
    is_outside field (within line (start, index)) && is_at field.delimiter.now line index

-- the first one of a number of indices at which a property holds; the first of them is given
abbrev pub first_index : (ℕ → Bool) → ℕ → ℕ → Option ℕ
first_index p index zero = None
first_index p index (suc count) = if p index then Some index else first_index p (index + 1) count

-- the index of the delimiter after the field that starts here, unless it is the last one of the line
abbrev pub delimiter_after : Field → List ℕ → ℕ → Option ℕ
delimiter_after field line start = first_index (ends_at field line start) start (length line - start)

-- the start of the field that follows the one with this start
abbrev pub next_start : Field → List ℕ → Option ℕ → Option ℕ
next_start field line None = None
next_start field line (Some start) =
    option_map (λ index. index + length field.delimiter.now) (delimiter_after field line start)

-- the start of the field with this 0-based index, unless the line has fewer fields
abbrev pub start_of : Field → List ℕ → ℕ → Option ℕ
start_of field line zero = Some 0
start_of field line (suc index) = next_start field line (start_of field line index)

-- the start and the end of the field that starts here: it ends at a delimiter or at the end of the line
abbrev pub bounds_from : Field → List ℕ → ℕ → ℕ × ℕ
bounds_from field line start = (start, unwrap_or (delimiter_after field line start) (length line))

-- the start and the end of the field with this index, unless the line has fewer fields
abbrev pub bounds : Field → List ℕ → ℕ → Option (ℕ × ℕ)
bounds field line index = option_map (bounds_from field line) (start_of field line index)

-- the bytes of a line that its fields are in: in CSV a carriage return ends the line
abbrev pub record_of : Field → List ℕ → List ℕ
record_of field line = if field.is_csv then strip_last 13 line else line

-- the bounds that were found, or the error
abbrev pub bounds_or_error : Option (ℕ × ℕ) → Result (ℕ × ℕ) OperationError
bounds_or_error (Some bounds) = Ok bounds
bounds_or_error None = Err operation.Field

-- whether a quote of a line is left open, which only CSV has
abbrev pub has_open_quote : Field → List ℕ → Bool
has_open_quote field line = field.is_csv && not (are_closed line)

-- the start and the end of the field with this index in a line; or the error: a quote is left open, or the line has
-- fewer fields
abbrev pub located : Field → List ℕ → ℕ → Result (ℕ × ℕ) OperationError
located field line index =
    if has_open_quote field line then Err operation.Quote
    else bounds_or_error (bounds field (record_of field line) index)

-- the cursor is at a field of these bytes: this is its start, and the index of the delimiter after it
abbrev pub IsAt : Field → List ℕ → Cursor → Type 0
IsAt field line cursor =
    (start_of field line cursor.index ≡ Some cursor.start)
    × (cursor.delimiter ≡ delimiter_after field line cursor.start)

-- the cursor is at a field of a line, and knows whether a quote is left open
abbrev pub IsCursor : Field → List ℕ → Cursor → Type 0
IsCursor field line cursor =
    (cursor.is_open ≡ has_open_quote field line) × IsAt field (record_of field line) cursor

-- ---- The text of a field.

-- the bytes of a byte of a text in quotes: two quotes for one
abbrev pub double : ℕ → List ℕ
double byte = if is_quote byte then quote ∷ quote ∷ [] else byte ∷ []

abbrev pub doubled : List ℕ → List ℕ
doubled text = flat_map double text

-- bytes between two quotes
abbrev pub between_quotes : List ℕ → List ℕ
between_quotes bytes = quote ∷ (bytes ++ (quote ∷ []))

-- a text in quotes
abbrev pub quoted : List ℕ → List ℕ
quoted text = between_quotes (doubled text)

-- the bytes of a field hold this text: they are the text, which has no quotes in CSV; or in CSV the text in quotes
abbrev pub Holds : Field → List ℕ → List ℕ → Type 0
Holds field bytes text =
    ((bytes ≡ text) × (field.is_csv ≡ true → list_any is_quote text ≡ false))
    ⊎ ((field.is_csv ≡ true) × (bytes ≡ quoted text))

-- whether the bytes of a field have quotes, which only CSV has
abbrev pub is_quoted : Field → List ℕ → Bool
is_quoted field bytes = field.is_csv && list_any is_quote bytes

-- whether a byte needs quotes around the text: a quote, a carriage return or a line feed
abbrev pub is_special : ℕ → Bool
is_special byte = is_quote byte || byte == 13 || byte == 10

-- whether a text needs quotes around it: in CSV if a field with it ends at a delimiter, or it has such a byte
abbrev pub needs_quotes : Field → List ℕ → Bool
needs_quotes field text = field.is_csv && (is_some (delimiter_after field text 0) || list_any is_special text)

-- the bytes of a field that hold a text, in quotes only if it needs them
abbrev pub bytes_of : Field → List ℕ → List ℕ
bytes_of field text = if needs_quotes field text then quoted text else text
