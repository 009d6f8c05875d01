-- The records of an input of CSV: lines that go on while a quote is open.
use Rattle.std.specs.{Prelude.{ℕ, ◌+◌, ◌==◌, ◌||◌, ◌&&◌, if◌then◌else◌, nat_lt, nat_le, Bool, not, List, [], ◌∷◌, ◌++◌, length, count_by}, Io.BufRead.strip_last}
use Rattle.cli.specs.Fields.{are_closed}

-- the number of bytes of the longest record: 1 MiB
abbrev pub longest_record : ℕ
longest_record = 1048576

abbrev pub is_line_feed : ℕ → Bool
is_line_feed byte = byte == 10

-- whether a line feed after these bytes of a record ends it: each quote is closed, or more bytes would be too many
abbrev pub ends_record : List ℕ → Bool
ends_record bytes = are_closed bytes || nat_le longest_record (length bytes)

-- the records of bytes after these bytes of the first one; the last one is up to the end, or to a line feed there
abbrev pub records_after : List ℕ → List ℕ → List (List ℕ)
records_after before (byte ∷ bytes) =
    if is_line_feed byte && ends_record before then before ∷ records_after [] bytes
    else records_after (before ++ (byte ∷ [])) bytes
records_after [] [] = []
records_after before [] = strip_last 10 before ∷ []

-- the records of bytes
abbrev pub records_of : List ℕ → List (List ℕ)
records_of bytes = records_after [] bytes

-- whether a record has no fields: a quote is left open, or it is too long
abbrev pub is_broken : List ℕ → Bool
is_broken row = not (are_closed row) || nat_lt longest_record (length row)

-- the number of lines of a record
abbrev pub lines_in : List ℕ → ℕ
lines_in row = count_by is_line_feed row + 1
