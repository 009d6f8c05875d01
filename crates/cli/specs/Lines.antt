-- What is written and what is reported for the lines of an input.
use Rattle.std.specs.{Prelude.{◌≡◌, ◌≢◌, ◌⊎◌, ℕ, ◌+◌, ◌≤◌, ◌^◌, List, [], ◌∷◌, ◌++◌, flat_map, Bool, true, false, ⊤, Option, Some, Result, Ok, Err, is_ok, IfSome, IsSomeAnd}, List.{FoldsTo, list_all}, Io.KnownBytes.{Appends, append_known}, declared.io.ErrorKind.ErrorKind}
use Rattle.decimal_digits.specs.AppendsPrefix.{AppendsPrefix}
use Rattle.cli.specs.{declared.{program.error.ProgramError.{ProgramError, TheVariants.{Line, LongLine, Input, Output}}, lines.filter.Filter.Filter, words.options.OnError.TheVariants.Stop}, Filter.{Change, Effects, FilteredLine, lines_of_row, IsResultOfRow, output_of_line, errors_of_line, IsErrorOfReading, IsErrorOfLine}, Records.records_of}
use Rattle.conversions.specs.Lines.{lines_of}

-- ---- The lines of an input.

-- the rows of an input: with `records` its records, and otherwise its lines
abbrev pub rows_of : Bool → List ℕ → List (List ℕ)
rows_of true bytes = records_of bytes
rows_of false bytes = lines_of bytes

-- these are the first rows of an input whose bytes are known, and the others are the rows of the bytes that are left
abbrev pub AreRead : Filter → Option (List ℕ) → List (List ℕ) → Option (List ℕ) → Type 0
AreRead filter input rows left =
    IfSome input (λ bytes. IsSomeAnd left
    (λ rest. rows_of filter.has_records bytes ≡ rows ++ rows_of filter.has_records rest))

-- these are all rows of an input: no byte is left
abbrev pub AreAll : Filter → Option (List ℕ) → List (List ℕ) → Type 0
AreAll filter input rows = AreRead filter input rows (Some [])

-- these are the first rows of an input
abbrev pub AreFirst : Filter → Option (List ℕ) → List (List ℕ) → Type 0
AreFirst filter input rows = (left : Option (List ℕ)) × AreRead filter input rows left

-- the number of the line after these rows, the first of which begins at the line with this number
abbrev pub number_after : Filter → ℕ → List (List ℕ) → ℕ
number_after filter number [] = number
number_after filter number (row ∷ rows) = number_after filter (number + lines_of_row filter row) rows

-- ---- The results of rows.

-- the result of each row, in order; the first begins at the line with this number
abbrev pub AreResults : Filter → ℕ → List (List ℕ) → List FilteredLine → Type 0
AreResults filter number [] [] = ⊤
AreResults filter number (row ∷ rows) (result ∷ results) =
    IsResultOfRow filter number row result × AreResults filter (number + lines_of_row filter row) rows results
AreResults filter number _ _ = ⊥

-- the output of rows with these results
abbrev pub output_of : List FilteredLine → List ℕ
output_of results = flat_map output_of_line results

-- the errors of rows with these results
abbrev pub errors_of : List FilteredLine → List ProgramError
errors_of results = flat_map errors_of_line results

-- whether each row has a text
abbrev pub have_texts : List FilteredLine → Bool
have_texts results = list_all is_ok results

-- ---- What a filter returns.

-- the error ends the filter before the line with this number, after these rows of an input: the run of the next row
-- has it; or the reader, with this failure, cannot read the next row; or a `u64` counts no more lines; or the output
-- failed
abbrev pub EndsWith : Filter → ℕ → Option (List ℕ) → Option ErrorKind → List (List ℕ) → ProgramError → Type 0
EndsWith filter next input failure rows (Line number error) =
    (row : List ℕ) × AreFirst filter input (rows ++ (row ∷ [])) × IsErrorOfLine filter next row (Line number error)
EndsWith filter next input failure rows (LongLine number) = IsErrorOfReading next failure (LongLine number)
EndsWith filter next input failure rows Input = IsErrorOfReading next failure Input ⊎ (2 ^ 64 ≤ next)
EndsWith filter next input failure rows Output = ⊤
EndsWith filter next input failure rows _ = ⊥

-- the filter returns this before the line with this number, after these rows with these results: whether each has a
-- text, after all rows; or an error, after some
abbrev pub Returns :
    Filter → ℕ → Option (List ℕ) → Option ErrorKind → List (List ℕ) → List FilteredLine
    → Result Bool ProgramError → Type 0
Returns filter next input failure rows results (Ok texts) = AreAll filter input rows × (texts ≡ have_texts results)
Returns filter next input failure rows results (Err error) =
    AreFirst filter input rows × EndsWith filter next input failure rows error

-- rows with these results were filtered, the first of which begins at the line with this number, and this was
-- returned: their output was appended, at a failed output a part of it, and their errors were reported in order
pub record Filters
    {D : Type 0} (AppendsPart : Option (List ℕ) → Option (List ℕ) → List ℕ → Type 0)
    (reports : D → ProgramError → D → Type 0) (filter : Filter) (first : ℕ) (effects : Effects D)
    (returned : Result Bool ProgramError)
    : Type 0
  where
    pub rows : List (List ℕ)
    pub results : List FilteredLine
    pub are_results : AreResults filter first rows results
    pub returns :
        Returns filter (number_after filter first rows) effects.input.before effects.failure rows results returned
    pub stop : filter.on_error ≡ Stop → have_texts results ≡ true
    pub whole : returned ≢ Err Output → Appends effects.output.before effects.output.after (output_of results)
    pub part : AppendsPart effects.output.before effects.output.after (output_of results)
    pub reported : FoldsTo reports effects.diagnostics.before (errors_of results) effects.diagnostics.after

-- together with the last bytes, which a block did not write, a prefix of the text was appended
abbrev pub AppendsUnwritten : Option (List ℕ) → Option (List ℕ) → List ℕ → Type 0
AppendsUnwritten old new text = (missing : List ℕ) × AppendsPrefix old (append_known new missing) text

-- after an error of the run of a row, the rows up to it are read, and the others are left
abbrev pub IsConsumed : Filter → ℕ → Change (Option (List ℕ)) → ProgramError → Type 0
IsConsumed filter first input (Line number error) =
    (rows : List (List ℕ)) × (row : List ℕ) × (number ≡ number_after filter first rows)
    × AreRead filter input.before (rows ++ (row ∷ [])) input.after
IsConsumed filter first input _ = ⊤
