-- Columns: lines in, lines out.
use Rattle.std.specs.Prelude.{◌≡◌, ◌≢◌, ℕ, ◌<◌, ◌≤◌, ◌⊎◌, Bool, true, false, ⊤, List, [], ◌∷◌, ◌++◌, length, drop, flat_map, count_by, Some, None, Result, Ok, Err, is_err}
use Rattle.fixed_decimal.specs.declared.runs.Call.{Call}
use Rattle.conversions.specs.{Lines.lines_of, declared.locale_formatter.LocaleFormatter.TheVariants.Skeleton}
use Rattle.number_format.specs.declared.format.formatter.NumberFormatter.{NumberFormatter}
use Rattle.fixed_decimal_c.specs.{declared.{answer.{FdColumn.FdColumn, Progress.Progress}, calls.FdCall.FdCall, convert.Forms.Forms, forms.FdForms.FdForms, error.FdError.{FdError, TheVariants.{BufferTooSmall, Memory}}}, Calls.{AreCalls, DecodeFails}, Encodings.fd_column, Conversions.{IsConverted, ConversionFails, AreForms, FormsFail}, Texts.IsWritten}

-- a line has this result: its text; or, where lines that fail are skipped, the error of reading it or of a call
abbrev pub IsLineResult : Forms → List Call → Bool → List ℕ → Result (List ℕ) FdError → Type 0
IsLineResult f calls skip line (Ok text) = IsConverted f calls line text
IsLineResult f calls skip line (Err error) = (skip ≡ true) × (error ≢ Memory) × ConversionFails f calls line error

-- each line has its result
abbrev pub AreLineResults : Forms → List Call → Bool → List (List ℕ) → List (Result (List ℕ) FdError) → Type 0
AreLineResults f calls skip [] [] = ⊤
AreLineResults f calls skip (line ∷ lines) (result ∷ results) =
    IsLineResult f calls skip line result × AreLineResults f calls skip lines results
AreLineResults f calls skip _ _ = ⊥

-- the output of a line: its text and a line feed, or an empty line if it has none
abbrev pub output_of_line : Result (List ℕ) FdError → List ℕ
output_of_line (Ok text) = text ++ (10 ∷ [])
output_of_line (Err error) = 10 ∷ []

-- the output of a line is written, and it is one of the lines that fail if it has no text
pub record IsLineWritten
    (f : Forms) (calls : List Call) (skip : Bool) (line : List ℕ) (failed count : ℕ) (old new : List ℕ)
    : Type 0
  where
    pub result : Result (List ℕ) FdError
    pub is_result : IsLineResult f calls skip line result
    pub fails : failed ≡ count_by is_err (result ∷ [])
    pub written : IsWritten (output_of_line result) count old new

-- the output of a line does not fit the room that is left
abbrev pub IsLineTooLong : Forms → List Call → Bool → List ℕ → List ℕ → Type 0
IsLineTooLong f calls skip line room =
    (result : Result (List ℕ) FdError) × IsLineResult f calls skip line result
    × (length room < length (output_of_line result))

-- a line ends the column with the error: its output does not fit; or it fails, and such lines are not skipped, or it is
-- out of memory
abbrev pub LineStops : Forms → List Call → Bool → List ℕ → List ℕ → FdError → Type 0
LineStops f calls skip line room (BufferTooSmall needed) = IsLineTooLong f calls skip line room
LineStops f calls skip line room Memory = ConversionFails f calls line Memory
LineStops f calls skip line room error = (skip ≡ false) × ConversionFails f calls line error

-- the first lines of the input were converted, and their output was written
pub record AreConverted
    (f : Forms) (calls : List Call) (skip : Bool) (input : List ℕ) (done : Progress) (old new : List ℕ)
    : Type 0
  where
    pub lines : List (List ℕ)
    pub results : List (Result (List ℕ) FdError)
    pub are_results : AreLineResults f calls skip lines results
    pub read : lines_of input ≡ lines ++ lines_of (drop done.read input)
    pub inside : done.read ≤ length input
    pub count : done.lines ≡ length lines
    pub failed : done.failed ≡ count_by is_err results
    pub written : IsWritten (flat_map output_of_line results) done.written old new

-- there are no more lines; or the next one ends the column
abbrev pub ColumnEnds : Forms → List Call → Bool → List ℕ → Progress → Result Unit FdError → List ℕ → Type 0
ColumnEnds f calls skip input done (Ok _) old = done.read ≡ length input
ColumnEnds f calls skip input done (Err error) old =
    (line : List ℕ) × (lines : List (List ℕ)) × (lines_of (drop done.read input) ≡ line ∷ lines)
    × LineStops f calls skip line (drop done.written old) error

-- the column is converted up to its end, or to the line that ends it
abbrev pub ConvertsLines :
    Forms → List Call → Bool → List ℕ → Progress → Result Unit FdError → List ℕ → List ℕ → Type 0
ConvertsLines f calls skip input done result old new =
    AreConverted f calls skip input done old new × ColumnEnds f calls skip input done result old

-- no line was converted
abbrev pub none : Progress
none = record { lines = 0; read = 0; written = 0; failed = 0 }

-- the column is converted by the forms and the calls that C passes; or these are none, and the buffer is as it was
abbrev pub ConvertsColumnBy :
    Forms → FdColumn → List ℕ → Bool → List FdCall → List ℕ → List ℕ → List ℕ → Type 0
ConvertsColumnBy f answer input skip calls texts old new =
    ((list : List Call) × AreCalls calls texts list
    × ((done : Progress) × (result : Result Unit FdError) × (answer ≡ fd_column done result)
    × ConvertsLines f list skip input done result old new))
    ⊎ ((error : FdError) × (answer ≡ fd_column none (Err error)) × DecodeFails error calls texts × (new ≡ old))

-- the same by the forms that C passes; or there are no such forms, and the buffer is as it was
abbrev pub ConvertsColumn :
    FdColumn → List ℕ → Bool → FdForms → List FdCall → List ℕ → List ℕ → List ℕ → Type 0
ConvertsColumn answer input skip forms calls texts old new =
    ((f : Forms) × AreForms forms texts f × ConvertsColumnBy f answer input skip calls texts old new)
    ⊎ ((error : FdError) × (answer ≡ fd_column none (Err error)) × FormsFail error forms texts × (new ≡ old))

-- ---- Columns of numbers that a formatter writes.

-- a decimal's own text is read, and the decimal is written by the formatter
abbrev pub formatting_forms : NumberFormatter → Forms
formatting_forms f = record { reader = None; formatter = Some (Skeleton f) }

-- the column is formatted up to its end, or to the line that ends it; or there is no formatter, and the buffer is as it
-- was
abbrev pub FormatsColumnIfMade :
    Result NumberFormatter FdError → FdColumn → List ℕ → Bool → List ℕ → List ℕ → Type 0
FormatsColumnIfMade (Ok f) answer input skip old new =
    (done : Progress) × (result : Result Unit FdError) × (answer ≡ fd_column done result)
    × ConvertsLines (formatting_forms f) [] skip input done result old new
FormatsColumnIfMade (Err error) answer input skip old new = (answer ≡ fd_column none (Err error)) × (new ≡ old)
