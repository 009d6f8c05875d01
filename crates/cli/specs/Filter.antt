-- One line: its result, how it is read, and its errors.
use Rattle.std.specs.{Prelude.{◌≡◌, ◌≢◌, ◌⊎◌, ℕ, Bool, true, false, List, [], ◌∷◌, ◌++◌, Option, Some, None, Result, Ok, Err, is_ok, IfSome, IsSomeAnd, MatchBool, ◌&&◌, if◌then◌else◌}, List.FoldsTo, Io.KnownBytes.Appends, declared.io.ErrorKind.{ErrorKind, TheVariants.OutOfMemory}}
use Rattle.decimal_digits.specs.AppendsPrefix.{AppendsPrefix}
use Rattle.conversions.specs.{declared.error.OperationError.OperationError, Error.status_of_operation}
use Rattle.conversions.specs.declared.error.OperationError.TheVariants as operation
use Rattle.cli.specs.{declared.{program.error.{ProgramError.{ProgramError, TheVariants.{Line, LongLine, Input, Output}}, LineError.LineError}, lines.{filter.{Filter.Filter, Target.Target}, rows.FilteredRow.FilteredRow}, words.options.OnError.{OnError, TheVariants.{Stop, Keep}}}, Edits.{IsEditedLine, EditingFails}, Error.error_of_line, FieldConversion.{IsLineResult, LineFails, map_text}, Fields.{within, replaced}, Trim.body_bounds, Input.IsRowRead, Records.{is_broken, lines_in}}
use Rattle.cli.specs.declared.lines.filter.Target.TheVariants as target

-- ---- The result of a line.

-- the line with this number is the header
abbrev pub IsHeader : Filter → ℕ → Type 0
IsHeader filter number = (filter.has_header ≡ true) × (number ≡ 1)

-- the bytes of the line with this number that are converted
abbrev pub body_of : Filter → ℕ → List ℕ → List ℕ
body_of filter number line = within line (body_bounds filter.trims number line)

-- a result whose error names no field
abbrev pub result_of_line : {A : Type 0} → Result A OperationError → Result A LineError
result_of_line (Ok x) = Ok x
result_of_line (Err error) = Err (error_of_line error)

-- the result of converting these bytes of a line
abbrev pub IsTargetResult : Bool → Target → List ℕ → Result (List ℕ) LineError → Type 0
IsTargetResult trims (target.Line conversion) bytes result =
    (found : Result (List ℕ) OperationError) × IsLineResult trims conversion.now bytes found
    × (result ≡ result_of_line found)
IsTargetResult trims (target.Field base field) bytes result = IsEditedLine trims base bytes (field ∷ []) result
IsTargetResult trims (target.Fields base fields) bytes result = IsEditedLine trims base bytes fields.items result

-- the result of converting the line with this number: what is around these bytes is copied
abbrev pub IsConvertedLine : Filter → ℕ → List ℕ → Result (List ℕ) LineError → Type 0
IsConvertedLine filter number line result =
    (converted : Result (List ℕ) LineError)
    × IsTargetResult filter.trims filter.target (body_of filter number line) converted
    × (result ≡ map_text (replaced line (body_bounds filter.trims number line)) converted)

-- P holds of the text of converting the line with this number
abbrev pub HasConvertedLine : Filter → ℕ → List ℕ → (List ℕ → Type 0) → Type 0
HasConvertedLine filter number line P = (text : List ℕ) × IsConvertedLine filter number line (Ok text) × P text

-- the result of the line with this number: a header is its own text, and each other line is converted
abbrev pub IsTextOrError : Filter → ℕ → List ℕ → Result (List ℕ) LineError → Type 0
IsTextOrError filter number line result =
    (IsHeader filter number × (result ≡ Ok line))
    ⊎ (¬ IsHeader filter number × IsConvertedLine filter number line result)

-- P holds of the text of the line with this number
abbrev pub HasText : Filter → ℕ → List ℕ → (List ℕ → Type 0) → Type 0
HasText filter number line P = (text : List ℕ) × IsTextOrError filter number line (Ok text) × P text

-- converting these bytes of a line fails with this error
abbrev pub TargetFails : Bool → Target → List ℕ → LineError → Type 0
TargetFails trims (target.Line conversion) bytes error =
    (error.field ≡ None) × LineFails trims conversion.now bytes error.error
TargetFails trims (target.Field base field) bytes error = EditingFails trims base bytes (field ∷ []) error
TargetFails trims (target.Fields base fields) bytes error = EditingFails trims base bytes fields.items error

-- converting the line with this number fails with this error
abbrev pub ConvertingFails : Filter → ℕ → List ℕ → LineError → Type 0
ConvertingFails filter number line error =
    TargetFails filter.trims filter.target (body_of filter number line) error

-- the conversion of the line with this number fails with this error; a header has none
abbrev pub ConversionFails : Filter → ℕ → List ℕ → LineError → Type 0
ConversionFails filter number line error = ¬ IsHeader filter number × ConvertingFails filter number line error

-- what is written instead of the text of a line that has none: the line itself with `Keep`, and otherwise nothing
abbrev pub replacement : OnError → List ℕ → List ℕ
replacement Keep line = line
replacement _ line = []

-- a line that has no text: its error, and what is written instead
pub record Rejected : Type 0 where
  pub error : ProgramError
  pub output : List ℕ

-- the result of a line: its text, or that it has none
abbrev pub FilteredLine : Type 0
FilteredLine = Result (List ℕ) Rejected

-- a text or an error as the result of the line with this number
abbrev pub filtered_line : Filter → ℕ → List ℕ → Result (List ℕ) LineError → FilteredLine
filtered_line filter number line (Ok text) = Ok text
filtered_line filter number line (Err error) =
    Err (record { error = Line number error; output = replacement filter.on_error line })

-- the result of the line with this number
abbrev pub IsResultOfLine : Filter → ℕ → List ℕ → FilteredLine → Type 0
IsResultOfLine filter number line result =
    (found : Result (List ℕ) LineError) × IsTextOrError filter number line found
    × (result ≡ filtered_line filter number line found)

-- ---- The result of a row: of a line, or with `records` of a record.

-- with `records` the row is a broken record
abbrev pub is_broken_row : Filter → List ℕ → Bool
is_broken_row filter row = filter.has_records && is_broken row

-- the number of lines of a row
abbrev pub lines_of_row : Filter → List ℕ → ℕ
lines_of_row filter row = if filter.has_records then lines_in row else 1

-- the row has fields, and P holds of the text of the row that begins at the line with this number
abbrev pub HasRowText : Filter → ℕ → List ℕ → (List ℕ → Type 0) → Type 0
HasRowText filter number row P = (is_broken_row filter row ≡ false) × HasText filter number row P

-- the row that begins at the line with this number fails with this error: it is a broken record, or its conversion
-- fails
abbrev pub RowFails : Filter → ℕ → List ℕ → LineError → Type 0
RowFails filter number row error =
    MatchBool (is_broken_row filter row) (error ≡ error_of_line operation.Quote)
    (ConversionFails filter number row error)

-- the result of the row that begins at the line with this number
abbrev pub IsResultOfRow : Filter → ℕ → List ℕ → FilteredLine → Type 0
IsResultOfRow filter number row result =
    MatchBool (is_broken_row filter row)
    (result ≡ filtered_line filter number row (Err (error_of_line operation.Quote)))
    (IsResultOfLine filter number row result)

-- the output of a line: its text, or what is written instead, and a line feed
abbrev pub output_of_line : FilteredLine → List ℕ
output_of_line (Ok text) = text ++ (10 ∷ [])
output_of_line (Err rejected) = rejected.output ++ (10 ∷ [])

-- the errors of a line: one if it has no text
abbrev pub errors_of_line : FilteredLine → List ProgramError
errors_of_line (Ok text) = []
errors_of_line (Err rejected) = rejected.error ∷ []

-- ---- What a filter changes.

-- a value before and after
pub record Change (A : Type 0) : Type 0 where
  pub before : A
  pub after : A

-- what is left of the input, what was written and the diagnostics, before and after; and the kind of the first error
-- of the reader, if it has failed
pub record Effects (D : Type 0) : Type 0 where
  pub input : Change (Option (List ℕ))
  pub failure : Option ErrorKind
  pub output : Change (Option (List ℕ))
  pub diagnostics : Change D

-- ---- The next row.

-- the next row of an input whose bytes are known is this
abbrev pub IsNextRow : Filter → Change (Option (List ℕ)) → List ℕ → Type 0
IsNextRow filter input row = IfSome input.before (λ bytes. IsRowRead filter.has_records true bytes row input.after)

-- an input whose bytes are known has no next row
abbrev pub HasNoRow : Filter → Change (Option (List ℕ)) → Type 0
HasNoRow filter input = IfSome input.before (λ bytes. IsRowRead filter.has_records false bytes [] input.after)

-- a reader with this failure cannot read the line with this number: it is out of memory for it, or else the input
-- failed
abbrev pub IsErrorOfReading : ℕ → Option ErrorKind → ProgramError → Type 0
IsErrorOfReading number failure (LongLine at) = (at ≡ number) × (failure ≡ Some OutOfMemory)
IsErrorOfReading number failure Input = IsSomeAnd failure (λ kind. kind ≢ OutOfMemory)
IsErrorOfReading number failure _ = ⊥

-- the error is that of the line with this number, with `Skip` and `Keep` only out of memory
abbrev pub IsErrorOfLine : Filter → ℕ → List ℕ → ProgramError → Type 0
IsErrorOfLine filter number line (Line at error) =
    (at ≡ number) × (filter.on_error ≢ Stop → status_of_operation error.error ≢ 1) × (error.error ≢ operation.Output)
    × RowFails filter number line error
IsErrorOfLine filter number line _ = ⊥

-- ---- What a filter does to a line.

-- a result with this error, if it is that of one
abbrev pub with_error : {A E : Type 0} → ProgramError → Result A E → Result A ProgramError
with_error error (Ok x) = Ok x
with_error error (Err _) = Err error

module _ {D : Type 0} (reports : D → ProgramError → D → Type 0) (filter : Filter) (number : ℕ) where
  -- the line with this number was filtered, and this was returned: whether it has a text, after its output and its
  -- errors; or `Output`, after a prefix of its output; or another error, and nothing was written and reported
  abbrev pub FiltersLine : List ℕ → Change (Option (List ℕ)) → Change D → Result Bool ProgramError → Type 0
  FiltersLine line output diagnostics (Ok has_text) =
      (result : FilteredLine) × IsResultOfRow filter number line result
      × Appends output.before output.after (output_of_line result)
      × FoldsTo reports diagnostics.before (errors_of_line result) diagnostics.after
      × (has_text ≡ is_ok result) × (filter.on_error ≡ Stop → has_text ≡ true)
  FiltersLine line output diagnostics (Err Output) =
      (result : FilteredLine) × IsResultOfRow filter number line result
      × AppendsPrefix output.before output.after (output_of_line result)
      × FoldsTo reports diagnostics.before (errors_of_line result) diagnostics.after
      × (filter.on_error ≡ Stop → is_ok result ≡ true)
  FiltersLine line output diagnostics (Err error) =
      IsErrorOfLine filter number line error × (output.after ≡ output.before)
      × (diagnostics.after ≡ diagnostics.before)

  -- nothing was written, and nothing was reported
  abbrev pub IsSilent : Effects D → Type 0
  IsSilent effects =
      (effects.output.after ≡ effects.output.before) × (effects.diagnostics.after ≡ effects.diagnostics.before)

  -- the next row was filtered; or there is none; or it could not be read
  abbrev pub FiltersNext : Effects D → Result (Option FilteredRow) ProgramError → Type 0
  FiltersNext effects (Ok None) = HasNoRow filter effects.input × IsSilent effects
  FiltersNext effects (Ok (Some row)) =
      (line : List ℕ) × IsNextRow filter effects.input line × (row.lines ≡ lines_of_row filter line)
      × FiltersLine line effects.output effects.diagnostics (Ok row.has_text)
  FiltersNext effects (Err error) =
      ((line : List ℕ) × IsNextRow filter effects.input line
      × FiltersLine line effects.output effects.diagnostics (Err error))
      ⊎ (IsErrorOfReading number effects.failure error × IsSilent effects)
