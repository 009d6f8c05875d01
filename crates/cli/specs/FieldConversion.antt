-- The conversion of a line, and of a field.
use Rattle.std.specs.Prelude.{◌≡◌, ◌⊎◌, ℕ, ◌&&◌, not, Bool, true, List, Result, Ok, Err}
use Rattle.conversions.specs.{declared.{conversion.Conversion.Conversion, error.OperationError.{OperationError, TheVariants.{Memory, Output, Quote}}}, Conversion.{ConversionError, IsOutcome, OperationsFail, error_of}}
use Rattle.cli.specs.{declared.lines.fields.Field.Field, Fields.{is_quoted, Holds}, Trim.{text_of, with_text_of}}

-- an outcome as a result of the programs
abbrev pub result_of : Result (List ℕ) ConversionError → Result (List ℕ) OperationError
result_of (Ok text) = Ok text
result_of (Err why) = Err (error_of why)

-- the result of converting a text
abbrev pub IsTextResult : Conversion → List ℕ → Result (List ℕ) OperationError → Type 0
IsTextResult conversion text result =
    (outcome : Result (List ℕ) ConversionError) × IsOutcome conversion text outcome × (result ≡ result_of outcome)

-- a result with what a function makes of its text
abbrev pub map_text : {E : Type 0} → (List ℕ → List ℕ) → Result (List ℕ) E → Result (List ℕ) E
map_text f (Ok text) = Ok (f text)
map_text f (Err error) = Err error

-- the result of converting the text of these bytes, with `trim` between the blanks and tabs around it
abbrev pub IsResultBetween : Bool → Conversion → List ℕ → Result (List ℕ) OperationError → Type 0
IsResultBetween trims conversion bytes result =
    (converted : Result (List ℕ) OperationError) × IsTextResult conversion (text_of trims bytes) converted
    × (result ≡ map_text (with_text_of trims bytes) converted)

-- whether blanks and tabs around the text of a field are no part of it: with `trim`, but in CSV not with quotes
abbrev pub is_trimmed : Bool → Field → List ℕ → Bool
is_trimmed trims field bytes = trims && not (is_quoted field bytes)

-- the result of converting the text that the bytes of a field hold, if they hold one
abbrev pub IsFieldResult : Bool → Field → Conversion → List ℕ → Result (List ℕ) OperationError → Type 0
IsFieldResult trims field conversion bytes result =
    ((text : List ℕ) × Holds field bytes text
    × IsResultBetween (is_trimmed trims field bytes) conversion text result)
    ⊎ (((text : List ℕ) → ¬ Holds field bytes text) × (result ≡ Err Quote))

-- P holds of the result, which is a text
abbrev pub HasFieldText : Bool → Field → Conversion → List ℕ → (List ℕ → Type 0) → Type 0
HasFieldText trims field conversion bytes P =
    (text : List ℕ) × IsFieldResult trims field conversion bytes (Ok text) × P text

-- the result of a line: the conversion of its text
abbrev pub IsLineResult : Bool → Conversion → List ℕ → Result (List ℕ) OperationError → Type 0
IsLineResult trims conversion line result = IsTextResult conversion (text_of trims line) result

-- P holds of the text of a line
abbrev pub HasLineText : Bool → Conversion → List ℕ → (List ℕ → Type 0) → Type 0
HasLineText trims conversion line P = (text : List ℕ) × IsLineResult trims conversion line (Ok text) × P text

-- the conversion of a line fails with this error; with `trim` each text needs memory
abbrev pub LineFails : Bool → Conversion → List ℕ → OperationError → Type 0
LineFails true conversion line Memory =
    OperationsFail Memory conversion (text_of true line) ⊎ OperationsFail Output conversion (text_of true line)
LineFails trims conversion line error = OperationsFail error conversion (text_of trims line)
