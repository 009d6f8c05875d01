-- Conversions, whose text is written to the buffer of a caller.
use Rattle.std.specs.Prelude.{◌≡◌, ◌≢◌, ℕ, ◌⊎◌, List, length, Option, Result, Ok}
use Rattle.decimal_unsigned.specs.declared.decimal.TheConstants.{INLINE_DIGITS}
use Rattle.fixed_decimal.specs.{Decimal.Decimal, Errors.RunFails, Outcome.outcome, declared.runs.{Call.Call, RunError.{RunError, TheVariants.Sink}}}
use Rattle.conversions.specs.{Conversion.{IsLast, LastFails, IsTextBy}, declared.reader.LocaleReader.LocaleReader}
use Rattle.conversions.specs.Error as operation
use Rattle.fixed_decimal_c.specs.{declared.{calls.FdCall.FdCall, convert.Forms.Forms, error.FdError.FdError, forms.FdForms.FdForms}, Calls.{AreCalls, DecodeFails}, Errors.error_of_run, Formats.FormatFails, Forms.{IsReaderOf, ReaderFails, IsFormatterOf, FormatFormFails}, Texts.{WritesNothing, WritesTo}}

-- the forms that C passes
pub record AreForms (forms : FdForms) (texts : List ℕ) (f : Forms) : Type 0 where
  pub reader : IsReaderOf forms.read texts f.reader
  pub formatter : IsFormatterOf forms.format texts f.formatter

-- there is no such reader, or one and no such formatter
abbrev pub FormsFail : FdError → FdForms → List ℕ → Type 0
FormsFail error forms texts =
    ReaderFails error forms.read texts
    ⊎ (((r : Option LocaleReader) × IsReaderOf forms.read texts r) × FormatFormFails error forms.format texts)

-- a text, read and changed by the calls, is written as this
abbrev pub IsConverted : Forms → List Call → List ℕ → List ℕ → Type 0
IsConverted f calls text written =
    (v : Decimal) × IsLast f.reader calls text (Ok v) × IsTextBy f.formatter v (Ok written)

-- reading the text or a call fails with the error, or formatting the result
abbrev pub ConversionFails : Forms → List Call → List ℕ → FdError → Type 0
ConversionFails f calls text error =
    ((e : RunError) × (error ≡ error_of_run e) × LastFails (operation.error_of_run e) f.reader calls text)
    ⊎ ((v : Decimal) × IsLast f.reader calls text (Ok v) × FormatFails error f.formatter v (length calls))

-- the text is written if it fits; or the conversion fails
abbrev pub Converts : Forms → List Call → List ℕ → Result ℕ FdError → List ℕ → List ℕ → Type 0
Converts f calls text answer old new = WritesTo (IsConverted f calls text) (ConversionFails f calls text) answer old new

-- the text is converted by the forms and the calls that C passes; or these are none
abbrev pub ConvertsDecoded : Forms → Result ℕ FdError → List ℕ → List FdCall → List ℕ → List ℕ → List ℕ → Type 0
ConvertsDecoded f answer text calls texts old new =
    ((list : List Call) × AreCalls calls texts list × Converts f list text answer old new)
    ⊎ WritesNothing (λ error. DecodeFails error calls texts) answer old new

-- the same by the forms that C passes; or there are no such forms
abbrev pub ConvertsCalls :
    Result ℕ FdError → List ℕ → FdForms → List FdCall → List ℕ → List ℕ → List ℕ → Type 0
ConvertsCalls answer text forms calls texts old new =
    ((f : Forms) × AreForms forms texts f × ConvertsDecoded f answer text calls texts old new)
    ⊎ WritesNothing (λ error. FormsFail error forms texts) answer old new

-- ---- Runs: conversions without forms.

-- the error is one with which the library's run may fail, its sink apart
abbrev pub IsErrorOfRun : List ℕ → List Call → FdError → Type 0
IsErrorOfRun start calls error =
    (e : RunError) × (e ≢ Sink) × (error ≡ error_of_run e) × RunFails INLINE_DIGITS e start calls

-- the text of the outcome of a run is written if it fits; or the run fails
abbrev pub RunAnswers : List ℕ → List Call → Result ℕ FdError → List ℕ → List ℕ → Type 0
RunAnswers start calls answer old new =
    WritesTo (λ text. outcome start calls ≡ Ok text) (IsErrorOfRun start calls) answer old new

-- the same with the calls that C passes; or these are none
abbrev pub Runs : Result ℕ FdError → List ℕ → List FdCall → List ℕ → List ℕ → List ℕ → Type 0
Runs answer start calls texts old new =
    ((list : List Call) × AreCalls calls texts list × RunAnswers start list answer old new)
    ⊎ WritesNothing (λ error. DecodeFails error calls texts) answer old new
