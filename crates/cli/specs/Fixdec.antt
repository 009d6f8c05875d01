-- The run that the words of `fixdec` name, and its result.
use Rattle.std.specs.{Prelude.{◌≡◌, ◌≢◌, ℕ, ⊤, Bool, true, false, List, [], ◌∷◌, ◌++◌, String, string_bytes, Option, None, Result, Ok, Err, IsSomeAnd, MatchOption}, Io.KnownBytes.{Appends, append_known}, declared.alloc.Global.Global}
use Rattle.decimal_digits.specs.AppendsPrefix.{AppendsPrefix}
use Rattle.cli.specs.{RangeWords.{RangeWordsValue, range_words, NamesRangeConversion, RangeConversionFails}, Words.{NamesConversion, ConversionFails}, declared.program.{error.{WordsError.{WordsError, TheVariants.{NoText, Memory}}, ProgramError.{ProgramError, TheVariants.{Setup, Operation, Range, Output}}}, help.Program.TheVariants.Fixdec}, Error.setup_error}
use Rattle.conversions.specs.{declared.{conversion.Conversion.Conversion, error.{OperationError.OperationError, RangeError.RangeError}, range_conversion.RangeConversion.RangeConversion}, Conversion.{HasOutcome, OperationsFail}, RangeConversion.{HasRangeOutcome, RangeFails}}

-- a conversion and its text, or a conversion of a range and the texts of its start and of its end
pub data Run : Type 0 where
  of_text : Conversion → List ℕ → Run
  of_range : RangeConversion → List ℕ → List ℕ → Run

-- the words are TEXT to:END [read:..] [CALL].. format:.., with this conversion and these texts; or else they are TEXT
-- [read:..] [CALL].. [format:..]
abbrev pub NamesRun : List (String Global) → Run → Type 0
NamesRun [] run = ⊥
NamesRun (first ∷ others) (of_text conversion text) =
    (range_words others ≡ None) × (text ≡ string_bytes first) × NamesConversion others conversion
NamesRun (first ∷ others) (of_range conversion start end) =
    IsSomeAnd (range_words others)
    (λ words. (start ≡ string_bytes first) × (end ≡ words.end) × NamesRangeConversion words conversion)

-- they are neither, for this reason
abbrev pub RunFails : List (String Global) → WordsError → Type 0
RunFails [] error = error ≡ NoText
RunFails (first ∷ others) error =
    MatchOption (range_words others) (ConversionFails others error) (λ words. RangeConversionFails words error)

-- the words name a run, and P holds of it
pub record HasRun (words : List (String Global)) (P : Run → Type 0) : Type 0 where
  pub run : Run
  pub names : NamesRun words run
  pub holds : P run

-- P holds of the text that a run makes
abbrev pub HasText : Run → (List ℕ → Type 0) → Type 0
HasText (of_text conversion text) P = HasOutcome conversion text P
HasText (of_range conversion start end) P = HasRangeOutcome conversion start end P

-- the run has a text, and the text and a line feed are appended
abbrev pub PrintsLine : Option (List ℕ) → Option (List ℕ) → Run → Type 0
PrintsLine old new run = HasText run (λ written. Appends old new (written ++ (10 ∷ [])))

-- the same for a prefix of the text and a line feed
abbrev pub PrintsLinePrefix : Option (List ℕ) → Option (List ℕ) → Run → Type 0
PrintsLinePrefix old new run = HasText run (λ written. AppendsPrefix old new (written ++ (10 ∷ [])))

-- the run of the words prints
abbrev pub Prints : List (String Global) → Option (List ℕ) → Option (List ℕ) → Type 0
Prints words old new = HasRun words (PrintsLine old new)

-- the run of the words prints a prefix
abbrev pub PrintsPrefix : List (String Global) → Option (List ℕ) → Option (List ℕ) → Type 0
PrintsPrefix words old new = HasRun words (PrintsLinePrefix old new)

-- the conversion of a text fails with this error
abbrev pub TextFails : OperationError → Run → Type 0
TextFails error (of_text conversion text) = OperationsFail error conversion text
TextFails error (of_range conversion start end) = ⊥

-- the conversion of a range does
abbrev pub TextsFail : RangeError → Run → Type 0
TextsFail error (of_text conversion text) = ⊥
TextsFail error (of_range conversion start end) = RangeFails error conversion start end

-- the error of words for which `Fails` holds, or of the conversion of a run that `Has` has; or a failed output
abbrev pub HasErrorOf : (WordsError → Type 0) → ((Run → Type 0) → Type 0) → ProgramError → Type 0
HasErrorOf Fails Has (Setup error) = (error.program ≡ Fixdec) × Fails error.why
HasErrorOf Fails Has (Operation error) = Has (TextFails error)
HasErrorOf Fails Has (Range error) = Has (TextsFail error)
HasErrorOf Fails Has Output = Has (λ run. HasText run (λ _. ⊤))
HasErrorOf Fails Has _ = ⊥

-- the error of the words or of their run
abbrev pub HasError : List (String Global) → ProgramError → Type 0
HasError words error = HasErrorOf (RunFails words) (HasRun words) error

-- the work of `fixdec`: its conversion is printed; or it has an error: the block before the writer cannot be allocated;
-- or the words have the error, and the writer is not called, but at `Output`, where it failed after a prefix of the
-- text and a line feed, of which the block still holds a part
abbrev pub Converts :
    {O : Type 0} → (O → Option (List ℕ)) → O → List (String Global) → Result Bool ProgramError → Option (O × Bool)
    → Type 0
Converts contents out words (Ok texts) back =
    IsSomeAnd back (λ closed. (texts ≡ true) × (closed.1 ≡ false) × Prints words (contents out) (contents closed.0))
Converts contents out words (Err error) back =
    MatchOption back (error ≡ setup_error Fixdec Memory) (λ closed. HasError words error
    × (error ≢ Output → closed ≡ (out, false))
    × (error ≡ Output → (closed.1 ≡ true)
    × ((unwritten : List ℕ) × PrintsPrefix words (contents out) (append_known (contents closed.0) unwritten))))

-- ---- Private: used only in the contracts of private functions.

-- the words after a text name its conversion, and P holds of the run
abbrev pub HasTextRun : List ℕ → List (String Global) → (Run → Type 0) → Type 0
HasTextRun text words P = (conversion : Conversion) × NamesConversion words conversion × P (of_text conversion text)

-- the words after a start name the conversion of a range, and P holds of the run
abbrev pub HasRangeRun : List ℕ → RangeWordsValue → (Run → Type 0) → Type 0
HasRangeRun start words P =
    (conversion : RangeConversion) × NamesRangeConversion words conversion × P (of_range conversion start words.end)

-- the error of the words after a text, or of its conversion
abbrev pub HasErrorOfText : List ℕ → List (String Global) → ProgramError → Type 0
HasErrorOfText text words error = HasErrorOf (ConversionFails words) (HasTextRun text words) error

-- the error of the words of a range, or of its conversion
abbrev pub HasErrorOfRange : List ℕ → RangeWordsValue → ProgramError → Type 0
HasErrorOfRange start words error = HasErrorOf (RangeConversionFails words) (HasRangeRun start words) error
