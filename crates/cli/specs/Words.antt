-- The conversion that words name: [read:LOCALE[:lenient][:SKELETON]] [CALL].. [format:LOCALE[:GROUPING|:SKELETON]].
use Rattle.std.specs.{Prelude.{◌≡◌, ◌≢◌, ◌⊎◌, ℕ, Bool, if◌then◌else◌, List, [], ◌∷◌, map, reverse, codes, String, string_bytes, Option, Some, None, Ok, MatchResult}, declared.alloc.Global.Global}
use Rattle.conversions.specs.{declared.{conversion.Conversion.Conversion, error.FormError.FormError, locale_formatter.LocaleFormatter.LocaleFormatter, reader.LocaleReader.LocaleReader}, Calls.copied, FormatWord.{NamesFormatter, FormatterFails}, ReadWord.{NamesReader, ReaderFails}}
use Rattle.cli.specs.{declared.program.error.WordsError.{WordsError, TheVariants.Memory}, Calls.{calls_of, IsErrorOfWord}, Error.words_error, Parameters.has_name}

-- ---- The first and the last word.

-- the first word, if it passes a test, and the words after it; or none, and all
abbrev pub split_if : (List ℕ → Bool) → List (String Global) → Option (List ℕ) × List (String Global)
split_if test [] = (None, [])
split_if test (word ∷ words) =
    if test (string_bytes word) then (Some (string_bytes word), words) else (None, word ∷ words)

-- the first word, if it is `read:..`, and the words after it
abbrev pub split_read : List (String Global) → Option (List ℕ) × List (String Global)
split_read words = split_if (has_name (codes "read")) words

-- the last word, if it is `format:..`, and the words before it
abbrev pub split_format : List (String Global) → Option (List ℕ) × List (String Global)
split_format words = let last = split_if (has_name (codes "format")) (reverse words) in (last.0, reverse last.1)

-- ---- All words.

-- the words are [read:..] [CALL].. [format:..], and name this conversion
abbrev pub NamesConversion : List (String Global) → Conversion → Type 0
NamesConversion words conversion =
    let read = split_read words in
    let format = split_format read.1 in
    NamesReader read.0 conversion.reader × (calls_of format.1 ≡ Ok (map copied conversion.calls.items))
    × NamesFormatter format.0 conversion.formatter

-- ---- Errors.

-- the error is that of a word that names no form
abbrev pub IsFormError : (FormError → Type 0) → WordsError → Type 0
IsFormError Fails error = (why : FormError) × (error ≡ words_error why) × Fails why

-- after calls `format:..` has this error; or it names a formatter, and the list of the calls is out of memory
abbrev pub FormatFails : (FormError → Type 0) → Type 0 → List (String Global) → WordsError → Type 0
FormatFails Fails Named calls error = IsFormError Fails error ⊎ (Named × (calls ≢ []) × (error ≡ Memory))

-- the first wrong word, from the left, has this error: `read:..`, a call, `format:..`; or no word is wrong, and the
-- list of the calls is out of memory
abbrev pub WordsFail : Option (List ℕ) → List (String Global) → (FormError → Type 0) → Type 0 → WordsError → Type 0
WordsFail read calls Fails Named error =
    IsFormError (ReaderFails read) error
    ⊎ (((reader : Option LocaleReader) × NamesReader read reader)
    × MatchResult (calls_of calls) (λ _. FormatFails Fails Named calls error)
    (λ wrong. IsErrorOfWord wrong.0 wrong.1 error))

-- the words name no conversion, for this error
abbrev pub ConversionFails : List (String Global) → WordsError → Type 0
ConversionFails words error =
    let read = split_read words in
    let format = split_format read.1 in
    WordsFail read.0 format.1 (FormatterFails format.0)
    ((formatter : Option LocaleFormatter) × NamesFormatter format.0 formatter) error
