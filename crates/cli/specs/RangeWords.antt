-- The conversion of a range that words name: to:END [read:LOCALE[:lenient][:SKELETON]] [CALL].. format:LOCALE[..].
use Rattle.std.specs.{Prelude.{◌≡◌, ℕ, List, [], ◌∷◌, map, codes, String, string_bytes, Option, None, option_map, Ok}, Option.option_zip, declared.alloc.Global.Global}
use Rattle.conversions.specs.{declared.{range_conversion.RangeConversion.RangeConversion, range_formatter.RangeFormatter.RangeFormatter}, Calls.copied, RangeWord.{NamesRangeFormatter, RangeFormatterFails}, ReadWord.NamesReader}
use Rattle.cli.specs.{declared.program.error.WordsError.WordsError, Calls.calls_of, Parameters.parameter_of, Words.{split_read, split_format, WordsFail}}

-- the text of the end, the word of the formatter, and the words between them
pub record RangeWordsValue : Type 0 where
  pub end : List ℕ
  pub format : List ℕ
  pub others : List (String Global)

-- those of words whose first one is `to:..` and whose last one is `format:..`
abbrev pub range_words : List (String Global) → Option RangeWordsValue
range_words [] = None
range_words (first ∷ rest) =
    let last = split_format rest in
    option_map (λ ends. record { end = ends.0; format = ends.1; others = last.1 })
    (option_zip (parameter_of (codes "to") (string_bytes first)) last.0)

-- the words name this conversion
abbrev pub NamesRangeConversion : RangeWordsValue → RangeConversion → Type 0
NamesRangeConversion words conversion =
    let read = split_read words.others in
    NamesReader read.0 conversion.reader × (calls_of read.1 ≡ Ok (map copied conversion.calls.items))
    × NamesRangeFormatter words.format conversion.formatter

-- the words name no conversion, for this error
abbrev pub RangeConversionFails : RangeWordsValue → WordsError → Type 0
RangeConversionFails words error =
    let read = split_read words.others in
    WordsFail read.0 read.1 (RangeFormatterFails words.format)
    ((formatter : RangeFormatter) × NamesRangeFormatter words.format formatter) error
