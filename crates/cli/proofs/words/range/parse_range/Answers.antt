use Rattle.std.proofs.Common.{◌≡◌, ℕ, List, Option, String, Ok, rules}
use Rattle.std.specs.{declared.alloc.Global.Global, Prelude.map}
use Rattle.conversions.specs.{declared.{range_conversion.RangeConversion.RangeConversion, range_formatter.RangeFormatter.RangeFormatter}, Calls.copied, RangeWord.{NamesRangeFormatter, RangeFormatterFails}, ReadWord.NamesReader}
use Rattle.cli.specs.{declared.program.error.WordsError.{WordsError, TheVariants.Memory}, Calls.calls_of, Error.words_error, RangeWords.{RangeWordsValue, NamesRangeConversion, RangeConversionFails}, Words.{split_read, WordsFail}}
use Rattle.conversions.proofs.lemmas.calls.Results.{err_with}
use Rattle.cli.proofs.lemmas.words.WordsFails.{reader_fails, calls_fail, format_fails, format_fails_first, memory_fails}
use Rattle.cli.proofs.words.range.parse_range.Goals as goal

-- `format:..` names a formatter
abbrev Named : List ℕ → Type 0
Named format = (formatter : RangeFormatter) × NamesRangeFormatter format formatter

module _
    (words seen : RangeWordsValue) (is : seen ≡ words) (read : Option (List ℕ)) (calls : List (String Global))
    (first : (read, calls) ≡ split_read seen.others)
  where
    names :
        (conversion : RangeConversion) → NamesReader read conversion.reader
        → calls_of calls ≡ Ok (map copied conversion.calls.items)
        → NamesRangeFormatter seen.format conversion.formatter → NamesRangeConversion words conversion
    names conversion reader named formatter = rw (← is, ← first) (reader, named, formatter)

    fails :
        (error : WordsError) → WordsFail read calls (RangeFormatterFails seen.format) (Named seen.format) error
        → RangeConversionFails words error
    fails error wrong = rw (← is, ← first) wrong

pub returns-in_err-reader-clause-err : goal.returns-in_err-reader-clause-err
returns-in_err-reader-clause-err c =
    let residual = c.from_residual in
    let failed = c.in_err-reader in
    let words = c.args.words.now in
    err_with (RangeConversionFails words) residual.result (words_error failed.field-0.0) residual.ensures.1
    (fails words _ c.words.view_is _ _ c.split_read.ensures (words_error failed.field-0.0)
    (reader_fails _ c.split_read.result.1.now _ _ failed.field-0.0 failed.ensures.err))

pub returns-in_err-parse_range_formatter-in-Ok-clause-err : goal.returns-in_err-parse_range_formatter-in-Ok-clause-err
returns-in_err-parse_range_formatter-in-Ok-clause-err c =
    let residual = c.from_residual-in_err-parse_range_formatter-in-Ok in
    let failed = c.in_err-parse_range_formatter-in-Ok in
    let words = c.args.words.now in
    let format = c.words.inside.format.now in
    err_with (RangeConversionFails words) residual.result (words_error failed.field-0.0) residual.ensures.1
    (fails words _ c.words.view_is _ _ c.split_read.ensures (words_error failed.field-0.0)
    (format_fails _ c.split_read.result.1.now (RangeFormatterFails format) (Named format) c.in_ok-reader.reader
    c.in_ok-reader.ensures.some (map copied c.in-Ok.calls.items) c.in-Ok.ensures.some failed.field-0.0
    failed.ensures.err))

pub returns-in-Ok-clause-some : goal.returns-in-Ok-clause-some
returns-in-Ok-clause-some c =
    let parsed = c.in_ok-parse_range_formatter-in-Ok in
    names c.args.words.now _ c.words.view_is _ _ c.split_read.ensures
    (record { reader = c.in_ok-reader.reader; calls = c.in-Ok.calls; formatter = parsed.field-0 })
    c.in_ok-reader.ensures.some c.in-Ok.ensures.some parsed.ensures.ok

pub returns-in_err-parse_range_formatter-in-Err-Memory-clause-err :
    goal.returns-in_err-parse_range_formatter-in-Err-Memory-clause-err
returns-in_err-parse_range_formatter-in-Err-Memory-clause-err c =
    let residual = c.from_residual-in_err-parse_range_formatter-in-Err-Memory in
    let failed = c.in_err-parse_range_formatter-in-Err-Memory in
    let none = rw c.in-Err-Memory.field-0-is at c.in-Err-Memory.ensures.err in
    let words = c.args.words.now in
    let format = c.words.inside.format.now in
    err_with (RangeConversionFails words) residual.result (words_error failed.field-0.0) residual.ensures.1
    (fails words _ c.words.view_is _ _ c.split_read.ensures (words_error failed.field-0.0)
    (format_fails_first _ c.split_read.result.1.now (RangeFormatterFails format) (Named format) c.in_ok-reader.reader
    c.in_ok-reader.ensures.some none failed.field-0.0 failed.ensures.err))

pub returns-in-Err-Memory-clause-err : goal.returns-in-Err-Memory-clause-err
returns-in-Err-Memory-clause-err c =
    let parsed = c.in_ok-parse_range_formatter-in-Err-Memory in
    let none = rw c.in-Err-Memory.field-0-is at c.in-Err-Memory.ensures.err in
    let format = c.words.inside.format.now in
    fails c.args.words.now _ c.words.view_is _ _ c.split_read.ensures Memory
    (memory_fails _ c.split_read.result.1.now (RangeFormatterFails format) (Named format) c.in_ok-reader.reader
    c.in_ok-reader.ensures.some none (parsed.field-0, parsed.ensures.ok))

pub returns-clause-err : goal.returns-clause-err
returns-clause-err c =
    let format = c.words.inside.format.now in
    fails c.args.words.now _ c.words.view_is _ _ c.split_read.ensures c.in-Err.error
    (calls_fail _ c.split_read.result.1.now (RangeFormatterFails format) (Named format) c.in_ok-reader.reader
    c.in_ok-reader.ensures.some c.in-Err.error (λ same. search (rules, same)) c.in-Err.ensures.err)
