use Rattle.std.proofs.Common.{◌≡◌, ℕ, List, Option, String, Ok, ap}
use Rattle.std.specs.{declared.alloc.Global.Global, Option.option_copied, Prelude.map}
use Rattle.conversions.specs.{declared.{conversion.Conversion.Conversion, locale_formatter.LocaleFormatter.LocaleFormatter}, Calls.copied, FormatWord.{NamesFormatter, FormatterFails}, ReadWord.NamesReader}
use Rattle.cli.specs.{declared.program.error.WordsError.{WordsError, TheVariants.Memory}, Calls.calls_of, Error.words_error, Words.{split_read, split_format, NamesConversion, WordsFail, ConversionFails}}
use Rattle.conversions.proofs.lemmas.calls.Results.{err_with}
use Rattle.cli.proofs.lemmas.words.WordsFails.{reader_fails, format_fails, format_fails_first, memory_fails}
use Rattle.cli.proofs.words.conversion.parse_conversion.Goals as goal

-- `format:..` names a formatter
abbrev Named : Option (List ℕ) → Type 0
Named format = (formatter : Option LocaleFormatter) × NamesFormatter format formatter

module _
    (words others calls : List (String Global)) (read format : Option (List ℕ))
    (first : (read, others) ≡ split_read words) (last : (format, calls) ≡ split_format others)
  where
    by : format ≡ (split_format others).0
    by = ap (λ (it : Option (List ℕ) × List (String Global)). it.0) last

    before : calls ≡ (split_format others).1
    before = ap (λ (it : Option (List ℕ) × List (String Global)). it.1) last

    names :
        (conversion : Conversion) → NamesReader read conversion.reader
        → calls_of calls ≡ Ok (map copied conversion.calls.items) → NamesFormatter format conversion.formatter
        → NamesConversion words conversion
    names conversion reader named formatter = rw (← first, ← by, ← before) (reader, named, formatter)

    fails :
        (error : WordsError) → WordsFail read calls (FormatterFails format) (Named format) error
        → ConversionFails words error
    fails error wrong = rw (← first, ← by, ← before) wrong

pub returns-in_err-reader-clause-err : goal.returns-in_err-reader-clause-err
returns-in_err-reader-clause-err c =
    let residual = c.from_residual in
    let failed = c.in_err-reader in
    let calls = c.split_format.result.1.now in
    err_with (ConversionFails c.args.words.now) residual.result (words_error failed.field-0.0) residual.ensures.1
    (fails c.args.words.now _ _ _ _ c.split_read.ensures c.split_format.ensures (words_error failed.field-0.0)
    (reader_fails _ calls _ _ failed.field-0.0 failed.ensures.err))

pub returns-in_err-parse_formatter-in-Ok-clause-err : goal.returns-in_err-parse_formatter-in-Ok-clause-err
returns-in_err-parse_formatter-in-Ok-clause-err c =
    let residual = c.from_residual-in_err-parse_formatter-in-Ok in
    let failed = c.in_err-parse_formatter-in-Ok in
    let calls = c.split_format.result.1.now in
    let format = option_copied c.split_format.result.0 in
    err_with (ConversionFails c.args.words.now) residual.result (words_error failed.field-0.0) residual.ensures.1
    (fails c.args.words.now _ _ _ _ c.split_read.ensures c.split_format.ensures (words_error failed.field-0.0)
    (format_fails _ calls (FormatterFails format) (Named format) c.in_ok-reader.reader c.in_ok-reader.ensures.some
    (map copied c.in-Ok.calls.items) c.in-Ok.ensures.some failed.field-0.0 failed.ensures.err))

pub returns-in-Ok-clause-some : goal.returns-in-Ok-clause-some
returns-in-Ok-clause-some c =
    let parsed = c.in_ok-parse_formatter-in-Ok in
    names c.args.words.now _ _ _ _ c.split_read.ensures c.split_format.ensures
    (record { reader = c.in_ok-reader.reader; calls = c.in-Ok.calls; formatter = parsed.field-0 })
    c.in_ok-reader.ensures.some c.in-Ok.ensures.some parsed.ensures.some

pub returns-in_err-parse_formatter-in-Err-Memory-clause-err :
    goal.returns-in_err-parse_formatter-in-Err-Memory-clause-err
returns-in_err-parse_formatter-in-Err-Memory-clause-err c =
    let residual = c.from_residual-in_err-parse_formatter-in-Err-Memory in
    let failed = c.in_err-parse_formatter-in-Err-Memory in
    let calls = c.split_format.result.1.now in
    let format = option_copied c.split_format.result.0 in
    let none = rw c.in-Err-Memory.field-0-is at c.in-Err-Memory.ensures.err in
    err_with (ConversionFails c.args.words.now) residual.result (words_error failed.field-0.0) residual.ensures.1
    (fails c.args.words.now _ _ _ _ c.split_read.ensures c.split_format.ensures (words_error failed.field-0.0)
    (format_fails_first _ calls (FormatterFails format) (Named format) c.in_ok-reader.reader
    c.in_ok-reader.ensures.some none failed.field-0.0 failed.ensures.err))

pub returns-in-Err-Memory-clause-err : goal.returns-in-Err-Memory-clause-err
returns-in-Err-Memory-clause-err c =
    let parsed = c.in_ok-parse_formatter-in-Err-Memory in
    let calls = c.split_format.result.1.now in
    let format = option_copied c.split_format.result.0 in
    let none = rw c.in-Err-Memory.field-0-is at c.in-Err-Memory.ensures.err in
    fails c.args.words.now _ _ _ _ c.split_read.ensures c.split_format.ensures Memory
    (memory_fails _ calls (FormatterFails format) (Named format) c.in_ok-reader.reader c.in_ok-reader.ensures.some none
    (parsed.field-0, parsed.ensures.some))
