use Rattle.std.proofs.Common.{inl, subst}
use Rattle.decimal_unsigned.specs.declared.decimal.TheConstants.{INLINE_DIGITS}
use Rattle.number_format.specs.{declared.read.number_reader.ParseMode.ParseMode, NumberReading.{NumberReader, number_reader_of, IsReadInMode}}
use Rattle.fixed_decimal_c.proofs.read.read_text.Goals as goal

pub returns : goal.returns
returns c =
    let f = c.args.formatter.now in
    let text = c.args.text.now in
    let result = c.read_utf8-read.result in
    let (is, can) = c.in_ok-reader.ensures.ok in
    let by = subst (λ (r : NumberReader). IsReadInMode INLINE_DIGITS c.parse_mode.result r text result) is
    c.read_utf8-read.ensures in
    let read = subst (λ (m : ParseMode). IsReadInMode INLINE_DIGITS m (number_reader_of f) text result)
    c.parse_mode.ensures by in
    inl (result, can, read, c.write_read.ensures)
