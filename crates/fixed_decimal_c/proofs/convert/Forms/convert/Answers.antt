use Rattle.std.proofs.Common.{Ok, inr, length}
use Rattle.conversions.specs.Conversion.{IsTextBy}
use Rattle.fixed_decimal_c.specs.{Conversions.{IsConverted, ConversionFails}, Formats.FormatFails}
use Rattle.fixed_decimal_c.proofs.lemmas.texts.Writing.{writes_weaker}
use Rattle.fixed_decimal_c.proofs.convert.Forms.convert.Goals as goal

pub returns-in-Ok : goal.returns-in-Ok
returns-in-Ok c =
    let f = c.args.self.now in
    let calls = c.args.calls.now in
    let text = c.args.text.now in
    let v = c.in-Ok.value in
    let last = c.in-Ok.ensures.last in
    writes_weaker (λ written. IsTextBy f.formatter v (Ok written)) (IsConverted f calls text)
    (λ error. FormatFails error f.formatter v (length calls)) (ConversionFails f calls text) c.write.result
    c.args.buffer.now c.write.new.buffer (λ written is. (v, last, is)) (λ error fails. inr (v, last, fails))
    c.write.ensures
