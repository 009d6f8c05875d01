use Rattle.std.proofs.Common.{take}
use Rattle.std.specs.Io.KnownBytes.{Appends}
use Rattle.decimal_format.specs.Parts.{digits_text}
use Rattle.decimal_format.proofs.formatter.text.write_digits.Given as goal

abbrev pub invariant-loop-digit : goal.invariant-loop-digit
invariant-loop-digit g l =
    Appends (g.W.Sink.contents l.initial.sink) (g.W.Sink.contents l.sink)
    (digits_text l.symbols (take l.digit-index l.digits))
