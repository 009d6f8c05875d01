use Rattle.std.proofs.Common.{◌∷◌, take}
use Rattle.std.specs.Io.KnownBytes.{Appends}
use Rattle.cli.specs.Fields.{quote, doubled}
use Rattle.cli.proofs.lines.fields.write_quoted.Given as goal

-- a quote and the bytes so far were written
abbrev pub invariant-loop-byte : goal.invariant-loop-byte
invariant-loop-byte g l =
    Appends (g.W.Sink.contents l.fn.sink) (g.W.Sink.contents l.sink) (quote ∷ doubled (take l.byte-index l.text))
