use Rattle.std.proofs.Common.{◌≡◌, take, false}
use Rattle.std.specs.Io.KnownBytes.{Appends}
use Rattle.decimal_digits.proofs.sink.Sink.put_bytes.Given as goal

abbrev pub invariant-loop-byte : goal.invariant-loop-byte
invariant-loop-byte g l = record {
  taken : Appends (g.Self.Sink.contents l.initial.self) (g.Self.Sink.contents l.self) (take l.byte-index l.bytes);
  works : g.Self.Sink.has_failed l.self ≡ false;
}
