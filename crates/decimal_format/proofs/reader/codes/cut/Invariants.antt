use Rattle.std.proofs.Common.{◌≡◌, ◌++◌, take}
use Rattle.decimal_format.proofs.reader.codes.cut.Given as goal

abbrev pub invariant-loop-byte : goal.invariant-loop-byte
invariant-loop-byte g l = (g.T.Input.bytes l.fn.text) ≡ take l.byte-index l.code ++ (g.T.Input.bytes l.rest)
