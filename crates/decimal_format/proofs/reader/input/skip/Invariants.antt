use Rattle.std.proofs.Common.{◌≡◌, drop}
use Rattle.decimal_format.proofs.reader.input.skip.Given as goal

abbrev pub invariant-loop : goal.invariant-loop
invariant-loop g l = g.T.Input.bytes l.rest ≡ drop l.counter (g.T.Input.bytes l.fn.text)
