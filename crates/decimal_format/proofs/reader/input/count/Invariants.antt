use Rattle.std.proofs.Common.{◌≡◌, ◌+◌, length}
use Rattle.decimal_format.proofs.reader.input.count.Given as goal

abbrev pub invariant-loop-next : goal.invariant-loop-next
invariant-loop-next g l = l.count + length (g.T.Input.bytes l.rest) ≡ length (g.T.Input.bytes l.fn.text)

abbrev pub decreases-loop-next : goal.decreases-loop-next
decreases-loop-next g l = length (g.T.Input.bytes l.rest)
