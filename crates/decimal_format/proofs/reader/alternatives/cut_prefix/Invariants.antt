use Rattle.std.proofs.Common.{◌≡◌, ◌++◌, List, ℕ, length}
use Rattle.decimal_format.proofs.reader.alternatives.cut_prefix.Given as goal

abbrev pub invariant-loop-next : goal.invariant-loop-next
invariant-loop-next g l =
    (done : List ℕ) × (g.U.Input.bytes l.fn.prefix ≡ done ++ g.U.Input.bytes l.left)
    × (g.T.Input.bytes l.fn.text ≡ done ++ g.T.Input.bytes l.rest)

abbrev pub decreases-loop-next : goal.decreases-loop-next
decreases-loop-next g l = length (g.U.Input.bytes l.left)
