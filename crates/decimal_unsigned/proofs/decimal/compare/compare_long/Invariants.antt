use Rattle.std.proofs.Common.{◌≡◌, drop}
use Rattle.std.specs.{Cmp.Lexicographic.slice_cmp, Ordering.nat_cmp}
use Rattle.decimal_unsigned.proofs.decimal.compare.compare_long.Given as goal

-- the digits from the index on decide
abbrev pub invariant-loop-index : goal.invariant-loop-index
invariant-loop-index g l =
    slice_cmp nat_cmp (g.D.DigitStore.digits l.digits) (g.E.DigitStore.digits l.other)
    ≡ slice_cmp nat_cmp (drop l.index (g.D.DigitStore.digits l.digits)) (drop l.index (g.E.DigitStore.digits l.other))
