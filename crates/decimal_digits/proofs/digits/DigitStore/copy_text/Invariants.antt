use Rattle.std.proofs.Common.{◌≡◌, ℕ, ◌+◌, ◌<◌, get_or}
use Rattle.decimal_digits.proofs.digits.DigitStore.copy_text.Given as goal

abbrev pub invariant-loop-index : goal.invariant-loop-index
invariant-loop-index g l =
    (k : ℕ) → k < l.index → get_or l.buffer k 0 ≡ 48 + get_or (g.Self.DigitStore.digits l.self) (l.from + k) 0
