use Rattle.std.proofs.Common.{◌≡◌, ◌<◌, length, ℕ}
use Rattle.std.specs.Prelude.{slice_index, encode_utf8}
use Rattle.decimal_format.proofs.symbols.check_widths.Given as goal

abbrev pub invariant-loop-digit : goal.invariant-loop-digit
invariant-loop-digit l =
    (d : ℕ) → d < l.digit-index
    → length (encode_utf8 (slice_index l.digits d)) ≡ length (encode_utf8 (slice_index l.digits 0))
