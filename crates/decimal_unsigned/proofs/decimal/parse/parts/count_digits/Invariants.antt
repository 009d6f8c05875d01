use Rattle.std.proofs.Common.{◌≡◌, ◌+◌, drop}
use Rattle.std.specs.{Char.is_ascii_digit, List.prefix_len}
use Rattle.decimal_unsigned.proofs.decimal.parse.parts.count_digits.Given as goal

abbrev pub invariant-loop-i : goal.invariant-loop-i
invariant-loop-i l = prefix_len is_ascii_digit l.text ≡ l.i + prefix_len is_ascii_digit (drop l.i l.text)
