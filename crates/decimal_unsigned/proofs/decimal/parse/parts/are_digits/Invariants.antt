use Rattle.std.proofs.Common.{◌≡◌, take}
use Rattle.std.specs.Str.{all_ascii_digits}
use Rattle.decimal_unsigned.proofs.decimal.parse.parts.are_digits.Given as goal

abbrev pub invariant-loop-byte : goal.invariant-loop-byte
invariant-loop-byte l = l.all ≡ all_ascii_digits (take l.byte-index l.group)
