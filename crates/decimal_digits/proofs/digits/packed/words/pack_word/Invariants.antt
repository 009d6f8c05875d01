use Rattle.std.proofs.Common.{◌≡◌, ◌%◌, map, take}
use Rattle.std.specs.Int.Digits.{number_from_digits}
use Rattle.decimal_digits.proofs.digits.packed.words.pack_word.Given as goal

-- the digits before the index are read
abbrev pub invariant-loop-digit : goal.invariant-loop-digit
invariant-loop-digit l = l.number ≡ number_from_digits 16 (map (λ d. d % 16) (take l.digit-index l.digits))
