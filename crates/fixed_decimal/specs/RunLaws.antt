-- Laws of runs.
use Rattle.std.specs.{Prelude.{ℕ, List, [], ◌∷◌, map, Option, Some, None, Result, Ok, Err, IsSome, ⊤, ℤ}, List.{All, fold}, Int.int_max}
use Rattle.decimal_digits.specs.declared.rounding.{RoundingIncrement.TheVariants.MultiplesOf1, UnsignedRoundingMode.UnsignedRoundingMode}
use Rattle.fixed_decimal.specs.{declared.{rounding.SignedRoundingMode.TheVariants.Unsigned, runs.{Call.{Call, TheVariants.Round}, RunError.{RunError, TheVariants.{Start, Operand, Memory, Sink}}}}, Decimal.Decimal, SignedRounding.{rounded, IsPosition, HasNumberOf}, Outcome.{OutcomeError, limit_exceeded, after_calls}}
use Rattle.decimal_unsigned.specs.{Unsigned.IsValue, Rounded.rounding_by_1}
use Rattle.decimal_unsigned.specs.declared.error.ParseError.TheVariants as parse

-- ---- Runs over two stores.

-- the result is neither out of memory nor a failed sink
abbrev pub IsDecided : Result ⊤ RunError → Type 0
IsDecided (Err (Start parse.Memory)) = ⊥
IsDecided (Err (Operand at parse.Memory)) = ⊥
IsDecided (Err (Memory at)) = ⊥
IsDecided (Err Sink) = ⊥
IsDecided result = ⊤

-- the text of an outcome, empty for an error
abbrev pub text_or_none : Result (List ℕ) OutcomeError → List ℕ
text_or_none (Ok text) = text
text_or_none (Err refusal) = []

-- ---- Lists of roundings.

-- the call that rounds by the mode at a position, to multiples of 1
abbrev pub rounding_at : UnsignedRoundingMode → ℤ → Call
rounding_at mode position = Round position (Unsigned mode) MultiplesOf1

-- calls result in a decimal with the sign and the number of this one; if there is none, they exceed the limits
abbrev pub ResultHasNumber : Result Decimal OutcomeError → Option Decimal → Type 0
ResultHasNumber (Ok w) (Some v) = HasNumberOf w v
ResultHasNumber (Err (limit_exceeded at)) None = ⊤
ResultHasNumber reached made = ⊥

-- roundings by the mode at one or more positions, in order, give the sign and the number that one rounding at the
-- greatest of these positions gives; they exceed the limits if and only if that one does
abbrev pub RoundsOnce : UnsignedRoundingMode → Type 0
RoundsOnce mode =
    (v : Decimal) (position : ℤ) (others : List ℤ) → IsValue v.absolute → All IsPosition (position ∷ others)
    → (at : ℕ) → ResultHasNumber (after_calls at v (map (rounding_at mode) (position ∷ others)))
    (rounded v (rounding_by_1 (fold int_max position others) (Unsigned mode)))

-- rounding by the mode never exceeds the limits
abbrev pub NeverExceedsLimit : UnsignedRoundingMode → Type 0
NeverExceedsLimit mode =
    (v : Decimal) (position : ℤ) → IsValue v.absolute → IsSome (rounded v (rounding_by_1 position (Unsigned mode)))
