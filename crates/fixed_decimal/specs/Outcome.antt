-- The outcome of a run: a text or an error, by whole numbers alone, without allocations and sinks.
use Rattle.std.specs.Prelude.{ℕ, ◌+◌, if◌then◌else◌, List, [], ◌∷◌, Option, Some, None, Result, Ok, Err}
use Rattle.decimal_unsigned.specs.{Unsigned.Unsigned, Edits.{multiplied_pow10, trimmed_start, trimmed_end, trimmed_end_if_integer, padded_start, padded_end, with_max_position}, Rounded.rounding, Concatenation.{overlaps, concatenated_end}, Reading.{ReadError, read}}
use Rattle.fixed_decimal.specs.{Decimal.{Decimal, with_sign_display, with_absolute}, SignedRounding.rounded, DecimalText.{decimal_text, read_decimal, and_then}, declared.runs.Call.{Call, TheVariants.{MultiplyPow10, TrimStart, TrimEnd, TrimEndIfInteger, PadStart, PadEnd, SetMaxPosition, Round, SetSign, ApplySignDisplay, Concatenate}}}

-- why a run has no text: the start is rejected; or, of the call with this number, the operand is rejected, the numbers
-- to concatenate overlap, or the result is beyond the limits
pub data OutcomeError : Type 0 where
  start : ReadError → OutcomeError
  operand : ℕ → ReadError → OutcomeError
  overlap : ℕ → OutcomeError
  limit_exceeded : ℕ → OutcomeError

-- ---- One call.

-- the decimal with this absolute value and its own sign
abbrev pub changed : Decimal → Unsigned → Result Decimal OutcomeError
changed v absolute = Ok (record v { absolute = absolute })

-- the result of the call with this number; no decimal means that the limits are exceeded
abbrev pub or_limit_exceeded : ℕ → Option Decimal → Result Decimal OutcomeError
or_limit_exceeded at None = Err (limit_exceeded at)
or_limit_exceeded at (Some v) = Ok v

-- the decimal with an operand concatenated to its end, or an error of the call with this number
abbrev pub concatenated_with : ℕ → Decimal → Result Unsigned ReadError → Result Decimal OutcomeError
concatenated_with at v (Ok w) =
    if overlaps v.absolute w then Err (overlap at) else changed v (concatenated_end v.absolute w)
concatenated_with at v (Err fault) = Err (operand at fault)

-- the result of the call with this number on a decimal
abbrev pub step : ℕ → Decimal → Call → Result Decimal OutcomeError
step at v (MultiplyPow10 delta) = or_limit_exceeded at (with_absolute v (multiplied_pow10 v.absolute delta))
step at v TrimStart = changed v (trimmed_start v.absolute)
step at v TrimEnd = changed v (trimmed_end v.absolute)
step at v TrimEndIfInteger = changed v (trimmed_end_if_integer v.absolute)
step at v (PadStart position) = changed v (padded_start v.absolute position)
step at v (PadEnd position) = changed v (padded_end v.absolute position)
step at v (SetMaxPosition position) = changed v (with_max_position v.absolute position)
step at v (Round position mode increment) = or_limit_exceeded at (rounded v (rounding position mode increment))
step at v (SetSign sign) = Ok (record v { sign = sign })
step at v (ApplySignDisplay display) = Ok (with_sign_display v display)
step at v (Concatenate text) = concatenated_with at v (read text.now)

-- ---- The run.

-- the result of calls on a decimal, in order, up to the first error; the first call has this number
abbrev pub after_calls : ℕ → Decimal → List Call → Result Decimal OutcomeError
after_calls at v [] = Ok v
after_calls at v (call ∷ calls) = and_then (step at v call) (λ w. after_calls (at + 1) w calls)

-- the decimal of the start, or its error
abbrev pub started : Result Decimal ReadError → Result Decimal OutcomeError
started (Ok v) = Ok v
started (Err fault) = Err (start fault)

-- the outcome of a start and calls: the text of the last decimal, or the first error
abbrev pub outcome : List ℕ → List Call → Result (List ℕ) OutcomeError
outcome bytes calls =
    and_then (started (read_decimal bytes)) (λ v. and_then (after_calls 0 v calls) (λ w. Ok (decimal_text w)))
