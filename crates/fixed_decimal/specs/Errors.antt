-- The errors that a run may return. A store holds `held` digits without an allocation.
use Rattle.std.specs.Prelude.{◌≡◌, ℕ, ◌<◌, List, take, slice_get, Some, Ok, Err, IsOk, IsOkAnd}
use Rattle.decimal_digits.specs.Number.{size}
use Rattle.decimal_unsigned.specs.{Concatenation.ConcatenationNeedsMemory, Rounded.rounding, Reading.{syntax, limit, read}}
use Rattle.decimal_unsigned.specs.declared.error.ParseError.TheVariants as parse
use Rattle.fixed_decimal.specs.{Decimal.Decimal, SignedRounding.RoundingNeedsMemory, DecimalText.{read_decimal, IsLong}, declared.runs.{Call.{Call, TheVariants.{Round, Concatenate}}, CallError.CallError, RunError.{RunError, TheVariants.{Start, Operand, Overlap, Limit, Memory, Sink}}}, Outcome.{start, operand, overlap, limit_exceeded, after_calls, outcome}}
use Rattle.fixed_decimal.specs.declared.runs.CallError.TheVariants as call

-- the calls before the number `at`, in order, make v of the first value, and `call` has that number
pub record IsReached (first : Decimal) (calls : List Call) (at : ℕ) (v : Decimal) (call : Call) : Type 0 where
  pub before : after_calls 0 first (take at calls) ≡ Ok v
  pub next_call : slice_get calls at ≡ Some call

-- calls made in order on the first value reach the one with the number `at`; P holds of the value there and that call
abbrev pub Reaches : Decimal → List Call → ℕ → (Decimal → Call → Type 0) → Type 0
Reaches first calls at P = (v : Decimal) × (call : Call) × IsReached first calls at v call × P v call

-- the operand of a call has more than `held` digits
abbrev pub HasLongOperand : ℕ → Call → Type 0
HasLongOperand held (Concatenate text) = IsOkAnd (read text.now) (λ v. held < size v.number)
HasLongOperand held _ = ⊥

-- the result of a call on v may need an allocation
abbrev pub CallNeedsMemory : ℕ → Decimal → Call → Type 0
CallNeedsMemory held v (Round position mode increment) = RoundingNeedsMemory held v (rounding position mode increment)
CallNeedsMemory held v (Concatenate text) = IsOkAnd (read text.now) (ConcatenationNeedsMemory held v.absolute)
CallNeedsMemory held v _ = ⊥

-- the start is read, and the run reaches the call with the number `at`; P holds of the value there and that call
abbrev pub RunReaches : List ℕ → List Call → ℕ → (Decimal → Call → Type 0) → Type 0
RunReaches bytes calls at P = IsOkAnd (read_decimal bytes) (λ first. Reaches first calls at P)

-- the error of a run that ends with the error of a call
abbrev pub run_error : CallError → RunError
run_error (call.Operand at fault) = Operand at fault
run_error (call.Overlap at) = Overlap at
run_error (call.Limit at) = Limit at
run_error (call.Memory at) = Memory at

-- a run may fail with an error: that of its outcome; or out of memory, at the start or at a call that the run reaches,
-- if that may need an allocation; or `Sink`, if the outcome is a text
abbrev pub RunFails : ℕ → RunError → List ℕ → List Call → Type 0
RunFails held (Start parse.Limit) bytes calls = outcome bytes calls ≡ Err (start limit)
RunFails held (Start parse.Syntax) bytes calls = outcome bytes calls ≡ Err (start syntax)
RunFails held (Start parse.Memory) bytes calls = IsOkAnd (read_decimal bytes) (IsLong held)
RunFails held (Operand at parse.Limit) bytes calls = outcome bytes calls ≡ Err (operand at limit)
RunFails held (Operand at parse.Syntax) bytes calls = outcome bytes calls ≡ Err (operand at syntax)
RunFails held (Operand at parse.Memory) bytes calls = RunReaches bytes calls at (λ _ call. HasLongOperand held call)
RunFails held (Overlap at) bytes calls = outcome bytes calls ≡ Err (overlap at)
RunFails held (Limit at) bytes calls = outcome bytes calls ≡ Err (limit_exceeded at)
RunFails held (Memory at) bytes calls = RunReaches bytes calls at (CallNeedsMemory held)
RunFails held Sink bytes calls = IsOk (outcome bytes calls)
