-- The errors that calls may return. A store holds `held` digits without an allocation.
use Rattle.std.specs.Prelude.{◌≡◌, ℕ, List, Err}
use Rattle.decimal_unsigned.specs.Reading.{syntax, limit}
use Rattle.decimal_unsigned.specs.declared.error.ParseError.TheVariants as parse
use Rattle.fixed_decimal.specs.{Decimal.Decimal, declared.runs.{Call.Call, CallError.{CallError, TheVariants.{Operand, Overlap, Limit, Memory}}}, Outcome.{operand, overlap, limit_exceeded, step, after_calls}, Errors.{Reaches, HasLongOperand, CallNeedsMemory}}

-- the number of the call that failed
abbrev pub call_number : CallError → ℕ
call_number (Operand at fault) = at
call_number (Overlap at) = at
call_number (Limit at) = at
call_number (Memory at) = at

-- a call on v may fail with this error, if it has the number in it
abbrev pub FailsAs : ℕ → CallError → Decimal → Call → Type 0
FailsAs held (Operand at parse.Limit) v call = step at v call ≡ Err (operand at limit)
FailsAs held (Operand at parse.Syntax) v call = step at v call ≡ Err (operand at syntax)
FailsAs held (Operand at parse.Memory) v call = HasLongOperand held call
FailsAs held (Overlap at) v call = step at v call ≡ Err (overlap at)
FailsAs held (Limit at) v call = step at v call ≡ Err (limit_exceeded at)
FailsAs held (Memory at) v call = CallNeedsMemory held v call

-- a call on v, with the number `at`, may fail with this error
abbrev pub CallFails : ℕ → CallError → ℕ → Decimal → Call → Type 0
CallFails held e at v call = (call_number e ≡ at) × FailsAs held e v call

-- calls made in order on the first value, numbered from 0, may fail with this error
abbrev pub CallsFail : ℕ → CallError → Decimal → List Call → Type 0
CallsFail held (Operand at parse.Limit) first calls = after_calls 0 first calls ≡ Err (operand at limit)
CallsFail held (Operand at parse.Syntax) first calls = after_calls 0 first calls ≡ Err (operand at syntax)
CallsFail held (Operand at parse.Memory) first calls = Reaches first calls at (λ v call. HasLongOperand held call)
CallsFail held (Overlap at) first calls = after_calls 0 first calls ≡ Err (overlap at)
CallsFail held (Limit at) first calls = after_calls 0 first calls ≡ Err (limit_exceeded at)
CallsFail held (Memory at) first calls = Reaches first calls at (CallNeedsMemory held)
