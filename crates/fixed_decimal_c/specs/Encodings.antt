-- Answers, as C receives them.
use Rattle.std.specs.Prelude.{◌≡◌, ℕ, ℤ, pos, Result, Ok, Err}
use Rattle.fixed_decimal_c.specs.{declared.{error.FdError.FdError, answer.{FdResult.FdResult, FdNumber.FdNumber, FdUnsigned.FdUnsigned, FdColumn.FdColumn, Progress.Progress}}, Errors.{status_of, place_of, needed_of}}

-- an answer that is a text, with the number of its bytes
abbrev pub fd_result : Result ℕ FdError → FdResult
fd_result (Ok count) = record { status = 0; at = 0; count = count }
fd_result (Err error) = record { status = status_of error; at = place_of error; count = needed_of error }

-- an answer that is a number
abbrev pub fd_number : Result ℤ FdError → FdNumber
fd_number (Ok value) = record { status = 0; at = 0; value = value }
fd_number (Err error) = record { status = status_of error; at = place_of error; value = pos 0 }

-- an answer that is an unsigned number
abbrev pub fd_unsigned : Result ℕ FdError → FdUnsigned
fd_unsigned (Ok value) = record { status = 0; at = 0; value = value }
fd_unsigned (Err error) = record { status = status_of error; at = place_of error; value = 0 }

-- an answer that is a column: how far it has come, and the error that ends it
abbrev pub fd_column : Progress → Result Unit FdError → FdColumn
fd_column done (Ok _) = record {
  status = 0;
  at = 0;
  lines = done.lines;
  read = done.read;
  written = done.written;
  failed = done.failed;
}
fd_column done (Err error) = record {
  status = status_of error;
  at = place_of error;
  lines = done.lines;
  read = done.read;
  written = done.written;
  failed = done.failed;
}

-- C receives an answer of which P holds
abbrev pub Encodes : FdResult → (Result ℕ FdError → Type 0) → Type 0
Encodes r P = (answer : Result ℕ FdError) × (r ≡ fd_result answer) × P answer

abbrev pub EncodesNumber : FdNumber → (Result ℤ FdError → Type 0) → Type 0
EncodesNumber r P = (answer : Result ℤ FdError) × (r ≡ fd_number answer) × P answer

abbrev pub EncodesUnsigned : FdUnsigned → (Result ℕ FdError → Type 0) → Type 0
EncodesUnsigned r P = (answer : Result ℕ FdError) × (r ≡ fd_unsigned answer) × P answer
