-- The errors of conversions.
use Rattle.std.specs.Prelude.{ℕ}
use Rattle.decimal_unsigned.specs.declared.error.ParseError.TheVariants as parse
use Rattle.decimal_unsigned.specs.Reading.{ReadError, syntax, limit}
use Rattle.fixed_decimal.specs.declared.runs.RunError.{RunError}
use Rattle.fixed_decimal.specs.declared.runs.RunError.TheVariants as run
use Rattle.conversions.specs.declared.error.{Reason.{Reason, TheVariants.{Syntax, Limit}}, OperationError.{OperationError, TheVariants.{Field, Quote, Start, Operand, Overlap, Overflow, FormatOverflow, Memory, Output}}, RangeError.RangeError}
use Rattle.conversions.specs.declared.error.RangeError.TheVariants as range

-- an error of a run as an error of a conversion
abbrev pub error_of_run : RunError → OperationError
error_of_run (run.Start parse.Syntax) = Start Syntax
error_of_run (run.Start parse.Limit) = Start Limit
error_of_run (run.Start parse.Memory) = Memory
error_of_run (run.Operand at parse.Syntax) = Operand at Syntax
error_of_run (run.Operand at parse.Limit) = Operand at Limit
error_of_run (run.Operand at parse.Memory) = Memory
error_of_run (run.Overlap at) = Overlap at
error_of_run (run.Limit at) = Overflow at
error_of_run (run.Memory at) = Memory
error_of_run run.Sink = Output

-- the status of an error of operations: 1 of a rejected line or text and of a failed call, 3 of out of memory and of
-- failed output
abbrev pub status_of_operation : OperationError → ℕ
status_of_operation Field = 1
status_of_operation Quote = 1
status_of_operation (Start reason) = 1
status_of_operation (Operand at reason) = 1
status_of_operation (Overlap at) = 1
status_of_operation (Overflow at) = 1
status_of_operation FormatOverflow = 1
status_of_operation Memory = 3
status_of_operation Output = 3

-- the status of an error of a range
abbrev pub status_of_range : RangeError → ℕ
status_of_range (range.Operation error) = status_of_operation error
status_of_range (range.End error) = status_of_operation error

-- a reason as an error of the libraries
abbrev pub read_error_of : Reason → ReadError
read_error_of Syntax = syntax
read_error_of Limit = limit
