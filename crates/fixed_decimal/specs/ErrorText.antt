-- The texts of errors.
use Rattle.std.specs.{Prelude.{ℕ, List, ◌++◌, codes}, Fmt.decimal}
use Rattle.decimal_digits.specs.ErrorText.{limit_text, memory_text, sink_text}
use Rattle.decimal_unsigned.specs.ErrorText.{error_text, overlap_text}
use Rattle.fixed_decimal.specs.declared.runs.RunError.{RunError, TheVariants.{Start, Operand, Overlap, Limit, Memory, Sink}}

-- the text of an error of the call with this number, 0-based: `Call 0: The numbers overlap`
abbrev pub call_text : ℕ → List ℕ → List ℕ
call_text at what = codes "Call " ++ (decimal at ++ (codes ": " ++ what))

-- the text of the error of a run
abbrev pub run_error_text : RunError → List ℕ
run_error_text (Start fault) = codes "Start: " ++ error_text fault
run_error_text (Operand at fault) = call_text at (error_text fault)
run_error_text (Overlap at) = call_text at overlap_text
run_error_text (Limit at) = call_text at limit_text
run_error_text (Memory at) = call_text at memory_text
run_error_text Sink = sink_text
