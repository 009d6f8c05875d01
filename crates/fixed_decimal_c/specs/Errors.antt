-- The errors of the exports.
use Rattle.std.specs.Prelude.{ℕ, Bool, true, false}
use Rattle.decimal_unsigned.specs.declared.error.ParseError.{ParseError}
use Rattle.decimal_unsigned.specs.declared.error.ParseError.TheVariants as parse
use Rattle.fixed_decimal.specs.declared.runs.RunError.{RunError}
use Rattle.fixed_decimal.specs.declared.runs.RunError.TheVariants as run
use Rattle.fixed_decimal_c.specs.declared.error.FdError.{FdError, TheVariants.{Syntax, Limit, Memory, OperandSyntax, OperandLimit, Overlap, Overflow, BufferTooSmall, UnknownCall, UnknownLocale, UnknownOption, NotWhole, OutOfRange, RulesSyntax, RulesLimit, SkeletonSyntax, SkeletonUnsupported, UnknownNumberingSystem, UnreadableFormat, DigitOptions, NoSkeleton, Formatter, PartsTooSmall, UnknownUnit}}

-- the status of an error
abbrev pub status_of : FdError → ℕ
status_of (Syntax at) = 1
status_of (Limit at) = 2
status_of Memory = 3
status_of (OperandSyntax at) = 4
status_of (OperandLimit at) = 5
status_of (Overlap at) = 6
status_of (Overflow at) = 7
status_of (BufferTooSmall needed) = 8
status_of (UnknownCall at) = 9
status_of UnknownLocale = 10
status_of UnknownOption = 11
status_of NotWhole = 12
status_of OutOfRange = 13
status_of (RulesSyntax at) = 14
status_of (RulesLimit at) = 15
status_of (SkeletonSyntax at) = 16
status_of (SkeletonUnsupported at) = 17
status_of UnknownNumberingSystem = 18
status_of UnreadableFormat = 19
status_of (DigitOptions at) = 20
status_of NoSkeleton = 21
status_of Formatter = 22
status_of PartsTooSmall = 23
status_of UnknownUnit = 24

-- where an error is: the number of a text, a call or a reason, or a byte of rules or of a skeleton
abbrev pub place_of : FdError → ℕ
place_of (Syntax at) = at
place_of (Limit at) = at
place_of (OperandSyntax at) = at
place_of (OperandLimit at) = at
place_of (Overlap at) = at
place_of (Overflow at) = at
place_of (UnknownCall at) = at
place_of (RulesSyntax at) = at
place_of (RulesLimit at) = at
place_of (SkeletonSyntax at) = at
place_of (SkeletonUnsupported at) = at
place_of (DigitOptions at) = at
place_of _ = 0

-- the number of bytes that the buffer needs
abbrev pub needed_of : FdError → ℕ
needed_of (BufferTooSmall needed) = needed
needed_of _ = 0

-- the error is that of a text and its calls
abbrev pub is_of_line : FdError → Bool
is_of_line (BufferTooSmall needed) = false
is_of_line Memory = false
is_of_line _ = true

-- the error of parsing the text with this number
abbrev pub error_of_parsing : ParseError → ℕ → FdError
error_of_parsing parse.Syntax at = Syntax at
error_of_parsing parse.Limit at = Limit at
error_of_parsing parse.Memory at = Memory

-- the error of parsing the operand of the call with this number
abbrev pub error_of_operand : ParseError → ℕ → FdError
error_of_operand parse.Syntax at = OperandSyntax at
error_of_operand parse.Limit at = OperandLimit at
error_of_operand parse.Memory at = Memory

-- the error of a run; a sink in memory fails only if out of memory
abbrev pub error_of_run : RunError → FdError
error_of_run (run.Start error) = error_of_parsing error 0
error_of_run (run.Operand at error) = error_of_operand error at
error_of_run (run.Overlap at) = Overlap at
error_of_run (run.Limit at) = Overflow at
error_of_run (run.Memory at) = Memory
error_of_run run.Sink = Memory
