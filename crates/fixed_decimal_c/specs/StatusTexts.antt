-- The lines of statuses.
use Rattle.std.specs.{Prelude.{◌≡◌, ℕ, zero, suc, ◌==◌, nat_lt, if◌then◌else◌, codes, List, [], ◌∷◌, ◌++◌, slice_get, Option, Some, None, Result}, Option.option_map, Fmt.decimal}
use Rattle.fixed_decimal_c.specs.{declared.error.FdError.{FdError, TheVariants.{Syntax, Limit, Memory, OperandSyntax, OperandLimit, Overlap, Overflow, BufferTooSmall, UnknownCall, UnknownLocale, UnknownOption, NotWhole, OutOfRange, RulesSyntax, RulesLimit, SkeletonSyntax, SkeletonUnsupported, UnknownNumberingSystem, UnreadableFormat, DigitOptions, NoSkeleton, Formatter, PartsTooSmall, UnknownUnit}}, Texts.{Writes, WritesNothing}}

-- the errors of the statuses, starting at status 1, at a place
abbrev pub errors_at : ℕ → List FdError
errors_at at =
    Syntax at ∷ Limit at ∷ Memory ∷ OperandSyntax at ∷ OperandLimit at ∷ Overlap at ∷ Overflow at
    ∷ BufferTooSmall 0 ∷ UnknownCall at ∷ UnknownLocale ∷ UnknownOption ∷ NotWhole ∷ OutOfRange ∷ RulesSyntax at
    ∷ RulesLimit at ∷ SkeletonSyntax at ∷ SkeletonUnsupported at ∷ UnknownNumberingSystem ∷ UnreadableFormat
    ∷ DigitOptions at ∷ NoSkeleton ∷ Formatter ∷ PartsTooSmall ∷ UnknownUnit ∷ []

-- texts before and after a number
abbrev pub around : List ℕ → ℕ → List ℕ → List ℕ
around before number after = before ++ (decimal number ++ after)

-- or before and after nothing
abbrev pub line_with : List ℕ → Option ℕ → List ℕ → List ℕ
line_with before None after = before ++ after
line_with before (Some number) after = around before number after

-- the line of an error after this number of calls; a text after the first is the end of a range, and an overflow after
-- all calls is that of the format
abbrev pub line_of : ℕ → FdError → List ℕ
line_of calls (Syntax at) = if at == 0 then codes "start: syntax" else codes "end: syntax"
line_of calls (Limit at) = if at == 0 then codes "start: limit" else codes "end: limit"
line_of calls Memory = codes "memory"
line_of calls (OperandSyntax at) = around (codes "call ") at (codes ": syntax")
line_of calls (OperandLimit at) = around (codes "call ") at (codes ": limit")
line_of calls (Overlap at) = around (codes "call ") at (codes ": overlap")
line_of calls (Overflow at) =
    if nat_lt at calls then around (codes "call ") at (codes ": overflow") else codes "format: overflow"
line_of calls (BufferTooSmall needed) = codes "buffer too small"
line_of calls (UnknownCall at) = around (codes "no such call: ") at []
line_of calls UnknownLocale = codes "unknown locale"
line_of calls UnknownOption = codes "unknown option"
line_of calls NotWhole = codes "not a whole number"
line_of calls OutOfRange = codes "out of range"
line_of calls (RulesSyntax at) = around (codes "rules: syntax at ") at []
line_of calls (RulesLimit at) = around (codes "rules: limit at ") at []
line_of calls (SkeletonSyntax at) = around (codes "skeleton: syntax at ") at []
line_of calls (SkeletonUnsupported at) = around (codes "skeleton: unsupported at ") at []
line_of calls UnknownNumberingSystem = codes "unknown numbering system"
line_of calls UnreadableFormat = codes "skeleton: no reader"
line_of calls (DigitOptions at) = codes "no such numbers of digits"
line_of calls NoSkeleton = codes "no such skeleton"
line_of calls Formatter = codes "no formatter"
line_of calls PartsTooSmall = codes "too few parts"
line_of calls UnknownUnit = codes "unknown unit"

-- the line of a status; that of no error is empty
abbrev pub status_line : ℕ → ℕ → ℕ → Option (List ℕ)
status_line zero at calls = Some []
status_line (suc index) at calls = option_map (line_of calls) (slice_get (errors_at at) index)

-- a line is written if it fits; or there is none
abbrev pub WritesLine : Option (List ℕ) → Result ℕ FdError → List ℕ → List ℕ → Type 0
WritesLine (Some line) answer old new = Writes answer line old new
WritesLine None answer old new = WritesNothing (λ error. error ≡ UnknownOption) answer old new
