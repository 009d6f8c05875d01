-- The messages of the errors.
use Rattle.std.specs.Prelude.{ℕ, List, codes}
use Rattle.decimal_digits.specs.ErrorText.{limit_text, memory_text}
use Rattle.decimal_unsigned.specs.declared.error.ParseError.{ParseError}
use Rattle.decimal_unsigned.specs.declared.error.ParseError.TheVariants.{Limit, Syntax, Memory}

-- the message of a parse error
abbrev pub error_text : ParseError → List ℕ
error_text Limit = limit_text
error_text Syntax = codes "Failed to parse the input string"
error_text Memory = memory_text

-- the message for two numbers that overlap
abbrev pub overlap_text : List ℕ
overlap_text = codes "The numbers overlap"
