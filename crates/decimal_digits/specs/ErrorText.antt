-- The messages of the errors.
use Rattle.std.specs.Prelude.{ℕ, List, codes}
use Rattle.decimal_digits.specs.declared.rounding.RoundError.{RoundError}
use Rattle.decimal_digits.specs.declared.rounding.RoundError.TheVariants.{Limit, Memory}

-- the message for a value beyond the limits
abbrev pub limit_text : List ℕ
limit_text = codes "Magnitude or number of digits exceeded"

-- the message for out of memory
abbrev pub memory_text : List ℕ
memory_text = codes "Out of memory"

-- the message for a byte that a sink rejects
abbrev pub sink_text : List ℕ
sink_text = codes "The sink refused a byte"

-- the message of the error of a rounding
abbrev pub round_error_text : RoundError → List ℕ
round_error_text Limit = limit_text
round_error_text Memory = memory_text
