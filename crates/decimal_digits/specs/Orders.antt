-- The order of the unsigned rounding modes.
use Rattle.std.specs.Prelude.{ℕ}
use Rattle.decimal_digits.specs.declared.rounding.UnsignedRoundingMode.{UnsignedRoundingMode}
use Rattle.decimal_digits.specs.declared.rounding.UnsignedRoundingMode.TheVariants.{Expand, Trunc, HalfExpand, HalfTrunc, HalfEven}

-- the 0-based index of a mode in the order of declaration
abbrev pub unsigned_rank : UnsignedRoundingMode → ℕ
unsigned_rank Expand = 0
unsigned_rank Trunc = 1
unsigned_rank HalfExpand = 2
unsigned_rank HalfTrunc = 3
unsigned_rank HalfEven = 4
