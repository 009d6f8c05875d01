-- The order of the rounding modes.
use Rattle.std.specs.Prelude.{ℕ}
use Rattle.decimal_digits.specs.Orders.{unsigned_rank}
use Rattle.fixed_decimal.specs.declared.rounding.SignedRoundingMode.{SignedRoundingMode, TheVariants.{Unsigned, Ceil, Floor, HalfCeil, HalfFloor}}

-- the number of modes that are less than this one: those of absolute values are the least
abbrev pub signed_rank : SignedRoundingMode → ℕ
signed_rank (Unsigned mode) = unsigned_rank mode
signed_rank Ceil = 5
signed_rank Floor = 6
signed_rank HalfCeil = 7
signed_rank HalfFloor = 8
