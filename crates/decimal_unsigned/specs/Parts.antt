-- Private: used only in the contracts of private functions and in the model of `Scan`.
-- The parts of a text as the code finds them.
use Rattle.std.specs.Prelude.{Option, option_map, ℤ, pos, negsuc, ◌≤ℤ◌}
use Rattle.std.specs.Int.{int_max, int_min}
use Rattle.decimal_unsigned.specs.declared.decimal.parse.parts.Parts.{Parts}
use Rattle.decimal_unsigned.specs.Grammar.{Literal}

-- the parts, with their digits as lists of bytes
abbrev pub view : Parts → Literal
view p = record { whole = p.whole.now; fraction = p.fraction.now; exponent = p.exponent }

-- the same for parts that may be missing
abbrev pub views : Option Parts → Option Literal
views = option_map view

-- the exponent, clamped to -70000 to 70000: with one beyond these, every number other than 0 is beyond the limits
abbrev pub saturated : ℤ → ℤ
saturated e = int_max (negsuc 69999) (int_min (pos 70000) e)

-- an exponent from -70000 to 70000
pub record IsSaturated (e : ℤ) : Type 0 where
  pub low : negsuc 69999 ≤ℤ e
  pub high : e ≤ℤ pos 70000

-- the parts with their exponent clamped
abbrev pub saturated_parts : Literal → Literal
saturated_parts w = record w { exponent = option_map saturated w.exponent }
