-- Laws of the calls that change a value.
use Rattle.std.specs.Prelude.{◌≡◌, ◌≤◌, ◌↔◌, ℕ, false, length, Option, option_map, option_and_then, ℤ, pos, negsuc, ◌+ℤ◌, ◌≤ℤ◌}
use Rattle.std.specs.Option.{unwrap_or}
use Rattle.std.specs.Int.{int_max}
use Rattle.decimal_digits.specs.declared.rounding.UnsignedRoundingMode.{UnsignedRoundingMode}
use Rattle.decimal_digits.specs.declared.rounding.UnsignedRoundingMode.TheVariants.{Expand, Trunc}
use Rattle.decimal_unsigned.specs.Unsigned.{Unsigned, IsValue}
use Rattle.decimal_unsigned.specs.Edits.{trimmed_start, trimmed_end}
use Rattle.decimal_unsigned.specs.Rounded.{Rounding, rounding_by_1, rounded}
use Rattle.decimal_unsigned.specs.Concatenation.{overlaps, concatenated_end}
use Rattle.decimal_unsigned.specs.Text.{text}

-- ---- Trims.

-- the value after both trims
abbrev pub trimmed : Unsigned → Unsigned
trimmed v = trimmed_end (trimmed_start v)

-- two values have the same number if and only if they are equal after both trims
abbrev pub TrimmedIsNormalForm : Unsigned → Unsigned → Type 0
TrimmedIsNormalForm v w = (v.number ≡ w.number) ↔ (trimmed v ≡ trimmed w)

-- no value of this number has a shorter text
abbrev pub IsShortest : Unsigned → Type 0
IsShortest v = (w : Unsigned) → IsValue w → w.number ≡ v.number → length (text v) ≤ length (text w)

-- ---- The parts of a value at a position.

-- the value after a rounding: the rounded value, or the old one if the rounding fails
abbrev pub after_rounding : Unsigned → Rounding UnsignedRoundingMode → Unsigned
after_rounding v r = unwrap_or (rounded v r) v

-- the value rounded toward zero at a position
abbrev pub trunced : Unsigned → ℤ → Unsigned
trunced v p = after_rounding v (rounding_by_1 p Trunc)

-- the parts above and below a position do not overlap, and joined they have the number; if the position is in the range
-- or at one of its ends, they are the value itself
pub record SplitsAt (v : Unsigned) (p : ℤ) (upper lower : Unsigned) : Type 0 where
  pub disjoint : overlaps upper lower ≡ false
  pub number : (concatenated_end upper lower).number ≡ v.number
  pub value : v.lo ≤ℤ p → p ≤ℤ (v.hi +ℤ pos 1) → concatenated_end upper lower ≡ v

-- ---- Roundings.

-- the value rounded away from zero at a position, or none if that reaches the limit
abbrev pub expanded : Unsigned → ℤ → Option Unsigned
expanded v p = rounded v (rounding_by_1 p Expand)

-- the number of the value, if there is one
abbrev pub number_if_any : Option Unsigned → Option ℕ
number_if_any = option_map (λ v. v.number)

-- a value truncated at p, which is `new`, and then at a position of at least p is the value truncated there; and
-- truncated at any position it has the number of the value truncated at the higher of the two
pub record TruncationsCompose (v : Unsigned) (p : ℤ) (new : Unsigned) : Type 0 where
  pub above : (q : ℤ) → p ≤ℤ q → trunced new q ≡ trunced v q
  pub number : (q : ℤ) → negsuc 32767 ≤ℤ q → (trunced new q).number ≡ (trunced v (int_max p q)).number

-- expanding a value at p and then at any position fails exactly if expanding it at the higher of the two fails, and
-- else gives the same number
abbrev pub ExpansionsCompose : Unsigned → ℤ → Type 0
ExpansionsCompose v p =
    (q : ℤ) → negsuc 32767 ≤ℤ q
    → number_if_any (option_and_then (λ w. expanded w q) (expanded v p)) ≡ number_if_any (expanded v (int_max p q))

-- of two numbers, the greater one is rounded to no less than the other; after an error the number is unchanged
abbrev pub RoundingIsMonotone : Unsigned → Unsigned → Rounding UnsignedRoundingMode → Type 0
RoundingIsMonotone v w r = v.number ≤ w.number → (after_rounding v r).number ≤ (after_rounding w r).number
