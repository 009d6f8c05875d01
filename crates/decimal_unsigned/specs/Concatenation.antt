-- Concatenation of two numbers.
use Rattle.std.specs.Prelude.{◌≡◌, ℕ, ◌+◌, ◌<◌, nat_lt, Bool, false, ◌&&◌, int_le}
use Rattle.std.specs.Int.{int_max, int_min, int_gap}
use Rattle.decimal_digits.specs.Number.{first, last}
use Rattle.decimal_unsigned.specs.Unsigned.{Unsigned}
use Rattle.decimal_unsigned.specs.declared.error.ConcatenateError.{ConcatenateError}
use Rattle.decimal_unsigned.specs.declared.error.ConcatenateError.TheVariants.{Overlap, Memory}

-- neither number is 0, and the first nonzero digit of w is at or above the last one of v: 120 and 25 overlap
unfoldable pub overlaps : Unsigned → Unsigned → Bool
overlaps v w = nat_lt 0 v.number && nat_lt 0 w.number && int_le (last v.number) (first w.number)

-- the sum of the numbers, shown as far as either of them is
abbrev pub concatenated_end : Unsigned → Unsigned → Unsigned
concatenated_end v w = record { number = v.number + w.number; hi = int_max v.hi w.hi; lo = int_min v.lo w.lo }

-- the number of digits from the first nonzero one of v to the last one of w, zeros between them included
abbrev pub concatenated_size : Unsigned → Unsigned → ℕ
concatenated_size v w = int_gap (last w.number) (first v.number) + 1

-- neither number is 0, the two do not overlap, and their joined digits are more than the `held` digits that fit without
-- an allocation
pub record ConcatenationNeedsMemory (held : ℕ) (v w : Unsigned) : Type 0 where
  pub first_is_nonzero : 0 < v.number
  pub second_is_nonzero : 0 < w.number
  pub disjoint : overlaps v w ≡ false
  pub more : held < concatenated_size v w

-- the arguments that an error returns
abbrev pub returned : {T : Type 0} → ConcatenateError T → T
returned (Overlap x) = x
returned (Memory x) = x
