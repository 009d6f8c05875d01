-- The results of the calls that change a value.
use Rattle.std.specs.Prelude.{ℕ, suc, ◌*◌, ◌/◌, ◌%◌, ◌^◌, Bool, ◌||◌, if◌then◌else◌, Option, Some, None, ℤ, pos, negsuc, ◌+ℤ◌, ◌-ℤ◌, int_lt}
use Rattle.std.specs.Int.{int_max, int_min}
use Rattle.decimal_digits.specs.Number.{weight, first, last}
use Rattle.decimal_unsigned.specs.Unsigned.{Unsigned}

-- the range, moved by d, leaves the magnitudes -32768 to 32767
abbrev pub leaves_limits : Unsigned → ℤ → Bool
leaves_limits v d = int_lt (pos 32767) (v.hi +ℤ d) || int_lt (v.lo +ℤ d) (negsuc 32767)

-- the number times 10 ^ d; for d below 0 the division is exact where the shift stays in the limits: every digit of the
-- number is at `lo` or above, and a power of ten that moves `lo` below -32768 is rejected before
abbrev pub times_power : ℕ → ℤ → ℕ
times_power number (pos d) = number * 10 ^ d
times_power number (negsuc d) = number / 10 ^ suc d

-- the value times 10 ^ d, with its range moved by d, and magnitude 0 still shown
abbrev pub multiplied : Unsigned → ℤ → Unsigned
multiplied v d = record {
  number = times_power v.number d;
  hi = int_max (v.hi +ℤ d) (pos 0);
  lo = int_min (v.lo +ℤ d) (pos 0);
}

-- the shifted value, or none if the range leaves the limits
abbrev pub multiplied_pow10 : Unsigned → ℤ → Option Unsigned
multiplied_pow10 v d = if leaves_limits v d then None else Some (multiplied v d)

-- no leading zeros above magnitude 0: 0012.3400 becomes 12.3400
abbrev pub trimmed_start : Unsigned → Unsigned
trimmed_start v = record v { hi = int_max (first v.number) (pos 0) }

-- no trailing zeros below magnitude 0: 0012.3400 becomes 0012.34
abbrev pub trimmed_end : Unsigned → Unsigned
trimmed_end v = record v { lo = int_min (last v.number) (pos 0) }

-- no fraction digits if all of them are 0: 123400.00 becomes 123400, and 0012.3400 stays
abbrev pub trimmed_end_if_integer : Unsigned → Unsigned
trimmed_end_if_integer v = if int_lt (last v.number) (pos 0) then v else record v { lo = pos 0 }

-- shown from the magnitude just below a position above 0, or from the first nonzero digit if that is higher: 0.42 at 4
-- becomes 0000.42, and 0000.42 at 2 becomes 00.42
abbrev pub padded_start : Unsigned → ℤ → Unsigned
padded_start v p = if int_lt (pos 0) p then record v { hi = int_max (p -ℤ pos 1) (first v.number) } else v

-- shown down to a position of at most 0, or to the last nonzero digit if that is lower: 123.456 at -6 becomes
-- 123.456000, and 123.000 at 0 becomes 123
abbrev pub padded_end : Unsigned → ℤ → Unsigned
padded_end v p = if int_lt (pos 0) p then v else record v { lo = int_min p (last v.number) }

-- the remainder by 10 ^ p, shown from the magnitude just below p, and down to p at least; magnitude 0 is still shown.
-- This can widen the range: 4235.970 at 2 becomes 35.970, but at 5 it becomes 04235.970, and 0 at -2 becomes 0.00
abbrev pub with_max_position : Unsigned → ℤ → Unsigned
with_max_position v p = record { number = v.number % weight p; hi = int_max (p -ℤ pos 1) (pos 0); lo = int_min v.lo p }
