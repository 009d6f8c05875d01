-- Private: used only in the contracts of private functions and in the model of `UnsignedOver`.
-- The fields of a value: digits, the magnitude of the first one, and the range.
use Rattle.std.specs.Prelude.{◌≡◌, ℕ, ◌+◌, ◌-◌, ◌%◌, ◌<◌, ◌≤◌, List, length, slice_index, ℤ, pos, negsuc, ◌≤ℤ◌}
use Rattle.std.specs.Int.Digits.{AllBelowBase}
use Rattle.decimal_digits.specs.Number.{offset}

-- the digits have no zero at either end and are within the range; the number 0 has no digits, and magnitude 0
pub record IsStored (ds : List ℕ) (magnitude hi lo : ℤ) : Type 0 where
  pub digits : AllBelowBase 10 ds
  pub front : 0 < length ds → 0 < slice_index ds 0
  pub back : 0 < length ds → 0 < slice_index ds (length ds - 1)
  pub empty : length ds ≡ 0 → magnitude ≡ pos 0
  pub hi_covers : magnitude ≤ℤ hi
  pub lo_covers : lo ≤ℤ magnitude
  pub fits : offset lo + length ds ≤ offset magnitude + 1
  pub hi_in : pos 0 ≤ℤ hi
  pub lo_in : lo ≤ℤ pos 0
  pub in_range : (negsuc 32767 ≤ℤ lo) × (hi ≤ℤ pos 32767)

-- an iterator has this many digits ready, and then the rest from this index on, the first one of a word
pub record IsReading (ready index rest : ℕ) : Type 0 where
  pub aligned : index % 16 ≡ 0
  pub ends : index + rest ≤ 65536
  pub count : ready + rest ≤ 65536
