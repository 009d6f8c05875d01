-- A number with the range of magnitudes that it shows.
use Rattle.std.specs.Prelude.{◌≡◌, ℕ, ◌+◌, ◌*◌, ◌%◌, ◌^◌, ◌<◌, nat_eq, Bool, ℤ, pos, negsuc, ◌≤ℤ◌}
use Rattle.std.specs.Ordering.{on, eq_of_both, int_eq}
use Rattle.std.specs.Cmp.{IsPartialEquivalence, and_per, on_per, partial_equiv_from_equiv, nat_eq_equiv, int_eq_equiv}
use Rattle.decimal_digits.specs.Number.{offset, weight, first}

-- a number in units of 10 ^ -32768, and the highest and the lowest magnitude that it shows
pub record Unsigned : Type 0 where
  pub number : ℕ
  pub hi : ℤ
  pub lo : ℤ

-- the range contains magnitude 0 and all nonzero digits, and is within the limits
pub record IsValue (v : Unsigned) : Type 0 where
  pub hi_in : (pos 0 ≤ℤ v.hi) × (v.hi ≤ℤ pos 32767)
  pub lo_in : (negsuc 32767 ≤ℤ v.lo) × (v.lo ≤ℤ pos 0)
  pub below : v.number < 10 ^ (offset v.hi + 1)
  pub whole : v.number % weight v.lo ≡ 0

-- the number 0, with one digit shown
abbrev pub zero_value : Unsigned
zero_value = record { number = 0; hi = pos 0; lo = pos 0 }

-- the number 1, with one digit shown
abbrev pub one_value : Unsigned
one_value = record { number = weight (pos 0); hi = pos 0; lo = pos 0 }

-- an integer, shown from its first digit to magnitude 0
abbrev pub integer_value : ℕ → Unsigned
integer_value n = record { number = n * weight (pos 0); hi = first (n * weight (pos 0)); lo = pos 0 }

-- no value of this number has a lower `hi`
abbrev pub IsLeastHi : Unsigned → Type 0
IsLeastHi v = (w : Unsigned) → IsValue w → w.number ≡ v.number → v.hi ≤ℤ w.hi

-- no value of this number has a higher `lo`
abbrev pub IsGreatestLo : Unsigned → Type 0
IsGreatestLo v = (w : Unsigned) → IsValue w → w.number ≡ v.number → w.lo ≤ℤ v.lo

-- equality of values: the same number and the same range
abbrev pub same : Unsigned → Unsigned → Bool
same = eq_of_both (on (λ v. v.number) nat_eq) (eq_of_both (on (λ v. v.hi) int_eq) (on (λ v. v.lo) int_eq))

-- equality is symmetric and transitive
pub same_laws : IsPartialEquivalence same
same_laws =
    and_per (on_per (λ (v : Unsigned). v.number) (partial_equiv_from_equiv nat_eq_equiv))
    (and_per (on_per (λ (v : Unsigned). v.hi) (partial_equiv_from_equiv int_eq_equiv))
    (on_per (λ (v : Unsigned). v.lo) (partial_equiv_from_equiv int_eq_equiv)))
