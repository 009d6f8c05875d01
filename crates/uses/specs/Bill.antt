-- The parts of a bill.
use Rattle.std.specs.Prelude.{◌≡◌, ℕ, zero, suc, ◌+◌, ◌*◌, ◌/◌, ◌%◌, ◌^◌, ◌<◌, ◌≤◌, ◌⊎◌, nat_lt, IsTrue, IsFalse, if◌then◌else◌, List, [], ◌∷◌, ◌++◌, sum_by, negsuc, pos}
use Rattle.decimal_digits.specs.Number.{weight, size}
use Rattle.decimal_unsigned.specs.{Unsigned.{Unsigned, integer_value}, Edits.{leaves_limits, multiplied}, declared.decimal.TheConstants.INLINE_DIGITS}
use Rattle.uses.specs.declared.bill.BillError.{BillError, TheVariants.{NoPart, PartOfACent, TooGreat, Memory}}

-- the weight of a cent; negsuc 1 is -2
abbrev pub cent : ℕ
cent = weight (negsuc 1)

-- an amount of cents, with two fraction digits
abbrev pub cents_value : ℕ → Unsigned
cents_value cents = multiplied (integer_value cents) (negsuc 1)

-- the cents of a part, 0-based: the first parts get the cents of the remainder
abbrev pub part_cents : ℕ → ℕ → ℕ → ℕ
part_cents total count part = if nat_lt part (total % count) then total / count + 1 else total / count

-- the first parts, in order
abbrev pub parts_of : ℕ → ℕ → ℕ → List Unsigned
parts_of total count zero = []
parts_of total count (suc part) = parts_of total count part ++ (cents_value (part_cents total count part) ∷ [])

-- `count` parts of whole cents, no two of which differ by more than a cent, and whose sum is the amount
pub record IsSplit (amount : Unsigned) (count : ℕ) (parts : List Unsigned) : Type 0 where
  pub total : ℕ
  pub whole : amount.number ≡ total * cent
  pub each : parts ≡ parts_of total count count
  pub adds_up : sum_by (λ v. v.number) parts ≡ amount.number

-- a whole number of cents below 2^64
abbrev pub IsWholeCents : Unsigned → Type 0
IsWholeCents amount = (total : ℕ) × (total < 2 ^ 64) × (amount.number ≡ total * cent)

-- the error of an amount that is not split, the first that applies: there is no part; the amount shows a digit above
-- magnitude 32765; it has a fraction of a cent; it is 2^64 cents or more. Out of memory: for a copy of an amount with
-- more than `INLINE_DIGITS` digits, or for the parts of whole cents
abbrev pub SplitFails : BillError → Unsigned → ℕ → Type 0
SplitFails NoPart amount count = count ≡ 0
SplitFails PartOfACent amount count =
    (0 < count) × IsFalse (leaves_limits amount (pos 2)) × (¬ (amount.number % cent ≡ 0))
SplitFails TooGreat amount count =
    (0 < count)
    × (IsTrue (leaves_limits amount (pos 2)) ⊎ ((amount.number % cent ≡ 0) × (2 ^ 64 * cent ≤ amount.number)))
SplitFails Memory amount count = (0 < count) × ((INLINE_DIGITS < size amount.number) ⊎ IsWholeCents amount)
