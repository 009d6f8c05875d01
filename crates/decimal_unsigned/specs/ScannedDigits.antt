-- Private: used only in the contracts of private functions and in the model of `Scan`.
-- Which digits of the parts are stored, and their magnitudes.
use Rattle.std.specs.Prelude.{◌≡◌, ℕ, ◌-◌, ◌≤◌, ◌<◌, List, ◌++◌, length, take, drop, map, slice_index, Result, Ok}
use Rattle.std.specs.Char.{digit_value}
use Rattle.std.specs.Str.Parse.{AllDigits}
use Rattle.decimal_digits.specs.Digits.{number_of}
use Rattle.decimal_digits.specs.Nibbles.{digits_in, IsPacked}
use Rattle.decimal_unsigned.specs.declared.decimal.parse.plan.Bounds.{Bounds}
use Rattle.decimal_unsigned.specs.declared.decimal.parse.plan.Plan.{Plan}
use Rattle.decimal_unsigned.specs.Stored.{IsStored}
use Rattle.decimal_unsigned.specs.Unsigned.{Unsigned}
use Rattle.decimal_unsigned.specs.Grammar.{Literal}
use Rattle.decimal_unsigned.specs.Reading.{ReadError, value_of}

-- all the digits, the integer digits first
abbrev pub digits_of : Literal → List ℕ
digits_of w = map digit_value (w.whole ++ w.fraction)

-- the digits from index `start` to before `end`
abbrev pub middle : ℕ → ℕ → List ℕ → List ℕ
middle start end ds = take (end - start) (drop start ds)

-- the digits from index `start` to before `end` are those from the first to the last nonzero one
pub record IsNonzeroRange (ds : List ℕ) (start end : ℕ) : Type 0 where
  pub ordered : start < end
  pub within : end ≤ length ds
  pub before : (k : ℕ) → k < start → slice_index ds k ≡ 0
  pub after : (k : ℕ) → end ≤ k → slice_index ds k ≡ 0
  pub front : 0 < slice_index ds start
  pub back : 0 < slice_index ds (end - 1)

-- the value of digits, with the magnitude of the first one and the range
abbrev pub value_within : List ℕ → Bounds → Unsigned
value_within ds b = record { number = number_of ds b.magnitude; hi = b.hi; lo = b.lo }

-- the digits from the start to the end of a plan
abbrev pub planned_digits : Literal → Plan → List ℕ
planned_digits w p = middle p.start p.end (digits_of w)

-- their value
abbrev pub plan_value : Literal → Plan → Unsigned
plan_value w p = value_within (planned_digits w p) p.bounds

-- the value of the parts is that of the plan
pub record IsPlan (w : Literal) (p : Plan) : Type 0 where
  pub ordered : p.start ≤ p.end
  pub within : p.end ≤ length (digits_of w)
  pub stored : IsStored (planned_digits w p) p.bounds.magnitude p.bounds.hi p.bounds.lo
  pub value : value_of w ≡ Ok (plan_value w p)

-- the parts are digits, and their value is that of the plan
pub record IsScanned (w : Literal) (p : Plan) : Type 0 where
  pub digits : AllDigits 10 (w.whole ++ w.fraction)
  pub plan : IsPlan w p

-- ---- Packed digits.

-- reading gives the value of the first `len` nibbles of the bytes
pub record IsBcdValue (reading : Result Unsigned ReadError) (bytes : List ℕ) (len : ℕ) (b : Bounds) : Type 0 where
  pub packed : IsPacked bytes len
  pub stored : IsStored (digits_in bytes len) b.magnitude b.hi b.lo
  pub value : reading ≡ Ok (value_within (digits_in bytes len) b)
