-- The decimals of `scale/` and `precision-increment/`.
use Rattle.std.specs.{Prelude.{ℕ, ◌+◌, ◌-◌, ◌*◌, ◌==◌, nat_lt, min, Bool, false, ◌||◌, ◌&&◌, not, if◌then◌else◌, ℤ, pos, neg_ℤ, ◌+ℤ◌, ◌-ℤ◌, List, length, take, drop, slice_index, fold, Option, Some, None}, Option.option_map}
use Rattle.number_skeleton.specs.{declared.decimal.{Significand.Significand, Decimal.Decimal}, Counts.run}

-- ---- The significant digits, of which two are kept, and the zeros after them.
abbrev pub no_digits : Significand
no_digits = record { digits = 0; zeros = 0 }

-- one more digit, or the decimal point, which changes nothing
abbrev pub with_byte : Significand → ℕ → Significand
with_byte s c =
    if c == 46 then s
    else if c == 48 then record { digits = s.digits; zeros = s.zeros + 1 }
    else if s.digits == 0 then record { digits = c - 48; zeros = 0 }
    else if nat_lt s.digits 10 && (s.zeros == 0) then record { digits = s.digits * 10 + (c - 48); zeros = 0 }
    else record { digits = 100; zeros = 0 }

abbrev pub significand : List ℕ → Significand
significand mantissa = fold with_byte no_digits mantissa

-- ---- The parts of a decimal.
abbrev pub sign_length : List ℕ → ℕ
sign_length text = if slice_index text 0 == 43 || slice_index text 0 == 45 then 1 else 0

-- an integer of digits, or 10^9 if it is not less
abbrev pub exponent_size : List ℕ → ℕ
exponent_size digits = fold (λ n c. min (n * 10 + (c - 48)) 1000000000) 0 digits

-- 0, or `e` and an integer below 10^9
abbrev pub exponent : List ℕ → Option ℤ
exponent text =
    let signed = drop 1 text in
    let digits = drop (sign_length signed) signed in
    if length text == 0 then Some (pos 0)
    else if not (slice_index text 0 == 101) && not (slice_index text 0 == 69) then None
    else if length digits == 0 || nat_lt (run 48 57 digits) (length digits) then None
    else if exponent_size digits == 1000000000 then None
    else if slice_index signed 0 == 45 then Some (neg_ℤ (pos (exponent_size digits)))
    else Some (pos (exponent_size digits))

-- the number of fraction digits after the integer digits
abbrev pub fraction_length : List ℕ → ℕ
fraction_length rest = if slice_index rest 0 == 46 then run 48 57 (drop 1 rest) else 0

-- what follows the fraction digits
abbrev pub after_fraction : List ℕ → List ℕ
after_fraction rest = if slice_index rest 0 == 46 then drop (fraction_length rest + 1) rest else rest

-- the number of bytes after the decimal point, if there is one
abbrev pub after_point : List ℕ → Option ℕ
after_point rest = if slice_index rest 0 == 46 then Some (length (drop 1 rest)) else None

abbrev pub scaled : Significand → ℤ → Bool → List ℕ → Decimal
scaled s exponent is_negative rest = record {
  is_negative = is_negative;
  digits = s.digits;
  power = (pos s.zeros +ℤ exponent) -ℤ pos (fraction_length rest);
  after_point = after_point rest;
}

-- a sign, digits with at most one decimal point, of which there is one at least, and an exponent
abbrev pub decimal : List ℕ → Option Decimal
decimal text =
    let unsigned = drop (sign_length text) text in
    let integer = run 48 57 unsigned in
    let rest = drop integer unsigned in
    let tail = after_fraction rest in
    let mantissa = take (length unsigned - length tail) unsigned in
    if (integer == 0) && (fraction_length rest == 0) then None
    else option_map (λ e. scaled (significand mantissa) e (slice_index text 0 == 45) rest) (exponent tail)

abbrev pub hundred : Decimal
hundred = record { is_negative = false; digits = 1; power = pos 2; after_point = None }
