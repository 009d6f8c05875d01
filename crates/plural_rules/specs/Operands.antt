-- The plural operands of a formatted number.
use Rattle.std.specs.{Prelude.{◌≡◌, ℕ, ◌/◌, ◌%◌, ◌^◌, ◌≤◌, length, Option, MatchOption, pos}, Str.Parse.digits_value, Int.int_gap}
use Rattle.decimal_digits.specs.Number.{weight}
use Rattle.decimal_unsigned.specs.{Unsigned.Unsigned, Edits.{multiplied, trimmed_end}, Grammar.Literal}

-- a value multiplied by 10^exponent, and the exponent of the compact decimal: of 1.2c6 they are 1200000 and 6
pub record Operands : Type 0 where
  pub value : Unsigned
  pub exponent : ℕ

-- the exponent of a value that is not a compact decimal is 0
abbrev pub plain : Unsigned → Operands
plain v = record { value = v; exponent = 0 }

-- a compact decimal is its significand times 10^exponent
abbrev pub compact : Unsigned → ℕ → Operands
compact v exponent = record { value = multiplied v (pos exponent); exponent = exponent }

-- i: the integer digits, as an integer
abbrev pub i : Unsigned → ℕ
i x = x.number / weight (pos 0)

-- v: the number of fraction digits
abbrev pub v : Unsigned → ℕ
v x = int_gap x.lo (pos 0)

-- f: the fraction digits, as an integer
abbrev pub f : Unsigned → ℕ
f x = x.number / weight x.lo % 10 ^ v x

-- w: the number of fraction digits without trailing zeros
abbrev pub w : Unsigned → ℕ
w x = v (trimmed_end x)

-- t: the fraction digits without trailing zeros, as an integer
abbrev pub t : Unsigned → ℕ
t x = f (trimmed_end x)

-- an integer if it is below 2^64, and None otherwise
abbrev pub IsIn64Bits : Option ℕ → ℕ → Type 0
IsIn64Bits found n = MatchOption found (2 ^ 64 ≤ n) (λ k. k ≡ n)

-- i, v and f are those of the integer digits and the fraction digits of a text
pub record MatchesDigits (x : Unsigned) (parts : Literal) : Type 0 where
  pub i_is : i x ≡ digits_value 10 parts.whole
  pub v_is : v x ≡ length parts.fraction
  pub f_is : f x ≡ digits_value 10 parts.fraction
