-- The bytes of the characters that numbers are written with.
use Rattle.std.specs.Prelude.{ℕ}

-- the byte of `0`
abbrev pub digit_zero : ℕ
digit_zero = 48

-- the byte of `.`
abbrev pub decimal_point : ℕ
decimal_point = 46

-- the byte of `-`
abbrev pub minus_sign : ℕ
minus_sign = 45

-- the byte of `+`
abbrev pub plus_sign : ℕ
plus_sign = 43

-- the byte of `e`
abbrev pub lowercase_e : ℕ
lowercase_e = 101

-- the byte of `E`
abbrev pub uppercase_e : ℕ
uppercase_e = 69

-- the byte of `c`
abbrev pub lowercase_c : ℕ
lowercase_c = 99
