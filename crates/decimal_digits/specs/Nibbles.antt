-- Packed BCD: two digits to a byte, the first of them in the high nibble.
use Rattle.std.specs.Prelude.{◌≡◌, ℕ, ◌+◌, ◌*◌, ◌/◌, ◌%◌, ◌<◌, List, [], ◌∷◌, ◌++◌, length, take, replicate, slice_index, All}
use Rattle.std.specs.Int.{w64, w128, to_be_bytes}
use Rattle.std.specs.Int.Digits.{number_from_digits}

-- the nibbles of the bytes, the high one of each byte first: 2, 5, 0 and 7 of 0x25 and 0x07
unfoldable pub nibbles : List ℕ → List ℕ
nibbles [] = []
nibbles (b ∷ bs) = b / 16 ∷ (b % 16 ∷ nibbles bs)

-- the first `len` nibbles
abbrev pub digits_in : List ℕ → ℕ → List ℕ
digits_in bytes len = take len (nibbles bytes)

-- the bytes are the packed BCD of `len` digits 0 to 9, with a last nibble 0 if `len` is odd
pub record IsPacked (bytes : List ℕ) (len : ℕ) : Type 0 where
  pub count : 2 * length bytes ≡ len + len % 2
  pub decimal : All (λ d. d < 10) (digits_in bytes len)
  pub unused : len % 2 ≡ 1 → slice_index (nibbles bytes) len ≡ 0

-- the big-endian bytes of a 64-bit number, cut to the (len + 1) / 2 bytes that hold the first `len` nibbles
unfoldable pub leading_bytes : ℕ → ℕ → List ℕ
leading_bytes number len = take ((len + 1) / 2) (to_be_bytes w64 number)

-- the same of a 128-bit number
unfoldable pub wide_leading_bytes : ℕ → ℕ → List ℕ
wide_leading_bytes number len = take ((len + 1) / 2) (to_be_bytes w128 number)

-- the sixteen nibbles of a 64-bit number
unfoldable pub word_nibbles : ℕ → List ℕ
word_nibbles number = nibbles (to_be_bytes w64 number)

-- the first k digits, with zeros after fewer: 2, 5 and 0 of 2 and 5 for k = 3
unfoldable pub padded : ℕ → List ℕ → List ℕ
padded k digits = take k (digits ++ replicate k 0)

-- the number whose sixteen nibbles are the first sixteen digits, with zeros after fewer: 0x2500000000000000 of 2 and 5
unfoldable pub bcd_number : List ℕ → ℕ
bcd_number digits = number_from_digits 16 (padded 16 digits)
