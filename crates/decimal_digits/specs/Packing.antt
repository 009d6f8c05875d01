-- Private: used only in the contracts of private functions.
-- Bytes and the digits packed into them.
use Rattle.std.specs.Prelude.{◌≡◌, ℕ, ◌+◌, ◌-◌, ◌*◌, ◌/◌, ◌<◌, ◌≤◌, List, [], ◌∷◌, length, max, slice_index, All, refl}
use Rattle.std.proofs.Common.{arith}
use Rattle.std.proofs.lemmas.List.{length-take}
use Rattle.decimal_digits.specs.Nibbles.{nibbles, digits_in, IsPacked}

-- the bytes are the packed BCD of the list, which has `len` digits
pub record Encodes (bytes : List ℕ) (len : ℕ) (list : List ℕ) : Type 0 where
  pub packed : IsPacked bytes len
  pub digits : digits_in bytes len ≡ list

-- the bytes are the packed BCD of `len` digits, followed by zeros up to the eighth byte
pub record IsPadded (bytes : List ℕ) (len : ℕ) : Type 0 where
  pub count : length bytes ≡ max 8 ((len + 1) / 2)
  pub decimal : All (λ d. d < 10) (digits_in bytes len)
  pub zeros : (k : ℕ) → len ≤ k → slice_index (nibbles bytes) k ≡ 0

-- the bytes are the packed BCD of the list, which has `len` digits, followed by zeros up to the eighth byte
pub record EncodesPadded (bytes : List ℕ) (len : ℕ) (list : List ℕ) : Type 0 where
  pub padded : IsPadded bytes len
  pub digits : digits_in bytes len ≡ list

-- a byte has two nibbles
pub length-nibbles : (bytes : List ℕ) → length (nibbles bytes) ≡ 2 * length bytes
unfolding nibbles
length-nibbles [] = refl
length-nibbles (b ∷ bs) = omega (arith, length-nibbles bs)

-- there are at least eight bytes, and at least those that `len` digits need
pub padded_count : (bytes : List ℕ) (len : ℕ) → IsPadded bytes len
    → ((len + 1) / 2 ≤ length bytes) × (8 ≤ length bytes) × (8 < length bytes → length bytes ≡ (len + 1) / 2)
padded_count bytes len p = (omega (arith, p.count), omega (arith, p.count), λ h. omega (arith, p.count))

-- padded bytes of `len` digits have `len` digits
pub length_digits : (bytes : List ℕ) (len : ℕ) → IsPadded bytes len → length (digits_in bytes len) ≡ len
length_digits bytes len p = simp (length-take, length-nibbles) (omega (arith, p.count))

-- with a capacity of at least eight bytes, the digits and the room are at least sixteen
pub room_to_L : (bytes : List ℕ) (capacity len : ℕ) → 8 ≤ capacity → IsPadded bytes len
    → 16 ≤ length (digits_in bytes len) + (2 * capacity - len)
room_to_L bytes capacity len h p = omega (arith, length_digits bytes len p)

-- the rules for padded bytes
pub ruleset padding = (length_digits, padded_count)
