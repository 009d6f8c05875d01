-- Magnitudes as offsets.
use Rattle.std.proofs.{Common.{◌≡◌, ◌+◌, ◌-◌, ◌≤◌, arith, ℤ, pos, negsuc, ◌≤ℤ◌}, lemmas.Int.ints}
use Rattle.std.specs.Int.{int_gap}
use Rattle.decimal_digits.specs.Number.{offset, magnitude_at}
use borrow.Author.Differences.{up, down}

-- for `omega`: an offset is the magnitude plus 32768
pub offset_is : (m : ℤ) → (offset m ≡ 32768 + up m - down m)
unfolding offset
offset_is (pos n) = omega arith
offset_is (negsuc n) = omega arith

-- a magnitude is the one at its offset
pub magnitude_at-offset : (m : ℤ) → negsuc 32767 ≤ℤ m → magnitude_at (offset m) ≡ m
magnitude_at-offset m h = omega (arith, ints, offset_is m)

-- a higher magnitude has a higher offset
pub offset_le : (a b : ℤ) → negsuc 32767 ≤ℤ a → negsuc 32767 ≤ℤ b → a ≤ℤ b → offset a ≤ offset b
offset_le a b p q h = omega (arith, ints, offset_is)

-- for `omega`: how far one magnitude is above another
pub gap_is : (a b : ℤ) → int_gap a b ≡ (up b + down a) - (up a + down b)
gap_is (pos a) (pos b) = omega arith
gap_is (pos a) (negsuc b) = omega arith
gap_is (negsuc a) (pos b) = omega arith
gap_is (negsuc a) (negsuc b) = omega arith
