-- The length in bytes of the text of a value.
use Rattle.std.proofs.{Common.{◌≡◌, ℕ, suc, ◌+◌, ◌<◌, ◌≤◌, length, arith, ℤ, pos, negsuc, ◌≤ℤ◌, ◌<ℤ◌}, lemmas.{Int.ints, List.length-append}}
use Rattle.std.specs.Int.{int_gap}
use Rattle.decimal_digits.proofs.lemmas.{digits.Rules.steps, ops.Offsets.gap_is}
use Rattle.decimal_unsigned.proofs.lemmas.text.Writing.{length-bytes_down, fraction_text, text_is}
use Rattle.decimal_unsigned.specs.{Text.text, Unsigned.{Unsigned, IsValue}}

length-fraction : (number : ℕ) (lo : ℤ) → lo <ℤ pos 0 → length (fraction_text number lo) ≡ int_gap lo (pos 0) + 1
length-fraction number (pos k) h = absurd (omega (arith, ints))
length-fraction number (negsuc b) h = omega (arith, ints, length-bytes_down number (negsuc 0) (suc b))

pub length-text : (v : Unsigned) → pos 0 ≤ℤ v.hi → v.lo ≤ℤ pos 0
    → length (text v) ≡ int_gap (pos 0) v.hi + 1 + length (fraction_text v.number v.lo)
length-text v h l = grind (steps, text_is, length-append, length-bytes_down)

-- the length of a text without fraction digits is the number of its digits
pub length-text_whole : (v : Unsigned) → pos 0 ≤ℤ v.hi → v.lo ≡ pos 0 → length (text v) ≡ int_gap v.lo v.hi + 1
length-text_whole v h l = grind (arith, ints, length-text, gap_is)

-- the length of a text with fraction digits is the number of its digits plus one
pub length-text_dotted : (v : Unsigned) → pos 0 ≤ℤ v.hi → v.lo <ℤ pos 0 → length (text v) ≡ int_gap v.lo v.hi + 1 + 1
length-text_dotted v h l = grind (arith, ints, length-text, length-fraction, gap_is)

-- the text of a value has at most 65,536 digits and a decimal point
pub text_short : (v : Unsigned) → IsValue v → length (text v) ≤ 65537
text_short v valid = grind (arith, ints, length-text_whole, length-text_dotted, gap_is)

-- no text of a value is empty
pub text_some : (v : Unsigned) → IsValue v → 0 < length (text v)
text_some v valid = omega (arith, length-text v valid.hi_in.0 valid.lo_in.1)
