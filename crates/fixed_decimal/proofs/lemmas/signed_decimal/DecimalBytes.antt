-- The bytes of a decimal's text, and its length.
use Rattle.std.proofs.{Common.{◌≡◌, ℕ, zero, suc, ◌+◌, ◌/◌, ◌<◌, ◌≤◌, Bool, false, [], ◌∷◌, ◌++◌, length, refl, ◌∙◌, ap, arith, ℤ, pos, ◌-ℤ◌}, Math.Nat.mod-lt, lemmas.{Bool.Decides.nat_tests, Int.ints, List.Folds.list_any-append, List.length-append}}
use Rattle.std.specs.List.{list_any}
use Rattle.decimal_digits.proofs.lemmas.ops.Offsets.{gap_is}
use Rattle.decimal_digits.specs.Number.{digit, weight}
use Rattle.decimal_unsigned.proofs.lemmas.text.{Lengths.length-text_whole, Writing.{text_down-suc, text_down-zero}}
use Rattle.decimal_unsigned.specs.{Reading.is_letter, Text.{dot_before, text_down}, Unsigned.IsValue}
use Rattle.fixed_decimal.proofs.lemmas.signed_decimal.DecimalTexts.{sign_text_short}
use Rattle.fixed_decimal.specs.{Decimal.Decimal, DecimalText.{sign_text, decimal_text}, Letters.is_c, declared.variations.Sign.Sign}

-- the test passes no digit, no decimal point and no sign
abbrev pub PassesNone : (ℕ → Bool) → Type 0
PassesNone p = (c : ℕ) → c < 58 → p c ≡ false

dot-lacks : (p : ℕ → Bool) → PassesNone p → (m : ℤ) → list_any p (dot_before m) ≡ false
dot-lacks p h m = grind (arith, h 46)

text_down-lacks : (p : ℕ → Bool) → PassesNone p → (number : ℕ) (m : ℤ) (n : ℕ)
    → list_any p (text_down number m n) ≡ false
text_down-lacks p h number m zero = ap (list_any p) (text_down-zero number m)
text_down-lacks p h number m (suc n) =
    let l = mod-lt (number / weight m) (let z : 0 < 10 = omega arith in z) in
    ap (list_any p) (text_down-suc number m n)
    ∙ list_any-append p (dot_before m ++ (48 + digit number m) ∷ []) (text_down number (m -ℤ pos 1) n)
    ∙ (rw (
      list_any-append p (dot_before m) ((48 + digit number m) ∷ []),
      dot-lacks p h m,
      h (48 + digit number m) (omega (arith, l)),
      text_down-lacks p h number (m -ℤ pos 1) n,
    ) refl)

sign-lacks : (p : ℕ → Bool) → PassesNone p → (sign : Sign) → list_any p (sign_text sign) ≡ false
sign-lacks p h sign = grind (arith, h 45, h 43)

-- the text of a decimal is made of digits, a decimal point and a sign
pub decimal_text-lacks : (p : ℕ → Bool) → PassesNone p → (v : Decimal) → list_any p (decimal_text v) ≡ false
decimal_text-lacks p h v = grind (arith, ints, nat_tests, text_down-lacks, list_any-append, sign-lacks)

-- the test for e and E passes none of them
pub letter-none : PassesNone is_letter
letter-none c h = grind (arith, nat_tests)

-- nor does the one for c
pub c-none : PassesNone is_c
c-none c h = grind (arith, nat_tests)

-- ---- The length of the text.

-- the text of an integer has at most a sign and 32768 digits
pub length-integer_most : (v : Decimal) → IsValue v.absolute → v.absolute.lo ≡ pos 0 → length (decimal_text v) ≤ 32769
length-integer_most v h e = grind (arith, ints, nat_tests, gap_is, length-append, sign_text_short, length-text_whole)

-- the length of the text of an integer
pub ruleset integer_lengths = (length-integer_most)
