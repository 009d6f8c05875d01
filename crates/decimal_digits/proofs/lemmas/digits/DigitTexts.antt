-- Digits and the text that writes them.
use Rattle.std.proofs.{Common.{◌≡◌, ℕ, ◌+◌, ◌<◌, ◌≤◌, List, length, get_or, arith}, lemmas.{Str.Parse.digit_at, Str.digit_value_digit}}
use Rattle.std.specs.{Char.digit_value, Str.Parse.AllDigits}

-- each byte of a text of digits is an ASCII digit
pub ascii_at : (text : List ℕ) → AllDigits 10 text → (i : ℕ) → i < length text
    → (digit_value (get_or text i 0) + 48 ≡ get_or text i 0) × (48 ≤ get_or text i 0) × (get_or text i 0 ≤ 57)
ascii_at text all i h = grind (arith, digit_at, digit_value_digit)
