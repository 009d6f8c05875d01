-- Private: used only in the contracts of private functions.
-- Texts of digits, with or without a decimal point.
use Rattle.std.specs.Prelude.{◌≡◌, ℕ, zero, suc, ◌+◌, ◌/◌, ◌%◌, ◌<◌, ◌≤◌, List, ◌++◌, length, take, drop, Some, None}
use Rattle.std.specs.Char.{is_ascii_digit}
use Rattle.std.specs.List.{prefix_len}
use Rattle.std.specs.Str.Parse.{digits_value, digits_value_after}
use Rattle.decimal_unsigned.specs.Grammar.{Literal}
use Rattle.decimal_unsigned.specs.Reading.{parts_of}

-- each of the lowest k bytes of a number is below the bound
abbrev pub bytes_below : ℕ → ℕ → ℕ → Type 0
bytes_below bound zero n = Unit {0}
bytes_below bound (suc k) n = (n % 256 < bound) × bytes_below bound k (n / 256)

-- the first i bytes of a text are digits, and their number in base 16 after another one, modulo p
pub record IsReadTo (p before : ℕ) (text : List ℕ) (i number : ℕ) : Type 0 where
  pub digits : prefix_len is_ascii_digit text ≡ i + prefix_len is_ascii_digit (drop i text)
  pub value : number ≡ digits_value_after 16 before (take i text) % p

-- the parts of a text of digits, with or without a decimal point, where the first `whole` are the integer digits
abbrev pub plain_parts : List ℕ → ℕ → Literal
plain_parts text whole = record { whole = take whole text; fraction = drop (whole + 1) text; exponent = None }

-- the text is up to 32 digits, with or without a decimal point, and these are their numbers and their number in base 16
pub record IsPlainText (text : List ℕ) (whole fraction number : ℕ) : Type 0 where
  pub parts : parts_of text ≡ Some (plain_parts text whole)
  pub integer_digits : length (take whole text) ≡ whole
  pub fraction_digits : length (drop (whole + 1) text) ≡ fraction
  pub few : length (take whole text ++ drop (whole + 1) text) ≤ 32
  pub value : number ≡ digits_value 16 (take whole text ++ drop (whole + 1) text)
