-- The value of a text: the value of its parts, and how the parts are found.
use Rattle.std.specs.Prelude.{◌≡◌, ℕ, ◌-◌, ◌*◌, ◌^◌, ◌==◌, nat_lt, Bool, ◌&&◌, ◌||◌, if◌then◌else◌, List, [], ◌∷◌, ◌++◌, length, take, drop, Option, Some, None, option_map, Result, Ok, Err, ℤ, pos, negsuc, neg_ℤ, ◌-ℤ◌, int_lt}
use Rattle.std.specs.Str.Parse.{digits_value}
use Rattle.std.specs.Char.{is_ascii_digit}
use Rattle.std.specs.List.{prefix_len}
use Rattle.std.specs.Str.{all_ascii_digits}
use Rattle.decimal_digits.specs.Ascii.{minus_sign, plus_sign, decimal_point, lowercase_e, uppercase_e}
use Rattle.decimal_digits.specs.Number.{first, last}
use Rattle.decimal_unsigned.specs.Unsigned.{Unsigned}
use Rattle.decimal_unsigned.specs.Edits.{leaves_limits, multiplied}
use Rattle.decimal_unsigned.specs.Grammar.{Literal, Grammar}

-- ---- The value of the parts.

-- why a text has no value: it is not in the grammar; or a digit that it shows, a leading zero too, is beyond the
-- limits
pub data ReadError : Type 0 where
  syntax : ReadError
  limit : ReadError

-- the number before an exponent, with all its digits shown; there are at most 32768 fraction digits, so the subtraction
-- is exact, and without integer digits `hi` is 0
abbrev pub mantissa : List ℕ → List ℕ → Unsigned
mantissa whole fraction = record {
  number = digits_value 10 (whole ++ fraction) * 10 ^ (32768 - length fraction);
  hi = pos (length whole - 1);
  lo = pos 0 -ℤ pos (length fraction);
}

-- an exponent outside -32768 to 32767
abbrev pub is_outside : ℤ → Bool
is_outside e = int_lt (pos 32767) e || int_lt e (negsuc 32767)

-- no leading zeros if the first nonzero digit is above magnitude 0, and no trailing zeros if the last one is below it:
-- 1.20e0 is 1.2 and 01e1 is 10, but 0.009E3 is 0009, since its first nonzero digit is at magnitude 0, and not above
abbrev pub zeros_trimmed : Unsigned → Unsigned
zeros_trimmed v = record v {
  hi = if int_lt (pos 0) (first v.number) then first v.number else v.hi;
  lo = if int_lt (last v.number) (pos 0) then last v.number else v.lo;
}

-- the value times 10 to the exponent, with its zeros trimmed, or `limit` if the exponent or the range leaves the
-- limits; for the number 0 the exponent is ignored
unfoldable pub scaled : Unsigned → Option ℤ → Result Unsigned ReadError
scaled v None = Ok v
scaled v (Some e) =
    if v.number == 0 then Ok v
    else if is_outside e || leaves_limits v e then Err limit
    else Ok (zeros_trimmed (multiplied v e))

-- the value of the parts, or `limit` if they have more than 32768 integer digits or more than 32768 fraction digits
unfoldable pub value_of : Literal → Result Unsigned ReadError
value_of w =
    if nat_lt 32768 (length w.whole) || nat_lt 32768 (length w.fraction) then Err limit
    else scaled (mantissa w.whole w.fraction) w.exponent

-- ---- The parts of a text, found from left to right; `FollowsGrammar` states that they are those of the grammar.

-- the leading digits of a text
abbrev pub leading_digits : List ℕ → List ℕ
leading_digits text = take (prefix_len is_ascii_digit text) text

-- the text after its leading digits
abbrev pub after_digits : List ℕ → List ℕ
after_digits text = drop (prefix_len is_ascii_digit text) text

-- the number of a text of one or more digits, or none for any other text
unfoldable pub numeral_of : List ℕ → Option ℕ
numeral_of text = if nat_lt 0 (length text) && all_ascii_digits text then Some (digits_value 10 text) else None

-- the exponent, after at most one sign, which is a minus or a plus
unfoldable pub exponent_of : List ℕ → Option ℤ
exponent_of [] = option_map pos (numeral_of [])
exponent_of (c ∷ rest) =
    if c == minus_sign then option_map (λ n. neg_ℤ (pos n)) (numeral_of rest)
    else if c == plus_sign then option_map pos (numeral_of rest)
    else option_map pos (numeral_of (c ∷ rest))

-- e or E
abbrev pub is_letter : ℕ → Bool
is_letter c = c == lowercase_e || c == uppercase_e

-- the parts, where the text is what follows the letter
unfoldable pub with_exponent : List ℕ → List ℕ → List ℕ → Option Literal
with_exponent whole fraction text =
    option_map (λ e. record { whole = whole; fraction = fraction; exponent = Some e }) (exponent_of text)

-- the parts, where the text is what follows the fraction digits
unfoldable pub after_fraction : List ℕ → List ℕ → List ℕ → Option Literal
after_fraction whole fraction [] =
    if nat_lt 0 (length fraction) then Some (record { whole = whole; fraction = fraction; exponent = None }) else None
after_fraction whole fraction (c ∷ rest) = if is_letter c then with_exponent whole fraction rest else None

-- the parts, where the text is what follows the integer digits
unfoldable pub after_whole : List ℕ → List ℕ → Option Literal
after_whole whole [] =
    if nat_lt 0 (length whole) then Some (record { whole = whole; fraction = []; exponent = None }) else None
after_whole whole (c ∷ rest) =
    if c == decimal_point then after_fraction whole (leading_digits rest) (after_digits rest)
    else if is_letter c && nat_lt 0 (length whole) then with_exponent whole [] rest
    else None

-- the parts of a text
unfoldable pub parts_of : List ℕ → Option Literal
parts_of text = after_whole (leading_digits text) (after_digits text)

-- ---- Reading.

-- the value of the parts, or a syntax error if there are none
unfoldable pub value_or_syntax : Option Literal → Result Unsigned ReadError
value_or_syntax None = Err syntax
value_or_syntax (Some w) = value_of w

-- the value of a text, or why it has none
unfoldable pub read : List ℕ → Result Unsigned ReadError
read text = value_or_syntax (parts_of text)

-- reading follows the grammar: a text with parts has their value, and a text without parts is a syntax error
pub record FollowsGrammar (text : List ℕ) : Type 0 where
  pub value : (w : Literal) → Grammar text w → read text ≡ value_of w
  pub none : ((w : Literal) → ¬ Grammar text w) → read text ≡ Err syntax
