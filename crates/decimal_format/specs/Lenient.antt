-- Numbers as people type them.
use Rattle.std.specs.{Prelude.{◌≡◌, ℕ, ◌-◌, ◌^◌, ◌==◌, ◌⊎◌, Bool, false, ◌&&◌, ◌||◌, if◌then◌else◌, List, [], ◌∷◌, take, encode_utf8}, Char.is_ascii_digit, List.{flat_map, list_any}, Str.chars}
use Rattle.fixed_decimal.specs.Decimal.{Decimal}
use Rattle.decimal_format.specs.{declared.grouping.GroupingStrategy.TheVariants.Never, Symbols.{Symbols, digit_text}, Grouping.ends_group, Formatted.formatted, Reading.{Numeral, AreDigits, numeral_text, IsNumeral, IsWritten}}

-- ---- Classes of characters: those of CLDR 48's parseLenients, without the minus signs U+2013, U+207B, U+208B and
-- U+2796, the plus signs U+207A, U+208A, U+2795, U+FB29 and U+FE62, and the apostrophes U+02BC, U+055A, U+1FBD, U+1FBF
-- and U+FF07. Direction marks and spaces are no sets of CLDR.

-- direction marks: U+200E, U+200F, U+061C
abbrev pub is_mark : ℕ → Bool
is_mark c = c == 0x200E || (c == 0x200F || c == 0x061C)

-- minus signs and hyphens: U+002D, U+2212, U+2010, U+2011, U+2012, U+FE63, U+FF0D
abbrev pub is_minus : ℕ → Bool
is_minus c =
    c == 0x002D || (c == 0x2212 || (c == 0x2010 || (c == 0x2011 || (c == 0x2012 || (c == 0xFE63 || c == 0xFF0D)))))

-- plus signs: U+002B, U+FF0B
abbrev pub is_plus : ℕ → Bool
is_plus c = c == 0x002B || c == 0xFF0B

-- spaces: U+0020, U+00A0, U+202F, U+2009
abbrev pub is_space : ℕ → Bool
is_space c = c == 0x0020 || (c == 0x00A0 || (c == 0x202F || c == 0x2009))

-- apostrophes: U+0027, U+2019
abbrev pub is_apostrophe : ℕ → Bool
is_apostrophe c = c == 0x0027 || c == 0x2019

-- a space where the locale groups by spaces, or an apostrophe where it groups by apostrophes
abbrev pub is_separator : Symbols → ℕ → Bool
is_separator s c =
    (is_space c && list_any is_space (chars s.grouping)) || (is_apostrophe c && list_any is_apostrophe (chars
    s.grouping))

-- ---- Normal forms.

-- the bytes that a character stands for; a space that is no separator is U+0020
abbrev pub replacement : Symbols → ℕ → List ℕ
replacement s c =
    if is_mark c then []
    else if is_minus c then s.minus.prefix
    else if is_plus c then s.plus.prefix
    else if is_separator s c then s.grouping
    else if is_space c then 32 ∷ []
    else if is_ascii_digit c then digit_text s (c - 48)
    else encode_utf8 c

-- the bytes that the characters of a text stand for
abbrev pub replaced : Symbols → List ℕ → List ℕ
replaced s text = flat_map (replacement s) (chars text)

-- the text in the symbols of the locale, as far as a machine can count its bytes: to 2 ^ 64 of them, which is beyond
-- all limits, no text of fewer than 2 ^ 56 bytes comes
abbrev pub normalized : Symbols → List ℕ → List ℕ
normalized s text = take (2 ^ 64 - 1) (replaced s text)

-- ---- Optional separators.

-- a separator is after each chosen digit that ends a group
abbrev pub separated_at : Symbols → (ℕ → Bool) → ℕ → Bool
separated_at s chosen m = ends_group s.sizes m && chosen m

-- the text is that of these digits, with a grouping separator after any of the digits that end a group
pub record IsLenientNumeral (s : Symbols) (bytes : List ℕ) (w : Numeral) : Type 0 where
  pub digits : AreDigits w
  pub chosen : ℕ → Bool
  pub text : bytes ≡ numeral_text s (separated_at s chosen) w

-- and these digits without a separator are the text of the decimal by `Never`: 1234,567 is that of 1234567
abbrev pub IsLenientlyWritten : Symbols → Decimal → List ℕ → Type 0
IsLenientlyWritten s v bytes =
    (w : Numeral) × IsLenientNumeral s bytes w × (numeral_text s (λ _. false) w ≡ formatted s Never v)

-- ---- What is read.

-- the text is that of the decimal; or it is that of no number, and its normal form is that of the decimal, with
-- optional separators
abbrev pub IsTyped : Symbols → Decimal → List ℕ → Type 0
IsTyped s v text =
    IsWritten s v text ⊎ (((w : Numeral) → ¬ IsNumeral s text w) × IsLenientlyWritten s v (normalized s text))

-- the same for a numeral of any number of digits
abbrev pub IsTypedNumeral : Symbols → List ℕ → Numeral → Type 0
IsTypedNumeral s text w =
    IsNumeral s text w ⊎ (((u : Numeral) → ¬ IsNumeral s text u) × IsLenientNumeral s (normalized s text) w)
