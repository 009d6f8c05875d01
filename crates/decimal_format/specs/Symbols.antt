-- The symbols of a locale.
use Rattle.std.specs.Prelude.{◌≡◌, ℕ, ◌<◌, ◌≤◌, List, [], length, encode_utf8, slice_index}
use Rattle.fixed_decimal.specs.declared.variations.Sign.{Sign, TheVariants.{None, Negative, Positive}}
use Rattle.decimal_format.specs.declared.{error.SymbolsError.{SymbolsError, TheVariants.{DigitWidths, DecimalTooLong, GroupingTooLong, MinusPrefixTooLong, MinusSuffixTooLong, PlusPrefixTooLong, PlusSuffixTooLong}}, grouping.GroupingSizes.GroupingSizes}

-- the bytes before a number and after it
pub record Affixes : Type 0 where
  pub prefix : List ℕ
  pub suffix : List ℕ

abbrev pub affixes : List ℕ → List ℕ → Affixes
affixes prefix suffix = record { prefix = prefix; suffix = suffix }

-- the characters of the ten digits, the bytes of the separators and of the signs, and the sizes of groups
pub record Symbols : Type 0 where
  pub digits : List ℕ
  pub decimal : List ℕ
  pub grouping : List ℕ
  pub minus : Affixes
  pub plus : Affixes
  pub sizes : GroupingSizes

abbrev pub symbols : List ℕ → List ℕ → List ℕ → Affixes → Affixes → GroupingSizes → Symbols
symbols digits decimal grouping minus plus sizes = record {
  digits = digits;
  decimal = decimal;
  grouping = grouping;
  minus = minus;
  plus = plus;
  sizes = sizes;
}

-- the same symbols with an empty grouping separator
abbrev pub without_grouping : Symbols → Symbols
without_grouping s = record s { grouping = [] }

-- the bytes of a digit
abbrev pub digit_text : Symbols → ℕ → List ℕ
digit_text s d = encode_utf8 (slice_index s.digits d)

-- the bytes that show a sign
abbrev pub sign_affixes : Symbols → Sign → Affixes
sign_affixes s None = affixes [] []
sign_affixes s Negative = s.minus
sign_affixes s Positive = s.plus

-- each of ten characters has this number of bytes
abbrev pub HaveWidth : List ℕ → ℕ → Type 0
HaveWidth digits width = (d : ℕ) → d < 10 → length (encode_utf8 (slice_index digits d)) ≡ width

-- the digits have one width, and no other text has more than 255 bytes
pub record AreValid (s : Symbols) : Type 0 where
  pub one_width : HaveWidth s.digits (length (digit_text s 0))
  pub decimal_in : length s.decimal ≤ 255
  pub grouping_in : length s.grouping ≤ 255
  pub minus_prefix_in : length s.minus.prefix ≤ 255
  pub minus_suffix_in : length s.minus.suffix ≤ 255
  pub plus_prefix_in : length s.plus.prefix ≤ 255
  pub plus_suffix_in : length s.plus.suffix ≤ 255

-- the field that an error names is wrong
abbrev pub Rejects : SymbolsError → Symbols → Type 0
Rejects DigitWidths s = ¬ HaveWidth s.digits (length (digit_text s 0))
Rejects DecimalTooLong s = 255 < length s.decimal
Rejects GroupingTooLong s = 255 < length s.grouping
Rejects MinusPrefixTooLong s = 255 < length s.minus.prefix
Rejects MinusSuffixTooLong s = 255 < length s.minus.suffix
Rejects PlusPrefixTooLong s = 255 < length s.plus.prefix
Rejects PlusSuffixTooLong s = 255 < length s.plus.suffix

-- the place of the field among the arguments of `new`
abbrev pub field_index : SymbolsError → ℕ
field_index DigitWidths = 0
field_index DecimalTooLong = 1
field_index GroupingTooLong = 2
field_index MinusPrefixTooLong = 3
field_index MinusSuffixTooLong = 4
field_index PlusPrefixTooLong = 5
field_index PlusSuffixTooLong = 6

-- no field before that of an error is wrong
abbrev pub IsFirst : SymbolsError → Symbols → Type 0
IsFirst e s = (other : SymbolsError) → field_index other < field_index e → ¬ Rejects other s
