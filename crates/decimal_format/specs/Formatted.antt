-- The text of a decimal as a locale writes it.
use Rattle.std.specs.{Prelude.{ℕ, zero, suc, ◌+◌, if◌then◌else◌, List, [], ◌++◌, ℤ, pos, negsuc, ◌-ℤ◌}, Int.int_gap}
use Rattle.decimal_digits.specs.Number.{digit}
use Rattle.decimal_unsigned.specs.Unsigned.{Unsigned}
use Rattle.fixed_decimal.specs.{Decimal.Decimal, declared.variations.Sign.Sign}
use Rattle.decimal_format.specs.{declared.grouping.GroupingStrategy.GroupingStrategy, Symbols.{Symbols, digit_text, sign_affixes}, Grouping.separates}

-- ---- What is formatted.

-- the symbols of a locale and a strategy
pub record Formatter : Type 0 where
  pub symbols : Symbols
  pub strategy : GroupingStrategy

abbrev pub formatter : Symbols → GroupingStrategy → Formatter
formatter symbols strategy = record { symbols = symbols; strategy = strategy }

-- the same with a decimal
pub record Formatted : Type 0 where
  pub symbols : Symbols
  pub strategy : GroupingStrategy
  pub value : Decimal

-- an absolute value, the symbols and the strategy
pub record FormattedAbsolute : Type 0 where
  pub symbols : Symbols
  pub strategy : GroupingStrategy
  pub value : Unsigned

abbrev pub formatted_absolute : Symbols → GroupingStrategy → Unsigned → FormattedAbsolute
formatted_absolute symbols strategy value = record { symbols = symbols; strategy = strategy; value = value }

abbrev pub with_sign : FormattedAbsolute → Sign → Formatted
with_sign f sign =
    record { symbols = f.symbols; strategy = f.strategy; value = record { sign = sign; absolute = f.value } }

abbrev pub formatted_by : Formatter → Decimal → Formatted
formatted_by f value = record { symbols = f.symbols; strategy = f.strategy; value = value }

-- ---- The text.

-- the decimal separator before magnitude -1; nothing before the others
abbrev pub separator_before : Symbols → ℤ → List ℕ
separator_before s (pos k) = []
separator_before s (negsuc zero) = s.decimal
separator_before s (negsuc (suc k)) = []

-- the grouping separator after a magnitude, if there is one
abbrev pub separator_after : Symbols → GroupingStrategy → ℤ → ℤ → List ℕ
separator_after s strategy hi m = if separates strategy s.sizes hi m then s.grouping else []

-- the bytes of a magnitude
abbrev pub magnitude_text : Symbols → GroupingStrategy → ℤ → ℕ → ℤ → List ℕ
magnitude_text s strategy hi number m =
    separator_before s m ++ (digit_text s (digit number m) ++ separator_after s strategy hi m)

-- the bytes of the given number of magnitudes, from m down
unfoldable pub formatted_down : Symbols → GroupingStrategy → ℤ → ℕ → ℤ → ℕ → List ℕ
formatted_down s strategy hi number m zero = []
formatted_down s strategy hi number m (suc n) =
    magnitude_text s strategy hi number m ++ formatted_down s strategy hi number (m -ℤ pos 1) n

-- the number of magnitudes that are shown
abbrev pub shown_count : Unsigned → ℕ
shown_count v = int_gap v.lo v.hi + 1

-- the bytes of the magnitude that is the given number below the highest
abbrev pub nth_text : Symbols → GroupingStrategy → Unsigned → ℕ → List ℕ
nth_text s strategy v below = magnitude_text s strategy v.hi v.number (v.hi -ℤ pos below)

-- the bytes of each magnitude that is shown, the highest first: 1,234.50 of 1234.5 with hi 3 and lo -2
abbrev pub absolute_text : Symbols → GroupingStrategy → Unsigned → List ℕ
absolute_text s strategy v = formatted_down s strategy v.hi v.number v.hi (shown_count v)

abbrev pub formatted_absolute_text : FormattedAbsolute → List ℕ
formatted_absolute_text f = absolute_text f.symbols f.strategy f.value

-- the same between the prefix and the suffix of the sign
abbrev pub formatted : Symbols → GroupingStrategy → Decimal → List ℕ
formatted s strategy v =
    (sign_affixes s v.sign).prefix ++ (absolute_text s strategy v.absolute ++ (sign_affixes s v.sign).suffix)

abbrev pub formatted_text : Formatted → List ℕ
formatted_text f = formatted f.symbols f.strategy f.value
