-- The text by other symbols, or under another strategy.
use Rattle.std.proofs.Common.{◌≡◌, ℕ, zero, suc, List, [], ◌++◌, refl, append-nil, arith}
use Rattle.std.specs.Prelude.{ℤ, pos, ◌-ℤ◌}
use Rattle.decimal_digits.specs.Number.{digit}
use Rattle.decimal_unsigned.specs.Text.{dot_before, text_down}
use Rattle.fixed_decimal.specs.{Decimal.Decimal, DecimalText.decimal_text, declared.variations.Sign.Sign}
use Rattle.decimal_format.specs.{declared.grouping.{GroupingSizes.GroupingSizes, GroupingStrategy.{GroupingStrategy, TheVariants.Never}}, Symbols.{Symbols, sign_affixes, without_grouping}, Ascii.ascii_with, Formatted.{separator_before, separator_after, formatted_down, formatted}}
use Rattle.decimal_format.proofs.lemmas.{symbols.AsciiDigits.ten_digits, formatter.Magnitudes.digit_below}

-- under `Never` there is no separator
never_separates : (s : Symbols) (hi m : ℤ) → separator_after s Never hi m ≡ []
never_separates s hi m = grind arith

-- an empty separator is empty wherever it is
empty_separator : (s : Symbols) (g : GroupingStrategy) (hi m : ℤ) → separator_after (without_grouping s) g hi m ≡ []
empty_separator s g hi m = grind arith

-- ---- Without groups.
module _ (s : Symbols) (g : GroupingStrategy) (hi : ℤ) where
  same_before : (m : ℤ) → separator_before (without_grouping s) m ≡ separator_before s m
  same_before m = grind arith

  same_down : (number : ℕ) (m : ℤ) (n : ℕ)
      → formatted_down (without_grouping s) g hi number m n ≡ formatted_down s Never hi number m n
  unfolding formatted_down
  same_down number m zero = refl
  same_down number m (suc n) =
      grind (arith, same_before, empty_separator, never_separates, same_down number (m -ℤ pos 1) n)

same_affixes : (s : Symbols) (sign : Sign) → sign_affixes (without_grouping s) sign ≡ sign_affixes s sign
same_affixes s sign = grind arith

pub groups_insert_separators : (s : Symbols) (strategy : GroupingStrategy) (v : Decimal)
    → formatted (without_grouping s) strategy v ≡ formatted s Never v
groups_insert_separators s g v = simp (same_affixes, same_down)

-- ---- By the ASCII symbols.
module _ (grouping : List ℕ) (sizes : GroupingSizes) where
  before_is : (m : ℤ) → separator_before (ascii_with grouping sizes) m ≡ dot_before m
  before_is m = grind arith

  down_is : (hi : ℤ) (number : ℕ) (m : ℤ) (n : ℕ)
      → formatted_down (ascii_with grouping sizes) Never hi number m n ≡ text_down number m n
  unfolding formatted_down text_down
  down_is hi number m zero = refl
  down_is hi number m (suc n) =
      (λ i. (before_is m i
      ++ (ten_digits (digit number m) (digit_below number m) i ++ never_separates (ascii_with grouping sizes) hi m i))
      ++ down_is hi number (m -ℤ pos 1) n i)

  pub ascii_is_plain : (v : Decimal) → formatted (ascii_with grouping sizes) Never v ≡ decimal_text v
  ascii_is_plain v = grind (arith, down_is, append-nil)
