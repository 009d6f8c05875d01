-- The plural category of a text: of a number, or of a range between two numbers in a locale.
use Rattle.std.specs.{Prelude.{◌⊎◌, ℕ, nat_eq, if◌then◌else◌, drop, List, [], ◌∷◌, codes, Option, None, Some, Result, Ok, IsOk, IsOkAnd, MatchBool, MatchOption}, List.{list_any, starts_with}, Option.{option_map, option_map_or, option_and_then}}
use Rattle.decimal_unsigned.specs.{declared.decimal.TheConstants.INLINE_DIGITS, Reading.ReadError}
use Rattle.fixed_decimal.specs.{DecimalText.{read_decimal, IsLong, and_then}, Letters.is_c, Compact.{read_compact, HasLongSignificand}}
use Rattle.plural_rules.specs.{declared.rules.PluralCategory.PluralCategory, Operands.{plain, compact}, Rules.{RuleValue, category_of}}
use Rattle.locale_data.specs.PluralRanges.{plural_range_category}

-- plural rules, and the tag of the locale that they are those of, if a locale was named
pub record TextRulesValue : Type 0 where
  pub rules : List RuleValue
  pub tag : Option (List ℕ)

abbrev pub text_rules : List RuleValue → Option (List ℕ) → TextRulesValue
text_rules rules tag = record { rules = rules; tag = tag }

-- ---- Numbers.

-- the category of a number: with a c it is a compact decimal, and else a decimal
abbrev pub read_number : List RuleValue → List ℕ → Result PluralCategory ReadError
read_number rules bytes =
    if list_any is_c bytes
    then and_then (read_compact bytes) (λ v. Ok (category_of rules (compact v.significand.absolute v.exponent)))
    else and_then (read_decimal bytes) (λ v. Ok (category_of rules (plain v.absolute)))

-- a number has more digits than are held without allocation
abbrev pub IsLongNumber : List ℕ → Type 0
IsLongNumber bytes =
    MatchBool (list_any is_c bytes) (IsOkAnd (read_compact bytes) (HasLongSignificand INLINE_DIGITS))
    (IsOkAnd (read_decimal bytes) (IsLong INLINE_DIGITS))

-- ---- Ranges.

-- the texts before and after the first `..` of a text, if it has one: `1` and `5` of `1..5`
abbrev pub ends_of : List ℕ → Option (List ℕ × List ℕ)
ends_of [] = None
ends_of (b ∷ bs) =
    if starts_with nat_eq (b ∷ bs) (codes "..") then Some ([], drop 1 bs)
    else option_map (λ ends. (b ∷ ends.0, ends.1)) (ends_of bs)

-- the category of a range: that which the language has for the categories of the start and of the end
abbrev pub read_range : List RuleValue → List ℕ → List ℕ × List ℕ → Result PluralCategory ReadError
read_range rules tag ends =
    and_then (read_number rules ends.0)
    (λ start. and_then (read_number rules ends.1) (λ end. Ok (plural_range_category tag start end)))

-- the start of a range is a long number, or the end is, and the start has a category
abbrev pub HasLongEnd : List RuleValue → List ℕ × List ℕ → Type 0
HasLongEnd rules ends = IsLongNumber ends.0 ⊎ (IsOk (read_number rules ends.0) × IsLongNumber ends.1)

-- ---- Texts.

-- the tag of the locale and the ends of a text that is a range: a locale was named, and the text has a `..`
abbrev pub range_of : TextRulesValue → List ℕ → Option (List ℕ × (List ℕ × List ℕ))
range_of rules bytes = option_and_then (λ tag. option_map (λ ends. (tag, ends)) (ends_of bytes)) rules.tag

-- the category of a text: of a range if it is one, and else of a number
abbrev pub read_category : TextRulesValue → List ℕ → Result PluralCategory ReadError
read_category rules bytes =
    option_map_or (λ range. read_range rules.rules range.0 range.1) (range_of rules bytes)
    (read_number rules.rules bytes)

-- a number of the text has more digits than are held without allocation
abbrev pub IsLongText : TextRulesValue → List ℕ → Type 0
IsLongText rules bytes =
    MatchOption (range_of rules bytes) (IsLongNumber bytes) (λ range. HasLongEnd rules.rules range.1)
