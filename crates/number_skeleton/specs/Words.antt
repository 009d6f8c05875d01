-- The words of skeletons, as ICU has them.
use Rattle.std.specs.{Prelude.{ℕ, ◌-◌, ◌==◌, nat_eq, Bool, true, false, ◌&&◌, List, [], ◌∷◌, ◌++◌, map, length, replicate, slice_index, find, codes, Option, Some, None, pos}, List.{list_any, starts_with}, Option.option_map}
use Rattle.decimal_digits.specs.declared.rounding.UnsignedRoundingMode.TheVariants as absolute
use Rattle.decimal_format.specs.declared.grouping.GroupingStrategy.TheVariants as grouping
use Rattle.fixed_decimal.specs.declared.rounding.SignedRoundingMode.TheVariants as mode
use Rattle.fixed_decimal.specs.declared.variations.SignDisplay.TheVariants as sign
use Rattle.locale_data.specs.declared.currency.CurrencySign.TheVariants as currency
use Rattle.number_format.specs.declared.options.CompactLength.TheVariants as compact
use Rattle.number_format.specs.declared.options.CurrencyDisplay.TheVariants as display
use Rattle.number_format.specs.declared.options.CurrencyUsage.TheVariants as usage
use Rattle.number_format.specs.declared.options.DecimalSeparatorDisplay.TheVariants as separator
use Rattle.number_format.specs.declared.options.ExponentSign.TheVariants as exponent_sign
use Rattle.number_format.specs.declared.options.GroupSizes.TheVariants as sizes
use Rattle.number_skeleton.specs.declared.{choices.{Choice.Choice, Exponent.Exponent}, counts.Counts.Counts, decimal.Decimal.Decimal, meaning.{Expected.Expected, Meaning.Meaning}, words.StemWord.StemWord}
use Rattle.number_skeleton.specs.declared.choices.Choice.TheVariants as choice
use Rattle.number_skeleton.specs.declared.choices.ChosenNotation.TheVariants as notation
use Rattle.number_skeleton.specs.declared.choices.ChosenPerUnit.TheVariants as per
use Rattle.number_skeleton.specs.declared.choices.ChosenPrecision.TheVariants as precision
use Rattle.number_skeleton.specs.declared.choices.ChosenUnit.TheVariants as unit
use Rattle.number_skeleton.specs.declared.meaning.Expected.TheVariants as expected

-- bytes and then spaces
abbrev pub padded : ℕ → List ℕ → List ℕ
padded size text = text ++ replicate (size - length text) 32

-- a stem, and what may follow it
abbrev stem_word : List ℕ → Choice → Expected → StemWord
stem_word text c e = record { text = padded 28 text; choice = c; expected = e }

-- a stem that another stem follows
abbrev word : List ℕ → Choice → StemWord
word text c = stem_word text c expected.Stem

-- an exponent of at least one digit
abbrev one_digit : Bool → Exponent
one_digit is_engineering = record { is_engineering = is_engineering; digits = 1; sign = exponent_sign.Auto }

abbrev no_digits : Counts
no_digits = record { min = 0; max = Some 0 }

abbrev one : Decimal
one = record { is_negative = false; digits = 1; power = pos 0; after_point = None }

-- the stems that are words, those of `initNumberSkeletons` of ICU; `None` is what this library has no option for
abbrev pub stems : List StemWord
stems =
    word (codes "notation-simple") (choice.Notation notation.Simple)
    ∷ word (codes "compact-short") (choice.Notation (notation.Compact compact.Short))
    ∷ word (codes "K") (choice.Notation (notation.Compact compact.Short))
    ∷ word (codes "compact-long") (choice.Notation (notation.Compact compact.Long))
    ∷ word (codes "KK") (choice.Notation (notation.Compact compact.Long))
    ∷ stem_word (codes "scientific") (choice.Notation (notation.Exponent (one_digit false)))
    (expected.Exponent (one_digit false))
    ∷ stem_word (codes "engineering") (choice.Notation (notation.Exponent (one_digit true)))
    (expected.Exponent (one_digit true))
    ∷ word (codes "base-unit") (choice.Unit unit.Base)
    ∷ word (codes "percent") (choice.Unit unit.Percent)
    ∷ word (codes "%") (choice.Unit unit.Percent)
    ∷ word (codes "permille") (choice.Unit unit.Permille)
    ∷ word (codes "%x100") choice.PercentTimes100
    ∷ stem_word (codes "currency") choice.UnitAlone expected.Currency
    ∷ stem_word (codes "measure-unit") (choice.Unit unit.Other) expected.MeasureUnit
    ∷ stem_word (codes "per-measure-unit") (choice.PerUnit per.Other) expected.PerMeasureUnit
    ∷ stem_word (codes "unit") choice.UnitAlone expected.Unit
    ∷ stem_word (codes "usage") choice.Usage expected.Usage
    ∷ stem_word (codes "precision-integer") (choice.Precision (precision.Fraction no_digits))
    (expected.Significant no_digits)
    ∷ stem_word (codes "precision-unlimited") (choice.Precision precision.Unlimited) expected.StripIfInteger
    ∷ stem_word (codes "precision-currency-standard") (choice.Precision (precision.Currency usage.Standard))
    expected.StripIfInteger
    ∷ stem_word (codes "precision-currency-cash") (choice.Precision (precision.Currency usage.Cash))
    expected.StripIfInteger
    ∷ stem_word (codes "precision-increment") (choice.Precision precision.Unlimited) expected.Increment
    ∷ word (codes "rounding-mode-ceiling") (choice.Mode (Some mode.Ceil))
    ∷ word (codes "rounding-mode-floor") (choice.Mode (Some mode.Floor))
    ∷ word (codes "rounding-mode-down") (choice.Mode (Some (mode.Unsigned absolute.Trunc)))
    ∷ word (codes "rounding-mode-up") (choice.Mode (Some (mode.Unsigned absolute.Expand)))
    ∷ word (codes "rounding-mode-half-even") (choice.Mode (Some (mode.Unsigned absolute.HalfEven)))
    ∷ word (codes "rounding-mode-half-odd") (choice.Mode None)
    ∷ word (codes "rounding-mode-half-ceiling") (choice.Mode (Some mode.HalfCeil))
    ∷ word (codes "rounding-mode-half-floor") (choice.Mode (Some mode.HalfFloor))
    ∷ word (codes "rounding-mode-half-down") (choice.Mode (Some (mode.Unsigned absolute.HalfTrunc)))
    ∷ word (codes "rounding-mode-half-up") (choice.Mode (Some (mode.Unsigned absolute.HalfExpand)))
    ∷ word (codes "rounding-mode-unnecessary") (choice.Mode None)
    ∷ word (codes "group-off") (choice.Grouping grouping.Never sizes.Locale)
    ∷ word (codes ",_") (choice.Grouping grouping.Never sizes.Locale)
    ∷ word (codes "group-min2") (choice.Grouping grouping.Min2 sizes.Locale)
    ∷ word (codes ",?") (choice.Grouping grouping.Min2 sizes.Locale)
    ∷ word (codes "group-auto") (choice.Grouping grouping.Auto sizes.Locale)
    ∷ word (codes "group-on-aligned") (choice.Grouping grouping.Always sizes.Locale)
    ∷ word (codes ",!") (choice.Grouping grouping.Always sizes.Locale)
    ∷ word (codes "group-thousands") (choice.Grouping grouping.Always sizes.Thousands)
    ∷ stem_word (codes "integer-width") (choice.Integer no_digits) expected.Integer
    ∷ word (codes "integer-width-trunc") (choice.Integer no_digits)
    ∷ word (codes "latin") (choice.System (Some (padded 16 (codes "latn"))))
    ∷ stem_word (codes "numbering-system") (choice.System None) expected.System
    ∷ word (codes "unit-width-short") (choice.Width (Some display.Symbol))
    ∷ word (codes "unit-width-narrow") (choice.Width (Some display.Narrow))
    ∷ word (codes "unit-width-iso-code") (choice.Width (Some display.Code))
    ∷ word (codes "unit-width-hidden") (choice.Width (Some display.Hidden))
    ∷ word (codes "unit-width-full-name") (choice.Width (Some display.Name))
    ∷ word (codes "unit-width-formal") (choice.Width None)
    ∷ word (codes "unit-width-variant") (choice.Width None)
    ∷ word (codes "sign-auto") (choice.Sign sign.Auto currency.Standard)
    ∷ word (codes "sign-always") (choice.Sign sign.Always currency.Standard)
    ∷ word (codes "+!") (choice.Sign sign.Always currency.Standard)
    ∷ word (codes "sign-never") (choice.Sign sign.Never currency.Standard)
    ∷ word (codes "+_") (choice.Sign sign.Never currency.Standard)
    ∷ word (codes "sign-except-zero") (choice.Sign sign.ExceptZero currency.Standard)
    ∷ word (codes "+?") (choice.Sign sign.ExceptZero currency.Standard)
    ∷ word (codes "sign-negative") (choice.Sign sign.Negative currency.Standard)
    ∷ word (codes "+-") (choice.Sign sign.Negative currency.Standard)
    ∷ word (codes "sign-accounting") (choice.Sign sign.Auto currency.Accounting)
    ∷ word (codes "()") (choice.Sign sign.Auto currency.Accounting)
    ∷ word (codes "sign-accounting-always") (choice.Sign sign.Always currency.Accounting)
    ∷ word (codes "()!") (choice.Sign sign.Always currency.Accounting)
    ∷ word (codes "sign-accounting-except-zero") (choice.Sign sign.ExceptZero currency.Accounting)
    ∷ word (codes "()?") (choice.Sign sign.ExceptZero currency.Accounting)
    ∷ word (codes "sign-accounting-negative") (choice.Sign sign.Negative currency.Accounting)
    ∷ word (codes "()-") (choice.Sign sign.Negative currency.Accounting)
    ∷ word (codes "decimal-auto") (choice.DecimalSeparator separator.Auto)
    ∷ word (codes "decimal-always") (choice.DecimalSeparator separator.Always)
    ∷ stem_word (codes "scale") (choice.Scale one) expected.Scale
    ∷ []

-- the text that is padded with spaces
abbrev pub is_name : List ℕ → List ℕ → Bool
is_name padded text = starts_with nat_eq padded text && (slice_index padded (length text) == 32)

-- a stem that is a word
abbrev pub named : List ℕ → Option Meaning
named text =
    option_map (λ s. record { choice = s.choice; expected = s.expected }) (find (λ s. is_name s.text text) stems)

-- the numbering systems of CLDR whose numbers are not digits from 0 to 9
abbrev pub algorithmic : List (List ℕ)
algorithmic =
    map (padded 16) (codes "armn" ∷ codes "armnlow" ∷ codes "cyrl" ∷ codes "ethi" ∷ codes "geor" ∷ codes "grek"
    ∷ codes "greklow" ∷ codes "hanidays" ∷ codes "hans" ∷ codes "hansfin" ∷ codes "hant" ∷ codes "hantfin"
    ∷ codes "hebr" ∷ codes "jpan" ∷ codes "jpanfin" ∷ codes "jpanyear" ∷ codes "roman" ∷ codes "romanlow"
    ∷ codes "taml" ∷ [])

abbrev pub is_algorithmic : List ℕ → Bool
is_algorithmic text = list_any (λ name. is_name name text) algorithmic
