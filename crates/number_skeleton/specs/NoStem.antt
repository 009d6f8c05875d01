-- The options that no skeleton names.
use Rattle.std.specs.{Prelude.{ℕ, ◌==◌, Bool, true, false, ◌||◌, ◌&&◌, not, List, Option, Some, None, Result, Ok, Err}, List.list_any, Str.bytes_eq}
use Rattle.fixed_decimal.specs.declared.variations.SignDisplay.{SignDisplay, TheVariants.Never}
use Rattle.locale_data.specs.{declared.{currency.CurrencySign.{CurrencySign, TheVariants.Accounting}, tables.symbols.TheConstants.NUMBERING_SYSTEMS}, Rows.unpadded}
use Rattle.decimal_format.specs.declared.grouping.GroupingStrategy.{GroupingStrategy, TheVariants.Always}
use Rattle.number_format.specs.{declared.{options.{CurrencyUsage.{CurrencyUsage, TheVariants.Cash}, GroupSizes.{GroupSizes, TheVariants.Thousands}, NumberNotation.{NumberNotation, TheVariants.{Scientific, Engineering}}}, digits.precision.Minimum.TheVariants.Both}, DefaultDigits.{is_compact, currency_digits}}
use Rattle.number_skeleton.specs.{declared.error.SkeletonError.SkeletonError, Digits.{PrecisionValue, Fraction, Multiples, More, Less, DigitsValue, money_precision}, Meaning.{OptionsValue, StyleValue, Permille, Money}}

-- an exponent of no digit
abbrev pub is_unnamed_notation : NumberNotation → Bool
is_unnamed_notation (Scientific e) = e.digits == 0
is_unnamed_notation (Engineering e) = e.digits == 0
is_unnamed_notation n = false

abbrev pub hides_accounting : CurrencySign → SignDisplay → Bool
hides_accounting Accounting Never = true
hides_accounting sign display = false

-- permille in compact notation, and signs of accounting that are never shown
abbrev pub is_unnamed_style : Bool → SignDisplay → StyleValue → Bool
is_unnamed_style compact display Permille = compact
is_unnamed_style compact display (Money c) = hides_accounting c.sign display
is_unnamed_style compact display style = false

-- `.00/@@@*` and `.00/@##` show both minima, and that of the significant digits is 1
abbrev pub has_other_minimum : PrecisionValue → Bool
has_other_minimum (More f s Both) = not (s.0 == 1)
has_other_minimum (Less f s Both) = not (s.0 == 1)
has_other_minimum p = false

abbrev pub is_same_money : PrecisionValue → PrecisionValue → Bool
is_same_money (Fraction f) (Fraction g) = (f.0 == g.0) && (f.1 == g.1)
is_same_money (Multiples m) (Multiples n) = (m.0 == n.0) && (m.1 == n.1)
is_same_money p q = false

abbrev pub is_money : Result PrecisionValue SkeletonError → PrecisionValue → Bool
is_money (Ok money) p = is_same_money money p
is_money (Err e) p = false

-- the digits and the increment that a currency has for cash
abbrev pub is_cash_of : List ℕ → PrecisionValue → Bool
is_cash_of code p = is_money (money_precision (currency_digits Cash code) (record { start = 0; end = 0 })) p

-- cash with other digits than those of the currency
abbrev pub has_other_cash : StyleValue → PrecisionValue → Bool
has_other_cash (Money c) p = by_usage c.usage where
  by_usage : CurrencyUsage → Bool
  by_usage Cash = not (is_cash_of c.code p)
  by_usage usage = false
has_other_cash style p = false

-- all skeletons have digits
abbrev pub are_unnamed_digits : StyleValue → Option DigitsValue → Bool
are_unnamed_digits style None = true
are_unnamed_digits style (Some d) = has_other_minimum d.precision || has_other_cash style d.precision

abbrev pub is_listed : List ℕ → Bool
is_listed name = list_any (λ s. bytes_eq (unpadded s.name) name) NUMBERING_SYSTEMS

-- a numbering system that is not in the table
abbrev pub is_unnamed_system : Option (List ℕ) → Bool
is_unnamed_system None = false
is_unnamed_system (Some name) = not (is_listed name)

-- groups of three by another strategy than `Always`
abbrev pub are_unnamed_groups : GroupSizes → GroupingStrategy → Bool
are_unnamed_groups Thousands Always = false
are_unnamed_groups Thousands strategy = true
are_unnamed_groups sizes strategy = false

-- an option of these has no stem
abbrev pub has_no_stem : OptionsValue → Bool
has_no_stem o =
    is_unnamed_notation o.notation
    || (is_unnamed_style (is_compact o.notation) o.sign_display o.style
    || (are_unnamed_digits o.style o.digits
    || (are_unnamed_groups o.group_sizes o.grouping || is_unnamed_system o.numbering_system)))
