-- The formatter of ranges that `format:LOCALE[:GROUPING|:SKELETON]` names.
use Rattle.std.specs.Prelude.{◌≡◌, ◌⊎◌, ℕ, List, Some, None, IsSome, Ok}
use Rattle.decimal_format.specs.declared.grouping.GroupingStrategy.{GroupingStrategy}
use Rattle.fixed_decimal.specs.declared.variations.SignDisplay.{SignDisplay}
use Rattle.number_format.specs.{declared.{format.{formatter.NumberFormatter.NumberFormatter, ids.NumberFormatError.NumberFormatError}, options.NumberOptions.NumberOptions}, DefaultOptions.default_options, Formatters.{IsFormatter, IsRangeFormatter, IsFormatterError}, FormattedRanges.AreRangeTexts}
use Rattle.number_skeleton.specs.Meaning.{skeleton_options, options_value}
use Rattle.conversions.specs.{declared.{error.FormError.FormError, range_formatter.{RangeFormatter.RangeFormatter, RangeNumbers.{RangeNumbers, TheVariants.{AllDigits, Skeleton}}, SignedFormatters.SignedFormatters}}, FormatWord.{strategy_of, IsSkeletonOption, IsErrorOfFormatter, NumberFormatterFails, IsEmptyOption}, Parameters.{locale_tag, locale_option}, RangeText.system_of}

-- the options of numbers with all digits, by a strategy and a sign display
abbrev pub all_digits : GroupingStrategy → SignDisplay → NumberOptions
all_digits strategy display = record default_options { grouping = strategy; sign_display = display }

-- these formatters show all digits, each with its sign display
pub record AreSignedFormatters (tag : List ℕ) (strategy : GroupingStrategy) (f : SignedFormatters) : Type 0 where
  pub auto : IsFormatter tag (all_digits strategy SignDisplay.Auto) f.auto
  pub always : IsFormatter tag (all_digits strategy SignDisplay.Always) f.always
  pub except_zero : IsFormatter tag (all_digits strategy SignDisplay.ExceptZero) f.except_zero

-- the formatter of ranges of a locale and of the options that a skeleton names
abbrev pub IsRangeNumberFormatter : List ℕ → List ℕ → NumberFormatter → Type 0
IsRangeNumberFormatter tag text f =
    (o : NumberOptions) × (skeleton_options text ≡ Ok (options_value o)) × IsRangeFormatter tag o f

-- `format:..` names this way to write the numbers of a range
abbrev pub NamesRangeNumbers : List ℕ → RangeNumbers → Type 0
NamesRangeNumbers format (AllDigits f) =
    (strategy : GroupingStrategy) × (strategy_of (locale_option format) ≡ Some strategy)
    × AreSignedFormatters (locale_tag format) strategy f
NamesRangeNumbers format (Skeleton f) =
    (text : List ℕ) × IsSkeletonOption (locale_option format) text × IsRangeNumberFormatter (locale_tag format) text f

-- `format:..` names this formatter of ranges
abbrev pub NamesRangeFormatter : List ℕ → RangeFormatter → Type 0
NamesRangeFormatter format f =
    NamesRangeNumbers format f.numbers × AreRangeTexts (locale_tag format) (system_of f.numbers) f.texts

-- ---- Errors.

-- the locale with this tag has no formatter of all digits
abbrev pub AllDigitsFail : List ℕ → FormError → Type 0
AllDigitsFail tag error =
    (why : NumberFormatError) × IsFormatterError tag None why × IsErrorOfFormatter tag why error

-- `format:..` names no formatter of ranges: the option is empty; or it is that of a strategy, and the locale has no
-- formatter; or there is no formatter by the skeleton
abbrev pub RangeFormatterFails : List ℕ → FormError → Type 0
RangeFormatterFails format error =
    IsEmptyOption format error
    ⊎ ((IsSome (strategy_of (locale_option format)) × AllDigitsFail (locale_tag format) error)
    ⊎ ((text : List ℕ) × IsSkeletonOption (locale_option format) text
    × NumberFormatterFails (locale_tag format) text error))
