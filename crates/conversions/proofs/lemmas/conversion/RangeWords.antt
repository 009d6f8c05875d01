-- The errors of a word that names a formatter of ranges.
use Rattle.std.proofs.Common.{ℕ, List, inl, inr, ap}
use Rattle.std.specs.Prelude.{is_some}
use Rattle.locale_data.specs.Locales.{IsUnknown}
use Rattle.number_format.specs.declared.format.ids.NumberFormatError.TheVariants as formatter
use Rattle.conversions.specs.{declared.{error.FormError.TheVariants.UnknownLocale, range_formatter.RangeNumbers.{RangeNumbers, TheVariants.{AllDigits, Skeleton}}, shown_word.ShownWord.ShownWord}, Parameters.locale_tag, RangeWord.{NamesRangeNumbers, RangeFormatterFails}, ShownWord.IsShown}

-- the locale is unknown
pub texts_fail :
    (format : List ℕ) (numbers : RangeNumbers) (shown : ShownWord) → NamesRangeNumbers format numbers
    → IsUnknown (locale_tag format) → IsShown (locale_tag format) shown
    → RangeFormatterFails format (UnknownLocale shown)
texts_fail format (AllDigits f) shown (strategy, is, made) unknown s =
    inr (inl (ap is_some is, (formatter.UnknownLocale, inl unknown, s)))
texts_fail format (Skeleton f) shown (text, is, (o, options, made)) unknown s =
    inr (inr (text, is, inr (o, options, (formatter.UnknownLocale, inl unknown, s))))
