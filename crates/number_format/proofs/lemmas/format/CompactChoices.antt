-- What chooses compact patterns.
use Rattle.std.proofs.Common.{◌≡◌, Option, ap, sym, subst, ℤ, ◌∙◌}
use Rattle.std.specs.Prelude.{slice_get}
use Rattle.fixed_decimal.specs.Decimal.{Decimal}
use Rattle.plural_rules.specs.Operands as operands
use Rattle.plural_rules.specs.declared.rules.PluralCategory.{PluralCategory}
use Rattle.locale_data.specs.{declared.{compact.{CompactStyle.CompactStyle, UnitAffixes.UnitAffixes}, tables.compact.TheConstants.PERCENT_UNITS, number_formats.NumberFormats.NumberFormats}, Compact.IsUnit, Plurals.IsCategoryAt}
use Rattle.number_format.specs.{declared.format.{compact.CompactChoice.CompactChoice, formatter.NumberFormatter.NumberFormatter}, FormattedNumbers.{chosen_pattern, ChoosesPattern}, NumberText.{compact_magnitude, compact_pattern, compact_style, is_one, percent_texts, with_number}}

pub percent_are : (f : NumberFormats) (category : PluralCategory) (shown : UnitAffixes) → IsUnit f category shown
    → with_number shown.prefix.now shown.suffix.now ≡ percent_texts (slice_get PERCENT_UNITS f.unit) category
percent_are f category shown is =
    (λ i. with_number (is.value.0 i) (is.value.1 i)) ∙ ap (λ unit. percent_texts unit category) (sym is.listed)

-- the pattern of a style that is that of the formatter's options
pub chooses : (f : NumberFormatter) (significand : Decimal) (e : ℤ) (choice : CompactChoice)
    (style : Option CompactStyle)
    → compact_style f.options.notation f.options.style ≡ style → (category : PluralCategory)
    → IsCategoryAt f.rules (operands.plain significand.absolute) category
    → chosen_pattern style choice
    ≡ compact_pattern f.formats style (compact_magnitude f.notation significand e) category (is_one significand)
    → ChoosesPattern f significand e choice
chooses f significand e choice style is category of pattern = record {
  category = category;
  of_significand = of;
  pattern =
      subst (λ s. chosen_pattern s choice
      ≡ compact_pattern f.formats s (compact_magnitude f.notation significand e) category (is_one significand))
      (sym is) pattern;
}
