-- Texts of units without a number, and the numbers that they say: in Somali `Fuudh` is one foot.
use Rattle.std.specs.{Prelude.{◌≡◌, ℕ, ◌==◌, Bool, true, false, ◌&&◌, ◌⊎◌, List, [], ◌++◌, Some, Result, Ok, ℤ}}
use Rattle.decimal_unsigned.specs.{Unsigned.{Unsigned, integer_value}, declared.error.ParseError.{ParseError}}
use Rattle.fixed_decimal.specs.{Decimal.Decimal, declared.variations.{Sign.Sign, SignDisplay.SignDisplay}}
use Rattle.plural_rules.specs.Operands as operands
use Rattle.plural_rules.specs.declared.rules.PluralCategory.{PluralCategory}
use Rattle.locale_names.specs.LocaleUnits.{around_number}
use Rattle.number_format.specs.{declared.{format.{outer.OuterTexts.OuterTexts, formatter.NumberFormatter.NumberFormatter, text_part.PartKind.PartKind}, options.{NumberNotation.NumberNotation}}, AffixedTexts.shifted, CompactReading.{lone_number, HasNoDigit, IsAlone}, NumberText.{around_texts, outer_by}, PatternTexts.{Around, around}, TextParts.pieces_text}

-- ---- The texts.

-- what a unit has around the number, by the plural category; nothing without a unit
abbrev pub unit_around : OuterTexts → PluralCategory → Around
unit_around (OuterTexts.Units rows) c = around_texts PartKind.Unit (around_number rows c)
unit_around texts c = around [] true []

-- the text of a category without the number
abbrev pub unit_text : OuterTexts → PluralCategory → List ℕ
unit_text texts c = pieces_text (unit_around texts c).prefix ++ pieces_text (unit_around texts c).suffix

-- the text is that of a category, which has no number
pub record IsUnitText (texts : OuterTexts) (text : List ℕ) (c : PluralCategory) : Type 0 where
  pub none : (unit_around texts c).has_number ≡ false
  pub is : text ≡ unit_text texts c

-- the text has no number, and says this one by its category
pub record SaysNumber (texts : OuterTexts) (text : List ℕ) (n : ℕ) : Type 0 where
  pub category : PluralCategory
  pub number : lone_number category ≡ Some n
  pub is : IsUnitText texts text category

-- the text says no number without writing it
abbrev pub SaysNone : OuterTexts → List ℕ → Type 0
SaysNone texts text = (n : ℕ) → ¬ SaysNumber texts text n

-- ---- Which are read.

-- no text is that of both `one` and `two`
abbrev pub AreUnitsApart : OuterTexts → Type 0
AreUnitsApart texts =
    (text : List ℕ) → IsUnitText texts text PluralCategory.One → ¬ IsUnitText texts text PluralCategory.Two

-- in standard notation and with no sign written, the text of a category says its number: no other number has the
-- category, the text has no digit, and it is not that of another number
pub record IsUnitRead (f : NumberFormatter) (c : PluralCategory) : Type 0 where
  pub standard : f.options.notation ≡ NumberNotation.Standard
  pub unsigned : f.options.sign_display ≡ SignDisplay.Never
  pub alone : IsAlone f c
  pub no_digit : HasNoDigit f.style.symbols (unit_text f.outer c)
  pub apart : AreUnitsApart f.outer

-- the text of the category has the number, or is read without it
abbrev pub IsCategoryRead : NumberFormatter → PluralCategory → Type 0
IsCategoryRead f c = (outer_by f c).has_number ≡ false → IsUnitRead f c

-- it has no number, and is not read
abbrev pub IsCategoryUnread : NumberFormatter → PluralCategory → Type 0
IsCategoryUnread f c = ((outer_by f c).has_number ≡ false) × ¬ IsUnitRead f c

abbrev pub AreCategoriesRead : NumberFormatter → Type 0
AreCategoriesRead f = (c : PluralCategory) → IsCategoryRead f c

-- ---- Reading.

-- a number without a sign, as 2
abbrev pub said : ℕ → Decimal
said n = record { sign = Sign.None; absolute = integer_value n }

-- the number that the text says, times 10^shift; a text that says none is read otherwise
abbrev pub IsSaidOr : OuterTexts → ℤ → List ℕ → (Result Decimal ParseError → Type 0) → Result Decimal ParseError
    → Type 0
IsSaidOr texts shift text is_read result =
    ((n : ℕ) × SaysNumber texts text n × (result ≡ shifted shift (Ok (said n))))
    ⊎ (SaysNone texts text × is_read result)

-- the number is n, as 2 is `2` and `2.0`
abbrev pub is_number : ℕ → Unsigned → Bool
is_number n v = operands.i v == n && operands.w v == 0

-- w is what the text says of a number u: u itself, or u without fraction digits if the text has no number
abbrev pub IsSaidOf : OuterTexts → List ℕ → Decimal → Decimal → Type 0
IsSaidOf texts text u w =
    (SaysNone texts text × (w ≡ u))
    ⊎ ((n : ℕ) × SaysNumber texts text n × (is_number n u.absolute ≡ true)
    × (w ≡ record { sign = u.sign; absolute = integer_value n }))
