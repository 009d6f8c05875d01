-- The text of a formatted number.
use Rattle.std.specs.Prelude.{◌≡◌, ◌⊎◌, ◌↔◌, ℕ, Bool, true, false, ◌≢◌, IsTrue, if◌then◌else◌, List, [], ◌++◌, Option, Some, None, ℤ}
use Rattle.decimal_unsigned.specs.Unsigned.{Unsigned}
use Rattle.fixed_decimal.specs.Decimal.{Decimal}
use Rattle.decimal_format.specs.{Formatted.{absolute_text, separator_before, separator_after}, Symbols.Symbols, declared.grouping.GroupingStrategy.{GroupingStrategy, TheVariants.Never}}
use Rattle.locale_data.specs.{Compact.{pattern_for, patterns_in}, Plurals.IsCategoryAt, declared.{compact.CompactStyle.CompactStyle, tables.rows.compact.CompactPattern.CompactPattern}}
use Rattle.plural_rules.specs.Operands as operands
use Rattle.plural_rules.specs.declared.rules.PluralCategory.{PluralCategory}
use Rattle.number_format.specs.{declared.{notation.scale.ShownNumber.ShownNumber, options.NumberNotation.NumberNotation, format.{outer.OuterAround.OuterAround, compact.CompactChoice.CompactChoice, formatted_number.{FormattedNumber.FormattedNumber, NumberAround.NumberAround}, formatter.NumberFormatter.NumberFormatter, text_part.PartKind.PartKind}}, NumberText.{around_by, bare_separator, hides_zero, compact_style, compact_pattern, compact_magnitude, has_categories, is_one, number_before_cut, shown_number, outer_by, outer_operands, exponent_of, number_part, AreParts}, PatternTexts.{Around, sign_text, within}, Scaled.{ScaledValue, scaled_value}, TextParts.{Piece, digit_if, digit_pieces, parts_text, pieces_of, pieces_text}}

-- the compact pattern that is chosen, in compact notation
abbrev pub chosen_pattern : Option CompactStyle → CompactChoice → Option CompactPattern
chosen_pattern None choice = None
chosen_pattern (Some style) choice = pattern_for choice.category choice.is_one (patterns_in choice.patterns)

abbrev pub pattern_of : FormattedNumber → Option CompactPattern
pattern_of n =
    chosen_pattern (compact_style n.formatter.now.options.notation n.formatter.now.options.style) n.choice

-- what is around the number
abbrev pub around_of : FormattedNumber → Around
around_of n = around_by n.formatter.now.style n.value.sign (pattern_of n)

-- and around the whole text
abbrev pub outer_of : FormattedNumber → Around
outer_of n = outer_by n.formatter.now n.whole

-- the pieces of the digits and of the exponent
abbrev pub number_pieces : FormattedNumber → List Piece
number_pieces n =
    number_part n.formatter.now n.value.absolute (exponent_of n.formatter.now.options.notation n.exponent)

-- the pieces of a text, with their kinds
abbrev pub formatted_number_pieces : FormattedNumber → List Piece
formatted_number_pieces n = within (outer_of n) (within (around_of n) (number_pieces n))

-- the text: that of the pieces
abbrev pub formatted_number_text : FormattedNumber → List ℕ
formatted_number_text n = pieces_text (formatted_number_pieces n)

-- ---- Private: used only in the contracts of private functions.

-- an exponent: its separator, its sign and its digits, which are not grouped
abbrev pub exponent_text : NumberFormatter → Option Decimal → List ℕ
exponent_text f None = []
exponent_text f (Some e) =
    f.separator.text.now ++ (sign_text f.style.symbols e.sign ++ absolute_text f.style.symbols Never e.absolute)

-- the decimal separator of a number without fraction digits, if it is always written
abbrev pub separator_of : FormattedNumber → List ℕ
separator_of n =
    bare_separator n.formatter.now.options.decimal_separator n.formatter.now.style.symbols n.value.absolute

-- the digits of a value, of which the integer digits may be hidden
abbrev pub visible_text : Bool → Symbols → GroupingStrategy → Unsigned → List ℕ
visible_text false s strategy v = absolute_text s strategy v
visible_text true s strategy v = pieces_text (digit_pieces true PartKind.Integer s strategy v)

-- a magnitude of which integer digits are hidden
abbrev pub fraction_magnitude : Symbols → GroupingStrategy → Unsigned → ℤ → List ℕ
fraction_magnitude s strategy v m =
    separator_before s m ++ (digit_if true s v.number m ++ separator_after s strategy v.hi m)

-- the number begins with the decimal separator
abbrev pub hides_zero_of : FormattedNumber → Bool
hides_zero_of n =
    hides_zero n.formatter.now.digits n.formatter.now.options.decimal_separator n.value.absolute

-- the digits of the significand
abbrev pub digits_of : FormattedNumber → List ℕ
digits_of n =
    visible_text (hides_zero_of n) n.formatter.now.style.symbols n.formatter.now.options.grouping n.value.absolute

-- the same with that separator
abbrev pub significand_text : FormattedNumber → List ℕ
significand_text n = digits_of n ++ separator_of n

-- and the exponent
abbrev pub number_text : FormattedNumber → List ℕ
number_text n =
    significand_text n
    ++ exponent_text n.formatter.now (exponent_of n.formatter.now.options.notation n.exponent)

-- the pieces of these, if the text has a number
abbrev pub number_pieces_if : FormattedNumber → Bool → List Piece
number_pieces_if n has_number = if has_number then number_pieces n else []

-- the same text, if the text has a number
abbrev pub number_text_if : FormattedNumber → Bool → List ℕ
number_text_if n has_number = if has_number then number_text n else []

-- the number with what is around it
abbrev pub around_text : FormattedNumber → Around → List ℕ
around_text n a = pieces_text a.prefix ++ (number_text_if n a.has_number ++ pieces_text a.suffix)

-- the same with what is around the number
abbrev pub inner_text : FormattedNumber → List ℕ
inner_text n = around_text n (around_of n)

abbrev pub inner_pieces : FormattedNumber → List Piece
inner_pieces n = within (around_of n) (number_pieces n)

-- these, if the pattern of the unit or the name has a number
abbrev pub inner_text_if : FormattedNumber → Bool → List ℕ
inner_text_if n has_number = if has_number then inner_text n else []

-- texts of one kind, one after another, are what is around the whole text
pub record IsOuter (a : Around) (shown : OuterAround) : Type 0 where
  pub prefix : pieces_of shown.kind (parts_text shown.before) ≡ a.prefix
  pub has_number : shown.has_number ≡ a.has_number
  pub suffix : pieces_of shown.kind (parts_text shown.after) ≡ a.suffix

-- what is around the number and the whole text, and the exponent that is shown
pub record IsNumberAround (n : FormattedNumber) (shown : NumberAround) : Type 0 where
  pub outer : IsOuter (outer_of n) shown.outer
  pub affixes : AreParts (around_of n) shown.affixes
  pub exponent : shown.exponent ≡ exponent_of n.formatter.now.options.notation n.exponent

-- what chooses the same compact pattern as a significand does
pub record ChoosesPattern (f : NumberFormatter) (significand : Decimal) (e : ℤ) (choice : CompactChoice)
    : Type 0 where
  pub category : PluralCategory
  pub of_significand : IsCategoryAt f.rules (operands.plain significand.absolute) category
  pub pattern :
      let style = compact_style f.options.notation f.options.style in
      chosen_pattern style choice
      ≡ compact_pattern f.formats style (compact_magnitude f.notation significand e) category (is_one significand)

-- the category is that of the number, or the same texts are around the whole text by each category
pub record ChoosesOuter (f : NumberFormatter) (v : Decimal) (number : ScaledValue) (chosen : PluralCategory)
    : Type 0 where
  pub category : PluralCategory
  pub of_whole : IsCategoryAt f.rules (outer_operands f v number) category
  pub same : (chosen ≡ category) ⊎ ((a b : PluralCategory) → outer_by f a ≡ outer_by f b)

-- what chooses these before the number is rounded; in standard notation they are chosen after that
abbrev pub ChoosesWhole : NumberFormatter → Decimal → PluralCategory → Type 0
ChoosesWhole f v chosen =
    (number : ScaledValue) → shown_number f v ≡ Some number
    → (has_categories f ≡ true → f.options.notation ≢ NumberNotation.Standard) → ChoosesOuter f v number chosen

-- what is known of a rounded number: its significand, its exponent, and whether it is 0 before digits are cut off
pub record IsShownNumber (f : NumberFormatter) (v significand : Decimal) (shown : ShownNumber) : Type 0 where
  pub number_is : shown_number f v ≡ Some (scaled_value significand shown.exponent)
  pub zero : IsTrue shown.is_zero ↔ (number_before_cut f v ≡ 0)
