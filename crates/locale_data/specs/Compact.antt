-- The compact patterns of locales.
use Rattle.std.specs.{Prelude.{◌≡◌, ◌==◌, ◌&&◌, ℕ, ℤ, pos, int_le, Bool, true, false, not, if◌then◌else◌, List, [], ◌∷◌, find, Option, None, Some, option_and_then, slice_get}, Option.{option_or, option_map_or}}
use Rattle.plural_rules.specs.declared.rules.PluralCategory.{PluralCategory}
use Rattle.plural_rules.specs.declared.rules.PluralCategory.TheVariants as category
use Rattle.locale_data.specs.{declared.{tables.{rows.{compact.{AffixText.AffixText, CompactPattern.CompactPattern, CompactRows.CompactRows, CompactRun.CompactRun, CompactSet.CompactSet, PercentUnit.PercentUnit, UnitPattern.UnitPattern}, TableRange.TableRange}, compact.TheConstants.{COMPACT_SETS, COMPACT_EXPONENTS, COMPACT_RUNS, COMPACT_PATTERNS, COMPACT_BYTES, PERCENT_UNITS}}, compact.{CompactPatterns.CompactPatterns, CompactStyle.{CompactStyle, TheVariants.{Short, Long, Currency}}, UnitAffixes.UnitAffixes}, number_formats.NumberFormats.NumberFormats}, Rows.part, Texts.is_text}

-- a number for each plural category, and for the number 1 itself
abbrev pub count_code : Option PluralCategory → ℕ
count_code None = 0
count_code (Some category.Zero) = 1
count_code (Some category.One) = 2
count_code (Some category.Two) = 3
count_code (Some category.Few) = 4
count_code (Some category.Many) = 5
count_code (Some category.Other) = 6

-- the rows of a style
abbrev pub rows_of : CompactSet → CompactStyle → CompactRows
rows_of set Short = set.short
rows_of set Long = set.long
rows_of set Currency = set.currency

-- the run of a magnitude: the first that begins at or below it, and runs are from the highest down
abbrev pub run_at : List CompactRun → ℤ → Option CompactRun
run_at runs magnitude = find (λ r. int_le (pos r.first) magnitude) runs

-- the pattern with a count
abbrev pub pattern_with : Option PluralCategory → List CompactPattern → Option CompactPattern
pattern_with count patterns = find (λ p. count_code p.count == count_code count) patterns

-- the pattern of 1 itself, or else of the category, or else of the other numbers
abbrev pub pattern_for : PluralCategory → Bool → List CompactPattern → Option CompactPattern
pattern_for own is_one patterns =
    option_or (option_or (if is_one then pattern_with None patterns else None)
    (pattern_with (Some own) patterns)) (pattern_with (Some category.Other) patterns)

-- the pattern for a number depends on the number: there is one that is not of `Other`
abbrev pub needs_category : List CompactPattern → Bool
needs_category [] = false
needs_category (p ∷ []) = not (count_code p.count == count_code (Some category.Other))
needs_category (p ∷ (q ∷ patterns)) = true

-- the text in a range
abbrev pub text_of : TableRange → List ℕ
text_of range = part COMPACT_BYTES range

-- the ranges of an affix are texts
abbrev pub has_texts : AffixText → Bool
has_texts affix = is_text COMPACT_BYTES affix.before && is_text COMPACT_BYTES affix.after

pub record AreTexts (pattern : CompactPattern) : Type 0 where
  pub prefix : has_texts pattern.prefix ≡ true
  pub suffix : has_texts pattern.suffix ≡ true

-- the run of a magnitude among the compact patterns of a style
pub record IsRun (f : NumberFormats) (style : CompactStyle) (magnitude : ℤ) (run : Option CompactRun) : Type 0 where
  pub set : CompactSet
  pub listed : slice_get COMPACT_SETS f.compact ≡ Some set
  pub value : run ≡ run_at (part COMPACT_RUNS (rows_of set style).runs) magnitude

-- the exponents of the compact patterns of a style, for the magnitudes 3 to 19
pub record AreExponents (f : NumberFormats) (style : CompactStyle) (exponents : List ℕ) : Type 0 where
  pub set : CompactSet
  pub listed : slice_get COMPACT_SETS f.compact ≡ Some set
  pub value : slice_get COMPACT_EXPONENTS (rows_of set style).exponents ≡ Some exponents

-- the patterns of a part of the table
abbrev pub patterns_in : CompactPatterns → List CompactPattern
patterns_in patterns = part COMPACT_PATTERNS patterns.0

-- the patterns of that run; none if the magnitude has none
abbrev pub compact_patterns : NumberFormats → CompactStyle → ℤ → List CompactPattern
compact_patterns f style magnitude =
    option_map_or (λ run. part COMPACT_PATTERNS run.patterns)
    (option_and_then (λ set. run_at (part COMPACT_RUNS (rows_of set style).runs) magnitude)
    (slice_get COMPACT_SETS f.compact)) []

-- ---- Percent.

abbrev pub has_unit_texts : UnitPattern → Bool
has_unit_texts unit = is_text COMPACT_BYTES unit.prefix && is_text COMPACT_BYTES unit.suffix

abbrev pub IsUnitText : UnitPattern → UnitAffixes → Type 0
IsUnitText unit shown =
    (shown.prefix.now ≡ part COMPACT_BYTES unit.prefix) × (shown.suffix.now ≡ part COMPACT_BYTES unit.suffix)

-- the pattern of a category
abbrev pub unit_for : PercentUnit → PluralCategory → UnitPattern
unit_for unit category.One = unit.one
unit_for unit _ = unit.other

pub record IsUnit (f : NumberFormats) (category : PluralCategory) (shown : UnitAffixes) : Type 0 where
  pub unit : PercentUnit
  pub listed : slice_get PERCENT_UNITS f.unit ≡ Some unit
  pub value : IsUnitText (unit_for unit category) shown
