-- The texts of ranges of numbers.
use Rattle.std.specs.{Prelude.{◌≡◌, ℕ, List, [], ◌∷◌, codes, Option}, Option.{option_map_or, option_or}}
use Rattle.locale_data.specs.{declared.tables.{rows.ranges.{ApproximatelySign.{ApproximatelySign, TheVariants.{TildeOperator, AsymptoticallyEqual, AlmostEqual, Yaku, Circa, Daasi, Daashi}}, LocaleRange.LocaleRange, RangeFormat.RangeFormat, RangeSeparator.{RangeSeparator, TheVariants.{SpacedHyphen, FigureDash, EnDash, SpacedEnDash, ThinSpacedEnDash, EmDash, FullwidthTilde}}, RangeSystem.RangeSystem}, ranges.TheConstants.{LOCALE_RANGES, RANGES_BY_SYSTEM, RANGE_SYSTEMS, ROOT_RANGE}}, Rows.{part, row_named, IsRowOf}, Tag.compared}
use Rattle.locale_data.specs.declared.tables.rows.ranges.RangeSeparator.TheVariants as separator
use Rattle.locale_data.specs.declared.tables.rows.ranges.ApproximatelySign.TheVariants as sign

-- the bytes of a separator in UTF-8; 226 ∷ 128 ∷ 137, 146, 147 and 148 are U+2009, U+2012, U+2013 and U+2014
abbrev pub separator_text : RangeSeparator → List ℕ
separator_text separator.Hyphen = 45 ∷ []
separator_text SpacedHyphen = 32 ∷ 45 ∷ 32 ∷ []
separator_text FigureDash = 226 ∷ 128 ∷ 146 ∷ []
separator_text EnDash = 226 ∷ 128 ∷ 147 ∷ []
separator_text SpacedEnDash = 32 ∷ 226 ∷ 128 ∷ 147 ∷ 32 ∷ []
separator_text ThinSpacedEnDash = 226 ∷ 128 ∷ 137 ∷ 226 ∷ 128 ∷ 147 ∷ 226 ∷ 128 ∷ 137 ∷ []
separator_text EmDash = 226 ∷ 128 ∷ 148 ∷ []
separator_text separator.Tilde = 126 ∷ []
separator_text FullwidthTilde = 239 ∷ 189 ∷ 158 ∷ []

-- the bytes of a sign in UTF-8
abbrev pub sign_text : ApproximatelySign → List ℕ
sign_text sign.Tilde = 126 ∷ []
sign_text TildeOperator = 226 ∷ 136 ∷ 188 ∷ []
sign_text AsymptoticallyEqual = 226 ∷ 137 ∷ 131 ∷ []
sign_text AlmostEqual = 226 ∷ 137 ∷ 136 ∷ []
sign_text sign.Hyphen = 45 ∷ []
sign_text Yaku = 231 ∷ 180 ∷ 132 ∷ []
sign_text Circa = codes "ca."
sign_text Daasi = 100 ∷ 195 ∷ 161 ∷ 195 ∷ 160 ∷ 225 ∷ 185 ∷ 163 ∷ 195 ∷ 172 ∷ []
sign_text Daashi = 100 ∷ 195 ∷ 161 ∷ 195 ∷ 160 ∷ 115 ∷ 104 ∷ 195 ∷ 172 ∷ []

-- the rows of a numbering system, if locales have texts of their own in it
abbrev pub rows_in : List ℕ → List LocaleRange
rows_in name =
    option_map_or (λ system. part RANGES_BY_SYSTEM system.rows)
    (row_named (λ s. s.name) RANGE_SYSTEMS (compared name)) []

-- the texts are those of the locale with the longest tag that is a prefix of a tag: in a numbering system, or else in
-- `latn`, or else of root
pub record IsRangeFormat (tag system : List ℕ) (format : RangeFormat) : Type 0 where
  pub own : Option LocaleRange
  pub latin : Option LocaleRange
  pub in_system : IsRowOf (λ l. l.tag) (rows_in system) tag own
  pub in_latin : IsRowOf (λ l. l.tag) LOCALE_RANGES tag latin
  pub value : format ≡ option_map_or (λ l. l.format) (option_or own latin) ROOT_RANGE
