-- The texts and the affixes of patterns.
use Rattle.std.specs.Prelude.{ℕ, List, [], ◌∷◌}
use Rattle.fixed_decimal.specs.declared.variations.Sign.{Sign}
use Rattle.fixed_decimal.specs.declared.variations.Sign.TheVariants as sign
use Rattle.locale_data.specs.declared.tables.rows.patterns.{AffixPair.AffixPair, ExponentSeparator.ExponentSeparator, MoneySeparator.MoneySeparator, Pattern.Pattern, PercentSign.PercentSign, PermilleSign.PermilleSign, Piece.{Piece, TheVariants.{OpenParenthesis, CloseParenthesis, NoBreakSpace, NarrowNoBreakSpace, ArabicMark, LeftMark, RightMark}}}
use Rattle.locale_data.specs.declared.tables.rows.patterns.ExponentSeparator.TheVariants as exponent
use Rattle.locale_data.specs.declared.tables.rows.patterns.MoneySeparator.TheVariants as separator
use Rattle.locale_data.specs.declared.tables.rows.patterns.PercentSign.TheVariants as percent
use Rattle.locale_data.specs.declared.tables.rows.patterns.PermilleSign.TheVariants as permille

-- the bytes of a piece in UTF-8; 216 ∷ 156 is U+061C, 226 ∷ 128 ∷ 142 and 143 are U+200E and U+200F
abbrev pub literal_text : Piece → List ℕ
literal_text OpenParenthesis = 40 ∷ []
literal_text CloseParenthesis = 41 ∷ []
literal_text NoBreakSpace = 194 ∷ 160 ∷ []
literal_text NarrowNoBreakSpace = 226 ∷ 128 ∷ 175 ∷ []
literal_text ArabicMark = 216 ∷ 156 ∷ []
literal_text LeftMark = 226 ∷ 128 ∷ 142 ∷ []
literal_text RightMark = 226 ∷ 128 ∷ 143 ∷ []
literal_text _ = []

-- the affixes of a number that is shown with a sign
abbrev pub affixes_of : Pattern → Sign → AffixPair
affixes_of pattern sign.None = pattern.positive
affixes_of pattern sign.Negative = pattern.negative
affixes_of pattern sign.Positive = pattern.plus

-- the bytes of a separator of money in UTF-8
abbrev pub separator_text : MoneySeparator → List ℕ
separator_text separator.Period = 46 ∷ []
separator_text separator.Comma = 44 ∷ []
separator_text separator.NoBreakSpace = 194 ∷ 160 ∷ []
separator_text separator.NarrowNoBreakSpace = 226 ∷ 128 ∷ 175 ∷ []
separator_text separator.Dollar = 36 ∷ []

-- the bytes of an exponent separator in UTF-8: `E`, `e`, `^`, `×10^`, `·10^`, that with U+06F1 and U+06F0, U+0623 or
-- U+0627 before U+0633, U+0415, U+1E909
abbrev pub exponent_text : ExponentSeparator → List ℕ
exponent_text exponent.LatinCapitalE = 69 ∷ []
exponent_text exponent.LatinSmallE = 101 ∷ []
exponent_text exponent.Caret = 94 ∷ []
exponent_text exponent.TimesTen = 195 ∷ 151 ∷ 49 ∷ 48 ∷ 94 ∷ []
exponent_text exponent.DotTen = 194 ∷ 183 ∷ 49 ∷ 48 ∷ 94 ∷ []
exponent_text exponent.TimesArabicTen = 195 ∷ 151 ∷ 219 ∷ 177 ∷ 219 ∷ 176 ∷ 94 ∷ []
exponent_text exponent.ArabicHamza = 216 ∷ 163 ∷ 216 ∷ 179 ∷ []
exponent_text exponent.ArabicAlef = 216 ∷ 167 ∷ 216 ∷ 179 ∷ []
exponent_text exponent.CyrillicIe = 208 ∷ 149 ∷ []
exponent_text exponent.AdlamMiim = 240 ∷ 158 ∷ 164 ∷ 137 ∷ []

-- the bytes of a percent sign in UTF-8; 217 ∷ 170 is U+066A
abbrev pub percent_text : PercentSign → List ℕ
percent_text percent.Percent = 37 ∷ []
percent_text percent.Arabic = 217 ∷ 170 ∷ []
percent_text percent.ArabicBeforeArabicMark = 217 ∷ 170 ∷ 216 ∷ 156 ∷ []
percent_text percent.ArabicBeforeRightMark = 217 ∷ 170 ∷ 226 ∷ 128 ∷ 143 ∷ []
percent_text percent.Enclosed = 226 ∷ 128 ∷ 142 ∷ 37 ∷ 226 ∷ 128 ∷ 142 ∷ []
percent_text percent.Tilde = 126 ∷ []

-- the bytes of a per mille sign in UTF-8: U+2030, U+0609, U+0609 before U+200F, `0/00`
abbrev pub permille_text : PermilleSign → List ℕ
permille_text permille.Permille = 226 ∷ 128 ∷ 176 ∷ []
permille_text permille.Arabic = 216 ∷ 137 ∷ []
permille_text permille.ArabicBeforeRightMark = 216 ∷ 137 ∷ 226 ∷ 128 ∷ 143 ∷ []
permille_text permille.Ascii = 48 ∷ 47 ∷ 48 ∷ 48 ∷ []
