-- The texts of symbols.
use Rattle.std.specs.Prelude.{ℕ, List, [], ◌∷◌}
use Rattle.locale_data.specs.declared.tables.rows.symbols.Symbol.{Symbol, TheVariants.{Period, Comma, NoBreakSpace, NarrowNoBreakSpace, RightQuote, Apostrophe, ArabicComma, ReversedComma, ArabicDecimal, ArabicThousands, Hyphen, Minus, Plus, ArabicHyphen, ArabicMinus, ArabicPlus, LeftHyphen, LeftMinus, LeftPlus, RightHyphen, RightPlus, EnclosedHyphen, EnclosedMinus, EnclosedPlus, PlusLeft}}

-- the bytes of a symbol in UTF-8; 216 ∷ 156 is U+061C, 226 ∷ 128 ∷ 142 and 143 are U+200E and U+200F
abbrev pub symbol_text : Symbol → List ℕ
symbol_text Period = 46 ∷ []
symbol_text Comma = 44 ∷ []
symbol_text NoBreakSpace = 194 ∷ 160 ∷ []
symbol_text NarrowNoBreakSpace = 226 ∷ 128 ∷ 175 ∷ []
symbol_text RightQuote = 226 ∷ 128 ∷ 153 ∷ []
symbol_text Apostrophe = 39 ∷ []
symbol_text ArabicComma = 216 ∷ 140 ∷ []
symbol_text ReversedComma = 226 ∷ 185 ∷ 129 ∷ []
symbol_text ArabicDecimal = 217 ∷ 171 ∷ []
symbol_text ArabicThousands = 217 ∷ 172 ∷ []
symbol_text Hyphen = 45 ∷ []
symbol_text Minus = 226 ∷ 136 ∷ 146 ∷ []
symbol_text Plus = 43 ∷ []
symbol_text ArabicHyphen = 216 ∷ 156 ∷ 45 ∷ []
symbol_text ArabicMinus = 216 ∷ 156 ∷ 226 ∷ 136 ∷ 146 ∷ []
symbol_text ArabicPlus = 216 ∷ 156 ∷ 43 ∷ []
symbol_text LeftHyphen = 226 ∷ 128 ∷ 142 ∷ 45 ∷ []
symbol_text LeftMinus = 226 ∷ 128 ∷ 142 ∷ 226 ∷ 136 ∷ 146 ∷ []
symbol_text LeftPlus = 226 ∷ 128 ∷ 142 ∷ 43 ∷ []
symbol_text RightHyphen = 226 ∷ 128 ∷ 143 ∷ 45 ∷ []
symbol_text RightPlus = 226 ∷ 128 ∷ 143 ∷ 43 ∷ []
symbol_text EnclosedHyphen = 226 ∷ 128 ∷ 142 ∷ 45 ∷ 226 ∷ 128 ∷ 142 ∷ []
symbol_text EnclosedMinus = 226 ∷ 128 ∷ 142 ∷ 226 ∷ 136 ∷ 146 ∷ 226 ∷ 128 ∷ 142 ∷ []
symbol_text EnclosedPlus = 226 ∷ 128 ∷ 142 ∷ 43 ∷ 226 ∷ 128 ∷ 142 ∷ []
symbol_text PlusLeft = 43 ∷ 226 ∷ 128 ∷ 142 ∷ []
