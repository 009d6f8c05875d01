-- What a pattern writes before and after a number.
use Rattle.std.specs.Prelude.{ℕ, Bool, true, ◌&&◌, if◌then◌else◌, List, [], ◌∷◌, ◌++◌}
use Rattle.fixed_decimal.specs.declared.variations.Sign.{Sign}
use Rattle.decimal_format.specs.Symbols.{Symbols, Affixes, affixes, sign_affixes}
use Rattle.locale_data.specs.{Patterns.{literal_text, affixes_of}, declared.tables.rows.patterns.{Affix.Affix, Piece.Piece}}
use Rattle.number_format.specs.{NumberStyles.{currency_text, ends_with_currency, begins_with_currency}, TextParts.{pieces_text, pieces_of}, declared.format.{affixes.StyleTexts.StyleTexts, text_part.PartKind.PartKind}}
use Rattle.number_format.specs.TextParts as parts

-- pieces before and after a number, or instead of it
pub record Around : Type 0 where
  pub prefix : List parts.Piece
  pub has_number : Bool
  pub suffix : List parts.Piece

abbrev pub around : List parts.Piece → Bool → List parts.Piece → Around
around prefix has_number suffix = record { prefix = prefix; has_number = has_number; suffix = suffix }

-- what is written where a pattern has its number
abbrev pub within : Around → List parts.Piece → List parts.Piece
within a pieces = a.prefix ++ ((if a.has_number then pieces else []) ++ a.suffix)

abbrev pub literal : List ℕ → List parts.Piece
literal text = pieces_of PartKind.Literal text

-- a sign
abbrev pub sign_text : Symbols → Sign → List ℕ
sign_text symbols s = (sign_affixes symbols s).prefix

abbrev pub sign_kind : Sign → PartKind
sign_kind Sign.Positive = PartKind.PlusSign
sign_kind other = PartKind.MinusSign

abbrev pub sign_pieces : Symbols → Sign → List parts.Piece
sign_pieces symbols s = pieces_of (sign_kind s) (sign_text symbols s)

-- a piece of a pattern
abbrev pub pattern_kind : StyleTexts → Piece → PartKind
pattern_kind t Piece.Minus = PartKind.MinusSign
pattern_kind t Piece.Plus = PartKind.PlusSign
pattern_kind t Piece.Percent = t.percent.kind
pattern_kind t Piece.Currency = PartKind.Currency
pattern_kind t other = PartKind.Literal

abbrev pub pattern_text : StyleTexts → Piece → List ℕ
pattern_text t Piece.Minus = sign_text t.symbols Sign.Negative
pattern_text t Piece.Plus = sign_text t.symbols Sign.Positive
pattern_text t Piece.Percent = t.percent.text.now
pattern_text t Piece.Currency = currency_text t.currency
pattern_text t other = literal_text other

abbrev pub pattern_pieces : StyleTexts → Piece → List parts.Piece
pattern_pieces t p = pieces_of (pattern_kind t p) (pattern_text t p)

-- an affix, by the pieces of its pieces
abbrev pub affix_pieces : (Piece → List parts.Piece) → Affix → List parts.Piece
affix_pieces of a = of a.first ++ (of a.second ++ (of a.third ++ of a.fourth))

-- a space, U+00A0, if a currency needs one beside a digit
abbrev pub space_if : Bool → List parts.Piece
space_if needed = if needed then literal (194 ∷ 160 ∷ []) else []

-- the pattern of a style, for a sign
abbrev pub pattern_around : StyleTexts → Sign → Around
pattern_around t s =
    let pieces = pattern_pieces t in
    let prefix = (affixes_of t.pattern s).prefix in
    let suffix = (affixes_of t.pattern s).suffix in
    around (affix_pieces pieces prefix ++ space_if (ends_with_currency prefix && t.currency.space_after)) true
    (space_if (begins_with_currency suffix && t.currency.space_before) ++ affix_pieces pieces suffix)

-- what is written around a number that is shown with a sign
abbrev pub affixes_for : StyleTexts → Sign → Affixes
affixes_for t s =
    affixes (pieces_text (pattern_around t s).prefix) (pieces_text (pattern_around t s).suffix)
