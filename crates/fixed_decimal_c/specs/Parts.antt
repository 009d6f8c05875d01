-- The parts of a text, as C receives them.
use Rattle.std.specs.Prelude.{◌≡◌, ℕ, zero, suc, ◌+◌, ◌^◌, ◌<◌, ◌≤◌, ◌⊎◌, ◌==◌, if◌then◌else◌, List, [], ◌∷◌, ◌++◌, length, take, drop, fold, reverse, Some, Result, Ok, Err}
use Rattle.fixed_decimal.specs.{Decimal.Decimal, DecimalText.read_decimal}
use Rattle.number_format.specs.{declared.format.{formatter.NumberFormatter.NumberFormatter, text_part.PartKind.PartKind}, NumberText.AreNumberPieces, TextParts.{Piece, pieces_text}}
use Rattle.conversions.specs.declared.locale_formatter.LocaleFormatter.TheVariants.{Skeleton}
use Rattle.fixed_decimal_c.specs.{declared.{error.FdError.{FdError, TheVariants.{BufferTooSmall, PartsTooSmall}}, formatter.FdFormatter.FdFormatter, parts.{FdPart.FdPart, FdParted.FdParted, PartCounts.PartCounts}}, Errors.{status_of, place_of}, Formats.FormatFails, KeptFormatters.IsKept, Numbers.ParsingFails}

abbrev pub kind_code : PartKind → ℕ
kind_code PartKind.Integer = 0
kind_code PartKind.Group = 1
kind_code PartKind.Decimal = 2
kind_code PartKind.Fraction = 3
kind_code PartKind.MinusSign = 4
kind_code PartKind.PlusSign = 5
kind_code PartKind.PercentSign = 6
kind_code PartKind.Currency = 7
kind_code PartKind.Literal = 8
kind_code PartKind.Compact = 9
kind_code PartKind.Unit = 10
kind_code PartKind.ExponentSeparator = 11
kind_code PartKind.ExponentMinusSign = 12
kind_code PartKind.ExponentPlusSign = 13
kind_code PartKind.ExponentInteger = 14
kind_code PartKind.ApproximatelySign = 15

-- the part of this number of bytes from `start` on
abbrev pub part_from : ℕ → ℕ → ℕ → FdPart
part_from start kind count = record { kind = kind; source = 0; start = start; end = start + count }

-- bytes of a kind continue the last part if it has their kind, and else are the next part; the last part is the first
-- of the list
abbrev pub with_bytes : ℕ → ℕ → List FdPart → List FdPart
with_bytes zero kind parts = parts
with_bytes (suc n) kind [] = part_from 0 kind (suc n) ∷ []
with_bytes (suc n) kind (last ∷ parts) =
    if last.kind == kind then record last { end = last.end + suc n } ∷ parts
    else part_from last.end kind (suc n) ∷ last ∷ parts

abbrev pub with_piece : List FdPart → Piece → List FdPart
with_piece parts piece = with_bytes (length piece.text) (kind_code piece.kind) parts

-- the parts of pieces, the last part first
abbrev pub parts_down : List Piece → List FdPart
parts_down pieces = fold with_piece [] pieces

-- the parts of pieces
abbrev pub parts_of : List Piece → List FdPart
parts_of pieces = reverse (parts_down pieces)

-- ---- A list of parts, as it is made from pieces.

abbrev pub no_part : FdPart
no_part = record { kind = 0; source = 0; start = 0; end = 0 }

abbrev pub last_of : List FdPart → FdPart
last_of [] = no_part
last_of (last ∷ parts) = last

-- the number of parts of these pieces, and the last part; if the array has room for all, they are at its start
pub record IsPartList (array : List FdPart) (count : ℕ) (last : FdPart) (pieces : List Piece) : Type 0 where
  pub number : count ≡ length (parts_down pieces)
  pub last_is : last ≡ last_of (parts_down pieces)
  pub end : last.end ≡ length (pieces_text pieces)
  pub few : count ≤ last.end
  pub listed : count ≤ length array → take count array ≡ parts_of pieces

-- the pieces that a list has taken, after one that says which array it is, and its length; a text of more bytes than
-- memory has is not counted
abbrev pub HasTaken : ℕ → List FdPart → ℕ → FdPart → List Piece → Type 0
HasTaken name array count last [] = ⊥
HasTaken name array count last (which ∷ pieces) =
    (which.text ≡ name ∷ length array ∷ [])
    × (length (pieces_text pieces) < 2 ^ 64 → IsPartList array count last pieces)

-- ---- Writing.

-- a text and its parts
pub record PartedText : Type 0 where
  pub text : List ℕ
  pub parts : List FdPart

-- all is written, if both fit: the text and its parts, at the start of the buffer and of the array
pub record AreWritten (shown : PartedText) (old new : List ℕ) (old_parts new_parts : List FdPart) : Type 0 where
  pub fits : length shown.text ≤ length old
  pub text : new ≡ shown.text ++ drop (length shown.text) old
  pub parts_fit : length shown.parts ≤ length old_parts
  pub parts : new_parts ≡ shown.parts ++ drop (length shown.parts) old_parts

-- the numbers of bytes and of parts
abbrev pub counts_of : PartedText → PartCounts
counts_of shown = record { count = length shown.text; parts = length shown.parts }

-- a buffer of this number of bytes has no room for the text, or else an array of this number of parts for its parts
abbrev pub HaveNoRoom : FdError → PartCounts → ℕ → ℕ → Type 0
HaveNoRoom (BufferTooSmall needed) counts bytes parts = (needed ≡ counts.count) × (bytes < counts.count)
HaveNoRoom PartsTooSmall counts bytes parts = (counts.count ≤ bytes) × (parts < counts.parts)
HaveNoRoom error counts bytes parts = ⊥

-- the text and its parts are written; or there is no room for both, and nothing is written
abbrev pub WritesParts :
    Result Unit FdError → PartedText → List ℕ → List ℕ → List FdPart → List FdPart → Type 0
WritesParts (Ok _) shown old new old_parts new_parts = AreWritten shown old new old_parts new_parts
WritesParts (Err error) shown old new old_parts new_parts =
    HaveNoRoom error (counts_of shown) (length old) (length old_parts) × (new ≡ old) × (new_parts ≡ old_parts)

-- the text and the parts of a number's pieces
abbrev pub parted : List Piece → PartedText
parted pieces = record { text = pieces_text pieces; parts = parts_of pieces }

abbrev pub no_counts : PartCounts
no_counts = record { count = 0; parts = 0 }

-- an error, with nothing written
abbrev pub WritesNoParts : (FdError → Type 0) → PartCounts → Result Unit FdError → List ℕ → List ℕ → List FdPart
    → List FdPart → Type 0
WritesNoParts Fails counts answer old new old_parts new_parts =
    (error : FdError) × (answer ≡ Err error) × Fails error × (counts ≡ no_counts) × (new ≡ old)
    × (new_parts ≡ old_parts)

-- the parts of a number's pieces are written; or it is not formatted
abbrev pub WritesPartsOf : NumberFormatter → Decimal → PartCounts → Result Unit FdError → List ℕ → List ℕ
    → List FdPart → List FdPart → Type 0
WritesPartsOf f v counts answer old new old_parts new_parts =
    ((pieces : List Piece) × AreNumberPieces f v pieces × (counts ≡ counts_of (parted pieces))
    × WritesParts answer (parted pieces) old new old_parts new_parts)
    ⊎ WritesNoParts (λ error. FormatFails error (Some (Skeleton f)) v 0) counts answer old new old_parts new_parts

-- the same of the decimal that a text is; or it is none
abbrev pub FormatsParts : NumberFormatter → PartCounts → Result Unit FdError → List ℕ → List ℕ → List ℕ
    → List FdPart → List FdPart → Type 0
FormatsParts f counts answer text old new old_parts new_parts =
    ((v : Decimal) × (read_decimal text ≡ Ok v) × WritesPartsOf f v counts answer old new old_parts new_parts)
    ⊎ WritesNoParts (λ error. ParsingFails error text 0) counts answer old new old_parts new_parts

-- the same, if there is a formatter
abbrev pub FormatsPartsIfMade : Result NumberFormatter FdError → PartCounts → Result Unit FdError → List ℕ → List ℕ
    → List ℕ → List FdPart → List FdPart → Type 0
FormatsPartsIfMade (Ok f) counts answer text old new old_parts new_parts =
    FormatsParts f counts answer text old new old_parts new_parts
FormatsPartsIfMade (Err e) counts answer text old new old_parts new_parts =
    WritesNoParts (λ error. error ≡ e) counts answer old new old_parts new_parts

-- an answer that is a text and its parts
abbrev pub fd_parted : PartCounts → Result Unit FdError → FdParted
fd_parted counts (Ok _) = record { status = 0; at = 0; count = counts.count; parts = counts.parts }
fd_parted counts (Err error) =
    record { status = status_of error; at = place_of error; count = counts.count; parts = counts.parts }

-- the decimal that a text is is written with its parts by the formatter that C keeps
abbrev pub FormatsPartsKept : FdParted → FdFormatter → List ℕ → List ℕ → List ℕ → List FdPart → List FdPart → Type 0
FormatsPartsKept r c text old new old_parts new_parts =
    (made : Result NumberFormatter FdError) × IsKept made c × (counts : PartCounts) × (answer : Result Unit FdError)
    × (r ≡ fd_parted counts answer) × FormatsPartsIfMade made counts answer text old new old_parts new_parts
