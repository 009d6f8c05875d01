-- The text of parts.
use Rattle.std.specs.Prelude.{ℕ, zero, suc, ◌≡◌, Bool, true, false, if◌then◌else◌, List, [], ◌∷◌, ◌++◌, flat_map, take, drop, ℤ, pos, negsuc, ◌-ℤ◌}
use Rattle.decimal_digits.specs.Number.{digit}
use Rattle.decimal_unsigned.specs.Unsigned.{Unsigned}
use Rattle.decimal_format.specs.{Formatted.{separator_before, separator_after, shown_count}, Symbols.{Symbols, digit_text}, declared.grouping.GroupingStrategy.GroupingStrategy}
use Rattle.number_format.specs.{declared.format.text_part.{PartKind.PartKind, TextPart.TextPart}, TrimmedTexts.{trimmed_length, kept_length}}

-- the text of a part, and those of parts, one after another
abbrev pub part_text : TextPart → List ℕ
part_text part = part.text.now

abbrev pub parts_text : List TextPart → List ℕ
parts_text = flat_map part_text

-- a piece of a text
pub record Piece : Type 0 where
  pub kind : PartKind
  pub text : List ℕ

abbrev pub pieces_text : List Piece → List ℕ
pieces_text = flat_map (λ p. p.text)

-- pieces that were put grow by others
pub record Puts (old new : List Piece → Type 0) (more : List Piece) : Type 0 where
  pub grown : (pieces : List Piece) → old pieces → new (pieces ++ more)

-- pieces that were put grow by a prefix of others
abbrev pub PutsPrefix : (List Piece → Type 0) → (List Piece → Type 0) → List Piece → Type 0
PutsPrefix old new more = (part rest : List Piece) × (part ++ rest ≡ more) × Puts old new part

-- a text as a piece; an empty text is none
abbrev pub piece_of : PartKind → List ℕ → List Piece
piece_of kind [] = []
piece_of kind (b ∷ bytes) = record { kind = kind; text = b ∷ bytes } ∷ []

-- a text whose white space and marks at its end are a literal
abbrev pub pieces_to_end : PartKind → List ℕ → List Piece
pieces_to_end kind text =
    piece_of kind (take (kept_length text) text) ++ piece_of PartKind.Literal (drop (kept_length text) text)

-- a text whose white space and marks at both ends are literals: of ` km` the space
abbrev pub trimmed_pieces : PartKind → List ℕ → List Piece
trimmed_pieces kind text =
    piece_of PartKind.Literal (take (trimmed_length text) text) ++ pieces_to_end kind (drop (trimmed_length text) text)

-- digits, separators of groups and literals are not trimmed
abbrev pub is_whole : PartKind → Bool
is_whole PartKind.Integer = true
is_whole PartKind.Group = true
is_whole PartKind.Fraction = true
is_whole PartKind.Literal = true
is_whole PartKind.ExponentInteger = true
is_whole other = false

-- a text as pieces; an empty text is none
abbrev pub pieces_of : PartKind → List ℕ → List Piece
pieces_of kind [] = []
pieces_of kind (b ∷ bytes) = if is_whole kind then piece_of kind (b ∷ bytes) else trimmed_pieces kind (b ∷ bytes)

-- a part as pieces; an empty part is none
abbrev pub part_pieces : TextPart → List Piece
part_pieces part = pieces_of part.kind part.text.now

abbrev pub parts_pieces : List TextPart → List Piece
parts_pieces = flat_map part_pieces

-- the kind of the digit of a magnitude
abbrev pub digit_kind : PartKind → ℤ → PartKind
digit_kind whole (pos k) = whole
digit_kind whole (negsuc k) = PartKind.Fraction

-- the digit of a magnitude is shown: integer digits may be hidden
abbrev pub is_shown : Bool → ℤ → Bool
is_shown false m = true
is_shown true (pos k) = false
is_shown true (negsuc k) = true

-- the digit of a magnitude, if it is shown
abbrev pub digit_if : Bool → Symbols → ℕ → ℤ → List ℕ
digit_if hidden s n m = if is_shown hidden m then digit_text s (digit n m) else []

-- the digit of a magnitude, between the separators beside it
abbrev pub magnitude_pieces : Bool → PartKind → Symbols → GroupingStrategy → Unsigned → ℤ → List Piece
magnitude_pieces hidden whole s strategy v m =
    pieces_of PartKind.Decimal (separator_before s m)
    ++ (pieces_of (digit_kind whole m) (digit_if hidden s v.number m)
    ++ pieces_of PartKind.Group (separator_after s strategy v.hi m))

-- the given number of magnitudes from the highest
unfoldable pub first_pieces : Bool → PartKind → Symbols → GroupingStrategy → Unsigned → ℕ → List Piece
first_pieces hidden whole s strategy v zero = []
first_pieces hidden whole s strategy v (suc n) =
    first_pieces hidden whole s strategy v n ++ magnitude_pieces hidden whole s strategy v (v.hi -ℤ pos n)

-- the digits and the separators of a value; its integer digits may be hidden: `.5` of 0.5
abbrev pub digit_pieces : Bool → PartKind → Symbols → GroupingStrategy → Unsigned → List Piece
digit_pieces hidden whole s strategy v = first_pieces hidden whole s strategy v (shown_count v)
