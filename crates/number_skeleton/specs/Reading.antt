-- Skeletons: pieces between slashes and white space, of which each is a stem or an option of the last stem.
use Rattle.std.specs.{Prelude.{ℕ, ◌+◌, ◌-◌, ◌==◌, nat_lt, nat_le, Bool, true, false, ◌||◌, ◌&&◌, not, if◌then◌else◌, List, [], ◌∷◌, ◌++◌, length, take, slice_index, Option, Some, None, Result, Ok, Err}, Option.{option_and_then, option_map}}
use Rattle.number_skeleton.specs.{declared.{error.SkeletonError.{SkeletonError, TheVariants.Syntax}, choices.{Choices.Choices, Span.Span}, reading.Reading.Reading, meaning.Expected.Expected}, Choices.{no_choices, has, with}, Options.option, Stems.stem}
use Rattle.number_skeleton.specs.declared.meaning.Expected.TheVariants as expected

-- ---- Pieces.
-- a piece of a text: its first offset, its bytes, and whether a slash ends it
pub record Piece : Type 0 where
  pub start : ℕ
  pub bytes : List ℕ
  pub ends_in_slash : Bool

-- the byte at this place from the end, the last one at 1
abbrev pub from_end : List ℕ → ℕ → ℕ
from_end text k = slice_index text (length text - k)

-- the number of bytes of the slash or the white space that a text ends in: U+0009 to U+000D, U+0020, U+0085, U+200E,
-- U+200F, U+2028 or U+2029
unfoldable pub separator_length : List ℕ → ℕ
separator_length text =
    if length text == 0 then 0
    else if (nat_le 9 (from_end text 1) && nat_le (from_end text 1) 13)
    || from_end text 1 == 32 || from_end text 1 == 47
    then 1
    else if (from_end text 1 == 133) && nat_lt 1 (length text) && (from_end text 2 == 194) then 2
    else if (from_end text 1 == 142 || from_end text 1 == 143 || from_end text 1 == 168 || from_end text 1 == 169)
    && nat_lt 2 (length text) && (from_end text 2 == 128) && (from_end text 3 == 226)
    then 3
    else 0

-- the pieces of a text from an offset, of which the first begins with these bytes
unfoldable pub pieces : ℕ → List ℕ → List ℕ → List Piece
pieces start bytes [] = record { start = start; bytes = bytes; ends_in_slash = false } ∷ []
pieces start bytes (c ∷ text) =
    let longer = bytes ++ c ∷ [] in
    let separator = separator_length longer in
    if separator == 0 then pieces start longer text
    else record {
      start = start;
      bytes = take (length longer - separator) longer;
      ends_in_slash = c == 47;
    } ∷ pieces (start + length longer) [] text

-- ---- The meaning of a piece.
abbrev pub is_stem : Expected → Bool
is_stem expected.Stem = true
is_stem e = false

abbrev pub needs_option : Expected → Bool
needs_option expected.Currency = true
needs_option expected.Integer = true
needs_option expected.System = true
needs_option expected.Scale = true
needs_option expected.Increment = true
needs_option expected.Unit = true
needs_option expected.MeasureUnit = true
needs_option expected.PerMeasureUnit = true
needs_option expected.Usage = true
needs_option e = false

abbrev pub no_stems : Reading
no_stems = record { choices = no_choices; expected = expected.Stem; stem = record { start = 0; end = 0 } }

-- a stem, of whose group there is none yet
abbrev pub read_stem : Reading → Span → List ℕ → Option Reading
read_stem r span text =
    option_and_then (λ m. if has r.choices m.choice then None
    else Some (record { choices = with span m.choice r.choices; expected = m.expected; stem = span })) (stem text)

abbrev pub read_option : Reading → List ℕ → Option Reading
read_option r text =
    option_map (λ m. record { choices = with r.stem m.choice r.choices; expected = m.expected; stem = r.stem })
    (option r.expected text)

-- a piece from an offset; where a stem is expected, it may be empty
unfoldable pub read_piece : Reading → ℕ → List ℕ → Option Reading
read_piece r start text =
    if not (is_stem r.expected) then (if length text == 0 then None else read_option r text)
    else if length text == 0 then Some r
    else read_stem r (record { start = start; end = start + length text }) text

-- a slash has to follow a stem that takes an option, and nothing else a stem that needs one
abbrev pub at_end : Bool → ℕ → Reading → Result Reading SkeletonError
at_end ends_in_slash at r =
    if ends_in_slash then (if is_stem r.expected then Err (Syntax at) else Ok r)
    else if needs_option r.expected then Err (Syntax at)
    else Ok (record { choices = r.choices; expected = expected.Stem; stem = r.stem })

abbrev pub after_piece : ℕ → Bool → ℕ → Option Reading → Result Reading SkeletonError
after_piece start ends_in_slash at None = Err (Syntax start)
after_piece start ends_in_slash at (Some r) = at_end ends_in_slash at r

unfoldable pub next : Reading → ℕ → List ℕ → Bool → Result Reading SkeletonError
next r start text ends_in_slash =
    after_piece start ends_in_slash (start + length text) (read_piece r start text)

-- ---- The meaning of a text.
abbrev pub and_then : {A B : Type 0} → (A → Result B SkeletonError) → Result A SkeletonError → Result B SkeletonError
and_then f (Ok x) = f x
and_then f (Err e) = Err e

unfoldable pub read_pieces : Reading → List Piece → Result Reading SkeletonError
read_pieces r [] = Ok r
read_pieces r (p ∷ ps) = and_then (λ after. read_pieces after ps) (next r p.start p.bytes p.ends_in_slash)

-- what the stems of a text choose, or the offset of its first wrong piece
abbrev pub choices_of : List ℕ → Result Choices SkeletonError
choices_of text = and_then (λ r. Ok r.choices) (read_pieces no_stems (pieces 0 [] text))
