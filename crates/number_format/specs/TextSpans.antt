-- The spans of the text of a number.
use Rattle.std.specs.Prelude.{ℕ, List, ◌++◌, flat_map}
use Rattle.number_format.specs.{declared.format.{number_spans.{InnerSpans.InnerSpans, NumberSpans.NumberSpans}, text_span.{DigitSpan.DigitSpan, TextSpan.TextSpan}}, FormattedNumbers.visible_text, TextParts.{Piece, digit_pieces, part_pieces, part_text, parts_pieces, parts_text, pieces_of}}

-- the digits of a value
abbrev pub digit_span_pieces : DigitSpan → List Piece
digit_span_pieces d = digit_pieces d.is_hidden d.whole d.symbols.now d.strategy d.value.now

abbrev pub digit_span_text : DigitSpan → List ℕ
digit_span_text d = visible_text d.is_hidden d.symbols.now d.strategy d.value.now

-- the pieces of a span; joined texts are one text
abbrev pub span_pieces : TextSpan → List Piece
span_pieces (TextSpan.Part part) = part_pieces part
span_pieces (TextSpan.Parts p) = parts_pieces p.parts.now
span_pieces (TextSpan.Joined kind texts) = pieces_of kind (parts_text texts.parts.now)
span_pieces (TextSpan.Digits d) = digit_span_pieces d

abbrev pub span_text : TextSpan → List ℕ
span_text (TextSpan.Part part) = part_text part
span_text (TextSpan.Parts p) = parts_text p.parts.now
span_text (TextSpan.Joined kind texts) = parts_text texts.parts.now
span_text (TextSpan.Digits d) = digit_span_text d

-- those of spans, one after another
abbrev pub spans_pieces : List TextSpan → List Piece
spans_pieces = flat_map span_pieces

abbrev pub spans_text : List TextSpan → List ℕ
spans_text = flat_map span_text

-- the spans of a number
abbrev pub number_spans_pieces : NumberSpans → List Piece
number_spans_pieces s =
    span_pieces s.digits
    ++ (span_pieces s.separator
    ++ (span_pieces s.exponent_separator ++ (span_pieces s.exponent_sign ++ span_pieces s.exponent)))

-- a number between its affixes
abbrev pub inner_spans_pieces : InnerSpans → List Piece
inner_spans_pieces s = span_pieces s.prefix ++ (number_spans_pieces s.number ++ span_pieces s.suffix)
