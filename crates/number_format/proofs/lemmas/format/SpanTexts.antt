-- The texts of spans.
use Rattle.std.proofs.{Common.{◌≡◌, List, [], ◌∷◌, ◌++◌, ◌∙◌, ap, refl, sym}, lemmas.List.Concat.flat_map-cons}
use Rattle.number_format.specs.{declared.format.text_span.{TextSpan.TextSpan}, TextParts.{parts_text, pieces_text}, TextSpans.{span_pieces, span_text, spans_pieces, spans_text}}
use Rattle.number_format.proofs.lemmas.format.PieceTexts.{text-append, text-of, text-of_parts, text-of_shown}

text-of_span : (s : TextSpan) → pieces_text (span_pieces s) ≡ span_text s
text-of_span (TextSpan.Part part) = text-of part.kind part.text.now
text-of_span (TextSpan.Parts p) = text-of_parts p.parts.now
text-of_span (TextSpan.Joined kind texts) = text-of kind (parts_text texts.parts.now)
text-of_span (TextSpan.Digits d) = text-of_shown d.is_hidden d.whole d.symbols.now d.strategy d.value.now

-- the text of the pieces of spans
pub text-of_spans : (spans : List TextSpan) → pieces_text (spans_pieces spans) ≡ spans_text spans
text-of_spans [] = refl
text-of_spans (s ∷ spans) =
    ap pieces_text (flat_map-cons span_pieces s spans)
    ∙ text-append (span_pieces s) (spans_pieces spans)
    ∙ (λ i. text-of_span s i ++ text-of_spans spans i)
    ∙ sym (flat_map-cons span_text s spans)
