use Rattle.std.proofs.Common.{◌≡◌, ◌++◌, ◌∙◌, ap, sym}
use Rattle.number_format.specs.{FormattedNumbers.{formatted_number_pieces, number_pieces_if}, RangeText.pieces_if, TextParts.{parts_pieces, pieces_text}, TextSpans.spans_pieces}
use Rattle.number_format.proofs.lemmas.format.SpanTexts.{text-of_spans}
use Rattle.number_format.proofs.format.formatted_number.FormattedNumber.spans.Goals as goal

pub returns : goal.returns
returns c =
    let n = c.args.self.now in
    let around = c.requires in
    let number = c.number_spans-number.ensures ∙ ap (number_pieces_if n) around.affixes.has_number in
    let inner = c.between-inner.ensures
    ∙ (λ i. around.affixes.prefix i ++ (number i ++ around.affixes.suffix i)) in
    let pieces : spans_pieces c.within.result ≡ formatted_number_pieces n =
    c.within.ensures
    ∙ (λ i. (c.joined-before.ensures ∙ around.outer.prefix) i
    ++ ((c.if_shown.ensures ∙ (λ j. pieces_if (around.outer.has_number j) (inner j))) i
    ++ (c.joined-after.ensures ∙ around.outer.suffix) i)) in
    record {
      pieces = pieces;
      text = sym (text-of_spans c.within.result) ∙ ap pieces_text pieces;
    }
