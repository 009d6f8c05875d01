use Rattle.std.proofs.Common.{◌≡◌, ◌≢◌, ◌++◌, refl, sym, ◌∙◌, ap, append-nil}
use Rattle.number_format.specs.{declared.range.formatted_range.RangeSegment.{RangeSegment, TheVariants.{Prefix, Start, Middle, End, Suffix}}, FormattedNumbers.outer_of, FormattedRanges.{formatted_range_pieces, pieces_in, shown_range}, PatternTexts.Around, RangeText.{RangePieces, inner_pieces, pieces_if, with_outer}, TextParts.pieces_text, TextSpans.{inner_spans_pieces, spans_pieces}}
use Rattle.number_format.proofs.lemmas.format.SpanTexts.{text-of_spans}
use Rattle.number_format.proofs.range.formatted_range.FormattedRange.spans.Goals as goal

module _ (u : Around) (p : RangePieces) where
  at_prefix : (s : RangeSegment) → s ≡ Prefix → pieces_in p s ++ u.prefix ≡ pieces_in (with_outer u p) s
  at_prefix s e = ap (λ x. pieces_in p x ++ u.prefix) e ∙ sym (ap (pieces_in (with_outer u p)) e)

  at_suffix : (s : RangeSegment) → s ≡ Suffix
      → pieces_if u.has_number (pieces_in p s) ++ u.suffix ≡ pieces_in (with_outer u p) s
  at_suffix s e =
      ap (λ x. pieces_if u.has_number (pieces_in p x) ++ u.suffix) e ∙ sym (ap (pieces_in (with_outer u p)) e)

  between : (s : RangeSegment) → s ≢ Prefix → s ≢ Suffix
      → pieces_if u.has_number (pieces_in p s) ≡ pieces_in (with_outer u p) s
  between Prefix x y = absurd (x refl)
  between Start x y = refl
  between Middle x y = refl
  between End x y = refl
  between Suffix x y = absurd (y refl)

pub returns-in-Prefix : goal.returns-in-Prefix
returns-in-Prefix c =
    let t = c.args.self.now in
    let pieces : spans_pieces c.within.result ≡ formatted_range_pieces t c.args.segment =
    c.within.ensures
    ∙ (λ i. c.inner_spans-inner.ensures i ++ (c.joined-before.ensures ∙ c.requires.outer.prefix) i)
    ∙ at_prefix (outer_of t.start) (inner_pieces t.form (shown_range t)) c.args.segment c.in-Prefix.is in
    record {
      pieces = pieces;
      text = sym (text-of_spans c.within.result) ∙ ap pieces_text pieces;
    }

pub returns-in-Suffix : goal.returns-in-Suffix
returns-in-Suffix c =
    let t = c.args.self.now in
    let shown = c.if_shown.ensures
    ∙ (λ i. pieces_if (c.requires.outer.has_number i) (c.inner_spans-inner.ensures i)) in
    let pieces : spans_pieces c.within-in-Suffix.result ≡ formatted_range_pieces t c.args.segment =
    c.within-in-Suffix.ensures ∙ (λ i. shown i ++ (c.joined-after.ensures ∙ c.requires.outer.suffix) i)
    ∙ at_suffix (outer_of t.start) (inner_pieces t.form (shown_range t)) c.args.segment c.in-Suffix.is in
    record {
      pieces = pieces;
      text = sym (text-of_spans c.within-in-Suffix.result) ∙ ap pieces_text pieces;
    }

pub returns-in_default : goal.returns-in_default
returns-in_default c =
    let t = c.args.self.now in
    let pieces : spans_pieces c.within-in_default.result ≡ formatted_range_pieces t c.args.segment =
    c.within-in_default.ensures ∙ append-nil (inner_spans_pieces c.if_shown-in_default.result)
    ∙ c.if_shown-in_default.ensures
    ∙ (λ i. pieces_if (c.requires.outer.has_number i) (c.inner_spans-inner.ensures i))
    ∙ between (outer_of t.start) (inner_pieces t.form (shown_range t)) c.args.segment c.in_default.not-Prefix
    c.in_default.not-Suffix in
    record {
      pieces = pieces;
      text = sym (text-of_spans c.within-in_default.result) ∙ ap pieces_text pieces;
    }
