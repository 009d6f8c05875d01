use Rattle.std.proofs.Common.{◌≡◌, ◌*◌, ◌≤◌, length, take}
use Rattle.number_format.specs.TextSpans.{spans_text}
use Rattle.number_format.proofs.format.text_span.TextSpan.length_of_all.Given as goal

abbrev pub invariant-loop-span : goal.invariant-loop-span
invariant-loop-span l =
    (l.total ≡ length (spans_text (take l.span-index l.spans))) × (l.total ≤ 8618239 * l.span-index)
