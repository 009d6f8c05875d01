use Rattle.std.proofs.{Common.{◌≡◌, ◌+◌, ◌++◌, drop, sym, ap, ◌∙◌, arith, append_assoc}, lemmas.List.{append_cancel_left, at_drop_more}}
use Rattle.number_format.specs.{declared.format.text_part.TextPart.TextPart, TextParts.parts_text}
use Rattle.number_format.proofs.read.owned_affixes.cut_parts.Goals as goal

pub loop-part-preserved : goal.loop-part-preserved
loop-part-preserved c =
    let parts = c.args.parts.now in
    let i = c.loop-part.part-index in
    let text = c.part-item.result.text.now in
    let more = parts_text (drop (i + 1) parts) in
    let rest = c.in_ok-rest.rest.now in
    let left : parts_text (drop i parts) ≡ text ++ more =
    at_drop_more parts_text parts i c.part-item.result (omega arith)
    ∙ ap (λ (p : TextPart). p.text.now ++ more) (sym c.part-item.is) in
    let cut : c.loop-part.rest.now ≡ text ++ rest =
    c.in_ok-rest.ensures ∙ ap (λ l. l ++ rest) c.as_bytes.ensures.value in
    λ x. (
      λ h. append_cancel_left text rest (more ++ x)
          (sym cut ∙ (c.loop-part.invariant x).0 h ∙ ap (λ l. l ++ x) left ∙ append_assoc text more x),
      λ h. (c.loop-part.invariant x).1
          (cut ∙ ap (λ l. text ++ l) h ∙ sym (append_assoc text more x) ∙ ap (λ l. l ++ x) (sym left)),
    )
