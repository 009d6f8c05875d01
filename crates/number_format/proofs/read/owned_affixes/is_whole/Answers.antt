use Rattle.std.proofs.{Common.{◌++◌, sym, ◌∙◌, ap, append_assoc}, lemmas.List.append_cancel_left}
use Rattle.number_format.specs.TextParts.{parts_text}
use Rattle.number_format.proofs.read.owned_affixes.is_whole.Goals as goal

pub returns-in-Some-cut_parts : goal.returns-in-Some-cut_parts
returns-in-Some-cut_parts c =
    let before = parts_text c.args.outer.now.before in
    let prefix = parts_text c.args.inner.now.prefix in
    let last = parts_text c.args.inner.now.suffix ++ parts_text c.args.outer.now.after in
    let rest = c.in-Some.rest.now in
    let end = c.in-Some-cut_parts.end.now in
    let assoc = append_assoc before prefix last in (
      λ t. c.in-Some.ensures
          ∙ ap (λ l. before ++ l) (c.in-Some-cut_parts.ensures ∙ ap (λ l. prefix ++ l) (c.are_joined.ensures.0 t))
          ∙ sym assoc,
      λ e. c.are_joined.ensures.1
          (append_cancel_left prefix end last (sym c.in-Some-cut_parts.ensures
          ∙ append_cancel_left before rest (prefix ++ last) (sym c.in-Some.ensures ∙ e ∙ assoc))),
    )

pub returns-in-None : goal.returns-in-None
returns-in-None c =
    let before = parts_text c.args.outer.now.before in
    let prefix = parts_text c.args.inner.now.prefix in
    let last = parts_text c.args.inner.now.suffix ++ parts_text c.args.outer.now.after in (
      λ t. absurd (cc),
      λ e. absurd (c.in-None.ensures last
          (append_cancel_left before c.in-Some.rest.now (prefix ++ last) (sym c.in-Some.ensures ∙ e
          ∙ append_assoc before prefix last))),
    )
