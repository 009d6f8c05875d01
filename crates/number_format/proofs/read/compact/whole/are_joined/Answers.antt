use Rattle.std.proofs.{Common.{◌++◌, sym, ◌∙◌, append_assoc, append-nil}, lemmas.List.append_cancel_left}
use Rattle.std.specs.Prelude.{[]}
use Rattle.number_format.proofs.read.compact.whole.are_joined.Goals as goal

pub returns-in-None : goal.returns-in-None
returns-in-None c =
    let first = c.args.first.now in
    let second = c.args.second.now in
    let rest = c.in-Some.rest.now in (
      λ t. absurd (cc),
      λ e. absurd (c.in-None.ensures []
          (append_cancel_left first rest (second ++ []) (sym c.in-Some.ensures ∙ e
          ∙ sym (append-nil (first ++ second)) ∙ append_assoc first second []))),
    )
