use Rattle.std.proofs.{Common.{◌++◌, sym, ◌∙◌, ap, append-nil}, lemmas.{Bool.Decides.Decides-eqb, Slice.Eq.strip_suffix_is}}
use Rattle.number_format.proofs.lemmas.read.NamedAffixes.{none_is}
use Rattle.number_format.proofs.read.cut.cut_end.Goals as goal

pub returns-then-is_empty : goal.returns-then-is_empty
returns-then-is_empty c =
    let text = c.args.text.now in
    sym (append-nil text)
    ∙ ap (λ code. text ++ code) (sym (none_is c.args.code.now (sym c.is_empty.ensures ∙ c.if-is_empty.true)))

pub returns : goal.returns
returns c =
    strip_suffix_is Decides-eqb c.args.text.now c.args.code.now c.strip_suffix.result c.strip_suffix.ensures.cases
