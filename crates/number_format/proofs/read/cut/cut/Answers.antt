use Rattle.std.proofs.{Common.{◌++◌, sym, ◌∙◌, ap}, lemmas.{Bool.Decides.Decides-eqb, Slice.Eq.strip_prefix_is}}
use Rattle.number_format.proofs.lemmas.read.NamedAffixes.{none_is}
use Rattle.number_format.proofs.read.cut.cut.Goals as goal

pub returns-then-is_empty : goal.returns-then-is_empty
returns-then-is_empty c =
    ap (λ code. code ++ c.args.text.now) (sym (none_is c.args.code.now (sym c.is_empty.ensures ∙ c.if-is_empty.true)))

pub returns : goal.returns
returns c =
    strip_prefix_is Decides-eqb c.args.text.now c.args.code.now c.strip_prefix.result c.strip_prefix.ensures.cases
