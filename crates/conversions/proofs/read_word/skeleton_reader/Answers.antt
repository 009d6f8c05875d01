use Rattle.std.proofs.{Common.inr, lemmas.Result.{IfOk-weaker, IfErr-weaker}}
use Rattle.conversions.proofs.read_word.skeleton_reader.Goals as goal

pub returns-clause-ok : goal.returns-clause-ok
returns-clause-ok c =
    let formatter = c.in_ok-formatter.ensures.ok in
    IfOk-weaker c.number_reader.result _ _ (λ r (is, can). (c.in_ok-formatter.formatter, formatter, can, is))
    c.number_reader.ensures.ok

pub returns-clause-err : goal.returns-clause-err
returns-clause-err c =
    let formatter = c.in_ok-formatter.ensures.ok in
    IfErr-weaker c.number_reader.result _ _ (λ why fails. inr (c.in_ok-formatter.formatter, formatter, fails))
    c.number_reader.ensures.err
