use Rattle.std.proofs.{Common.inr, lemmas.Result.{IfOk-weaker, IfErr-weaker}}
use Rattle.fixed_decimal_c.proofs.forms.skeleton_formatter.Goals as goal

pub returns-clause-ok : goal.returns-clause-ok
returns-clause-ok c =
    let tag = c.in-Some-part.ensures.some in
    let skeleton = c.in-Some.ensures.some in
    IfOk-weaker c.formatter_by_skeleton.result _ _
    (λ f is. (c.in-Some-part.tag.now, c.in-Some.skeleton.now, tag, skeleton, is)) c.formatter_by_skeleton.ensures.ok

pub returns-clause-err : goal.returns-clause-err
returns-clause-err c =
    let tag = c.in-Some-part.ensures.some in
    let skeleton = c.in-Some.ensures.some in
    IfErr-weaker c.formatter_by_skeleton.result _ _
    (λ error fails. inr (c.in-Some.skeleton.now, skeleton, inr (c.in-Some-part.tag.now, tag, fails)))
    c.formatter_by_skeleton.ensures.err
