use Rattle.std.proofs.{Common.{[], ◌∷◌, inr}, lemmas.Result.err_from_is_err_and, KnownBytes.Appends-trans}
use Rattle.fixed_decimal.proofs.Calling.{prefix_more}
use Rattle.cli.proofs.lines.filter.Filter.print.Goals as goal

pub returns-clause-printed : goal.returns-clause-printed
returns-clause-printed g c =
    let (text, is, put) = c.in_ok-convert.ensures.printed in
    let other = c.is_header.ensures.no c.if-is_header.false in
    (text, inr (other, is), Appends-trans _ _ _ text (10 ∷ []) put c.in_ok-put_byte.ensures.appends)

pub returns-in_err-convert-clause-prefix : goal.returns-in_err-convert-clause-prefix
returns-in_err-convert-clause-prefix g c =
    let p =
    err_from_is_err_and c.from_residual-in_err-convert.result c.from_residual-in_err-convert.ensures.1 in
    let other = c.is_header.ensures.no c.if-is_header.false in
    rw (p.1, p.2) (λ output.
    let (text, is, put) = c.in_err-convert.ensures.prefix output in
    (text, inr (other, is), prefix_more _ _ text (10 ∷ []) put))
