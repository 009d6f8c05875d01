use Rattle.std.proofs.Common.{◌≡◌, ◌+◌, length, ◌∙◌, arith}
use Rattle.decimal_format.proofs.lemmas.reader.NormalForms.{end_cut, end_fails}
use Rattle.decimal_format.proofs.reader.codes.cut_end.Goals as goal

pub returns-in_err-cut : goal.returns-in_err-cut
returns-in_err-cut g c = rw c.from_residual-in_err-cut.ensures
    (let text = g.T.Input.bytes c.args.text in
    let size : length text ≡ c.in_ok-front.front + length c.args.code.now =
    omega (arith, c.in_ok-front.ensures, c.count.ensures) in
    end_fails c.in_ok-front.front text c.args.code.now size (λ after e.
    c.in_err-cut.ensures after (c.skip.ensures ∙ e)))

pub returns : goal.returns
returns g c = grind (arith, end_cut)
