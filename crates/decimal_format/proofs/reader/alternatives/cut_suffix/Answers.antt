use Rattle.std.proofs.Common.{◌≡◌, ◌+◌, length, ◌∙◌, arith}
use Rattle.decimal_format.proofs.lemmas.reader.NormalForms.{end_cut, end_fails}
use Rattle.decimal_format.proofs.reader.alternatives.cut_suffix.Goals as goal

pub returns-in_err-cut_prefix : goal.returns-in_err-cut_prefix
returns-in_err-cut_prefix g c =
    let text = g.T.Input.bytes c.args.text in
    let suffix = g.U.Input.bytes c.args.suffix in
    let size : length text ≡ c.in_ok-front.front + length suffix =
    omega (arith, c.in_ok-front.ensures, c.count.ensures, c.count-2.ensures) in
    rw c.from_residual-in_err-cut_prefix.ensures
    (end_fails c.in_ok-front.front text suffix size (λ after e. c.in_err-cut_prefix.ensures after (c.skip.ensures ∙ e)))

pub returns : goal.returns
returns g c = grind (arith, end_cut)
