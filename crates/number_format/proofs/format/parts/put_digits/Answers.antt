use Rattle.std.proofs.Common.{sym, subst, arith}
use Rattle.fixed_decimal.proofs.Calling.{on_err}
use Rattle.number_format.specs.TextParts.{Puts, first_pieces}
use Rattle.number_format.proofs.lemmas.format.PieceTexts.{puts_nil, puts_trans, first_pieces-more, digits_prefix}
use Rattle.number_format.proofs.format.parts.put_digits.Goals as goal

pub loop-below-init : goal.loop-below-init
unfolding first_pieces
loop-below-init g c = puts_nil (g.P.PartSink.pieces c.args.sink.now)

pub loop-below-preserved : goal.loop-below-preserved
loop-below-preserved g c =
    let f = c.args.digits.now in
    subst (Puts (g.P.PartSink.pieces c.args.sink.now) (g.P.PartSink.pieces c.put_magnitude.new.sink))
    (sym (first_pieces-more c.args.is_hidden c.args.whole f.symbols f.strategy f.value c.loop-below.below))
    (puts_trans _ _ _ _ _ c.loop-below.invariant c.in_ok-put_magnitude.ensures.ok)

pub returns-in_err-put_magnitude-clause-err : goal.returns-in_err-put_magnitude-clause-err
returns-in_err-put_magnitude-clause-err g c =
    let f = c.args.digits.now in
    on_err c.from_residual.result _
    (digits_prefix c.args.is_hidden c.args.whole f.symbols f.strategy f.value c.loop-below.below _ _ _ (omega arith)
    c.loop-below.invariant c.in_err-put_magnitude.ensures.err)
