use Rattle.std.proofs.{Common.{subst}, lemmas.Result.{on_err_weaker}}
use Rattle.fixed_decimal.proofs.Calling.{on_err}
use Rattle.number_format.specs.{declared.format.text_part.PartKind.TheVariants.{Literal}, TextParts.{Puts, PutsPrefix, piece_of}}
use Rattle.number_format.proofs.lemmas.format.PieceTexts.{prefix_more, then_prefix}
use Rattle.number_format.proofs.format.parts.put_to_end.Goals as goal

pub returns-in_err-put_piece-clause-err : goal.returns-in_err-put_piece-clause-err
returns-in_err-put_piece-clause-err g c =
    on_err c.from_residual.result _ (prefix_more _ _ _ _
    (subst (λ t. PutsPrefix (g.P.PartSink.pieces c.args.sink.now) (g.P.PartSink.pieces c.put_piece.new.sink)
    (piece_of c.args.kind t)) c.split_end.ensures.0 c.in_err-put_piece.ensures.err))

pub returns-clause-err : goal.returns-clause-err
returns-clause-err g c =
    let kept = subst (λ t. Puts (g.P.PartSink.pieces c.args.sink.now) (g.P.PartSink.pieces c.put_piece.new.sink)
    (piece_of c.args.kind t)) c.split_end.ensures.0 c.in_ok-put_piece.ensures.ok in
    on_err_weaker c.put_piece-2.result (λ last. then_prefix _ _ _ _ _ kept
    (subst (λ t. PutsPrefix (g.P.PartSink.pieces c.put_piece.new.sink) (g.P.PartSink.pieces c.put_piece-2.new.sink)
    (piece_of Literal t)) c.split_end.ensures.1 last)) c.put_piece-2.ensures.err
