use Rattle.std.proofs.{Common.{subst, pos, ◌-ℤ◌}, lemmas.Result.{on_ok_weaker, on_err_weaker}}
use Rattle.decimal_format.specs.Formatted.{separator_before, separator_after}
use Rattle.fixed_decimal.proofs.Calling.{on_err}
use Rattle.number_format.specs.{declared.format.text_part.PartKind.TheVariants.{Decimal, Group}, TextParts.{Puts, PutsPrefix, digit_if, digit_kind, pieces_of}}
use Rattle.number_format.proofs.lemmas.format.PieceTexts.{puts_trans, first_of_three, second_of_three, third_of_three}
use Rattle.number_format.proofs.format.parts.put_magnitude.Goals as goal

pub returns-in_err-put-clause-err : goal.returns-in_err-put-clause-err
returns-in_err-put-clause-err g c =
    let f = c.args.digits.now in
    let m = f.value.hi -ℤ pos c.args.below in
    on_err c.from_residual.result _
    (first_of_three (pieces_of Decimal (separator_before f.symbols m))
    (pieces_of (digit_kind c.args.whole m) (digit_if c.args.is_hidden f.symbols f.value.number m))
    (pieces_of Group (separator_after f.symbols f.strategy f.value.hi m)) _ _
    (subst (λ t. PutsPrefix (g.P.PartSink.pieces c.args.sink.now) (g.P.PartSink.pieces c.put.new.sink)
    (pieces_of Decimal t)) c.separator_before.ensures.value c.in_err-put.ensures.err))

pub returns-in_err-put_digit-clause-err : goal.returns-in_err-put_digit-clause-err
returns-in_err-put_digit-clause-err g c =
    let f = c.args.digits.now in
    let m = f.value.hi -ℤ pos c.args.below in
    let before = subst (λ t. Puts (g.P.PartSink.pieces c.args.sink.now) (g.P.PartSink.pieces c.put.new.sink)
    (pieces_of Decimal t)) c.separator_before.ensures.value c.in_ok-put.ensures.ok in
    on_err c.from_residual-in_err-put_digit.result _
    (second_of_three (pieces_of Decimal (separator_before f.symbols m))
    (pieces_of (digit_kind c.args.whole m) (digit_if c.args.is_hidden f.symbols f.value.number m))
    (pieces_of Group (separator_after f.symbols f.strategy f.value.hi m)) _ _ _ before
    c.in_err-put_digit.ensures.err)

pub returns-clause-ok : goal.returns-clause-ok
returns-clause-ok g c =
    let before = subst (λ t. Puts (g.P.PartSink.pieces c.args.sink.now) (g.P.PartSink.pieces c.put.new.sink)
    (pieces_of Decimal t)) c.separator_before.ensures.value c.in_ok-put.ensures.ok in
    on_ok_weaker c.put-2.result (λ last. puts_trans _ _ _ _ _ before
    (puts_trans _ _ _ _ _ c.in_ok-put_digit.ensures.ok
    (subst (λ t. Puts (g.P.PartSink.pieces c.put_digit.new.sink) (g.P.PartSink.pieces c.put-2.new.sink)
    (pieces_of Group t)) c.separator_after.ensures.value last))) c.put-2.ensures.ok

pub returns-clause-err : goal.returns-clause-err
returns-clause-err g c =
    let before = subst (λ t. Puts (g.P.PartSink.pieces c.args.sink.now) (g.P.PartSink.pieces c.put.new.sink)
    (pieces_of Decimal t)) c.separator_before.ensures.value c.in_ok-put.ensures.ok in
    on_err_weaker c.put-2.result (λ last. third_of_three _ _ _ _ _ _ _ before c.in_ok-put_digit.ensures.ok
    (subst (λ t. PutsPrefix (g.P.PartSink.pieces c.put_digit.new.sink) (g.P.PartSink.pieces c.put-2.new.sink)
    (pieces_of Group t)) c.separator_after.ensures.value last)) c.put-2.ensures.err
