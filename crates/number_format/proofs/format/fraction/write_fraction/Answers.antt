use Rattle.std.proofs.Common.{subst, arith, true}
use Rattle.decimal_digits.specs.AppendsPrefix.{AppendsPrefix}
use Rattle.fixed_decimal.proofs.Calling.{on_err, second_of_three}
use Rattle.number_format.proofs.lemmas.format.Fractions.{appends_nil, appends_trans, none, text-more, text-split}
use Rattle.number_format.proofs.format.fraction.write_fraction.Goals as goal

pub loop-below-init : goal.loop-below-init
loop-below-init g c =
    let f = c.args.digits.now in
    appends_nil (g.W.Sink.contents c.args.sink.now) _ (none f.symbols f.strategy f.value true)

pub loop-below-preserved : goal.loop-below-preserved
loop-below-preserved g c =
    let f = c.args.digits.now in
    appends_trans _ _ _ _ _ _ (text-more f.symbols f.strategy f.value true c.loop-below.below)
    c.loop-below.invariant c.in_ok-write_magnitude.ensures.ok

pub returns-in_err-write_magnitude-clause-err : goal.returns-in_err-write_magnitude-clause-err
returns-in_err-write_magnitude-clause-err g c =
    let f = c.args.digits.now in
    let split = text-split f.symbols f.strategy f.value c.loop-below.below (omega arith) in
    on_err c.from_residual.result _
    (subst (AppendsPrefix (g.W.Sink.contents c.args.sink.now) (g.W.Sink.contents c.write_magnitude.new.sink)) split.1
    (second_of_three _ _ split.0 _ _ _ c.loop-below.invariant c.in_err-write_magnitude.ensures.err))
