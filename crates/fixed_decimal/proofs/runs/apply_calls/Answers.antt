use Rattle.std.proofs.Common.{rules}
use Rattle.fixed_decimal.proofs.lemmas.runs.RunInvariant.{continues, fails_with, stops_at}
use Rattle.fixed_decimal.specs.Calls.{CallsFail}
use Rattle.fixed_decimal.proofs.runs.apply_calls.Goals as goal

pub returns-in_err-make_call-clause-fails_with : goal.returns-in_err-make_call-clause-fails_with
returns-in_err-make_call-clause-fails_with g c =
    let k : CallsFail g.D.DigitStore.L c.in_err-make_call.field-0.0 c.args.value.now c.args.calls.now =
    fails_with c.loop-at.invariant _ c.loop-at-test.true g.D.DigitStore.L _ c.in_err-make_call.ensures.err in
    search (rules, k)

pub returns-in_err-make_call-clause-stops_at : goal.returns-in_err-make_call-clause-stops_at
returns-in_err-make_call-clause-stops_at g c =
    let k =
    stops_at c.loop-at.invariant _ c.loop-at-test.true g.D.DigitStore.L _ c.make_call.new.value
    c.in_err-make_call.ensures.err c.in_err-make_call.ensures.unchanged in
    search (rules, k)

pub loop-at-preserved : goal.loop-at-preserved
loop-at-preserved g c = continues c.loop-at.invariant _ c.loop-at-test.true _ c.in_ok-make_call.ensures.ok
