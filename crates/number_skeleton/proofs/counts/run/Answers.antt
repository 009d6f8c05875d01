use Rattle.std.proofs.{Common.{◌∙◌, sym, arith}, lemmas.{Grind.common_steps, List.Sums.position_or_len_is}}
use Rattle.number_skeleton.specs.Counts.{is_outside}
use Rattle.number_skeleton.proofs.counts.run.Goals as goal

pub returns-then-is_outside-clause-value : goal.returns-then-is_outside-clause-value
returns-then-is_outside-clause-value c =
    sym (position_or_len_is (is_outside c.args.low c.args.high) c.args.text.now c.loop-index.index 0 (omega arith)
    c.loop-index.invariant (λ _. sym c.is_outside.ensures ∙ c.if-is_outside.true))

pub returns-clause-value : goal.returns-clause-value
returns-clause-value c =
    let e = position_or_len_is (is_outside c.args.low c.args.high) c.args.text.now c.loop-index.index 0
    c.loop-index.auto.index-end c.loop-index.invariant (λ inside. absurd (omega arith)) in
    grind (arith, common_steps, e)
