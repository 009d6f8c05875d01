use Rattle.std.proofs.Common.{◌≡◌, ℕ, ◌+◌, ◌-◌, ◌∙◌, Some, drop, sym, ap, arith}
use Rattle.number_skeleton.specs.Identifiers.{after_factor, are_units}
use Rattle.number_skeleton.proofs.lemmas.units.JoinedUnits.{more_units, no_more_units, not_zero}
use Rattle.number_skeleton.proofs.identifiers.are_units.Goals as goal

pub loop-preserved : goal.loop-preserved
loop-preserved c =
    let mixed = c.args.is_mixed in
    let n = c.args.count in
    let i = c.loop.counter in
    let rest = c.in-Some.rest.now in
    let is : after_factor c.loop.units.now ≡ Some rest = sym c.in-Some.ensures in
    let joined = not_zero c.joiner_length-joiner.result _ c.joiner_length-joiner.ensures c.if-joiner-eq0.false in
    let after = c.after-units.ensures ∙ ap (λ (k : ℕ). drop k rest) c.joiner_length-joiner.ensures in
    c.loop.invariant
    ∙ more_units mixed n i c.loop.units.now rest c.loop-test.true is (sym c.if-is_empty.ensures) joined
    ∙ ap (are_units mixed (n - (i + 1))) (sym after)

pub returns : goal.returns
returns c =
    let mixed = c.args.is_mixed in
    let units = c.loop.units.now in
    let none : c.args.count - c.loop.counter ≡ 0 = omega arith in
    sym (c.loop.invariant ∙ ap (λ (k : ℕ). are_units mixed k units) none ∙ no_more_units mixed units)
