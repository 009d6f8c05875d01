use Rattle.std.proofs.Common.{◌<◌, ◌≤◌, ◌∙◌, ℕ, Some, length, sym, ap, subst, arith}
use Rattle.locale_names.specs.declared.tables.units.TheConstants.{UNITS}
use Rattle.number_skeleton.specs.Units.{name_at, is_joined}
use Rattle.number_skeleton.proofs.lemmas.units.UnitRows.{joined_next, joined_here, joined_end, units_are}
use Rattle.number_skeleton.proofs.units.unit_joined.Goals as goal

pub returns-in_err-unit : goal.returns-in_err-unit
returns-in_err-unit c =
    rw c.from_residual.ensures (sym (c.loop-index.invariant
    ∙ joined_end c.args.first.now c.args.second.now c.loop-index.index (c.from_index.ensures.none c.in_err-unit.was)))

pub returns-then-is_joined : goal.returns-then-is_joined
returns-then-is_joined c =
    let at = c.in_ok-unit.ensures.some in
    let inside = subst (λ (k : ℕ). k < length UNITS) at c.in_ok-unit.unit.listed in
    let same = sym (c.if-is_joined.ensures ∙ ap (is_joined c.args.first.now c.args.second.now)
    (c.as_bytes.ensures.value ∙ c.name_at.ensures ∙ ap name_at at)) in
    ap (λ (k : ℕ). Some k) at ∙ sym (c.loop-index.invariant
    ∙ joined_here c.args.first.now c.args.second.now c.loop-index.index inside same)

pub loop-index-preserved : goal.loop-index-preserved
loop-index-preserved c =
    let at = c.in_ok-unit.ensures.some in
    let inside = subst (λ (k : ℕ). k < length UNITS) at c.in_ok-unit.unit.listed in
    let other = sym (c.if-is_joined.ensures ∙ ap (is_joined c.args.first.now c.args.second.now)
    (c.as_bytes.ensures.value ∙ c.name_at.ensures ∙ ap name_at at)) in
    c.loop-index.invariant ∙ joined_next c.args.first.now c.args.second.now c.loop-index.index inside other

pub returns : goal.returns
returns c =
    let past : length UNITS ≤ c.loop-index.index = omega (arith, units_are) in
    sym (c.loop-index.invariant ∙ joined_end c.args.first.now c.args.second.now c.loop-index.index past)
