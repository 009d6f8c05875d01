use Rattle.std.proofs.Common.{◌<◌, ◌≤◌, ◌+◌, ◌∙◌, ℕ, length, drop, sym, ap, subst, arith}
use Rattle.locale_names.specs.declared.tables.units.TheConstants.{UNITS}
use Rattle.number_skeleton.specs.{Identifiers.{longer, longest_name, unit_length}, Units.name_at}
use Rattle.number_skeleton.proofs.lemmas.units.UnitRows.{longest_next, longest_end, units_are}
use Rattle.number_skeleton.proofs.identifiers.unit_length.Goals as goal

pub loop-index-init : goal.loop-index-init
loop-index-init c = ap (λ (n : ℕ). longest_name c.args.text.now n UNITS) (sym c.other_length-longest.ensures)

pub returns-in_default : goal.returns-in_default
unfolding unit_length
returns-in_default c =
    sym (c.loop-index.invariant
    ∙ longest_end c.args.text.now c.loop-index.longest c.loop-index.index (c.from_index.ensures.none c.in_default.is))

pub loop-index-preserved : goal.loop-index-preserved
loop-index-preserved c =
    let text = c.args.text.now in
    let i = c.loop-index.index in
    let at = c.in-Some.ensures.some in
    let inside = subst (λ (k : ℕ). k < length UNITS) at c.in-Some.unit.listed in
    let word = c.as_bytes.ensures.value ∙ c.name_at.ensures ∙ ap name_at at in
    let next = c.longer-longest.ensures ∙ ap (longer text c.loop-index.longest) word in
    c.loop-index.invariant ∙ longest_next text c.loop-index.longest i inside
    ∙ ap (λ (n : ℕ). longest_name text n (drop (i + 1) UNITS)) (sym next)

pub returns : goal.returns
unfolding unit_length
returns c =
    let past : length UNITS ≤ c.loop-index.index = omega (arith, units_are) in
    sym (c.loop-index.invariant ∙ longest_end c.args.text.now c.loop-index.longest c.loop-index.index past)
