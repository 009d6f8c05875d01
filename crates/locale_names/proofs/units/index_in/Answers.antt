use Rattle.std.proofs.{Common.{Ok, Err, sym, rules}, lemmas.Fn.always_returns_same}
use Rattle.std.specs.{Cmp.Lexicographic.slice_cmp, Ordering.nat_cmp}
use Rattle.locale_names.specs.Texts.{short_bytes}
use Rattle.locale_names.proofs.lemmas.units.SortedUnits.{searched}
use Rattle.locale_names.proofs.units.index_in.Goals as goal

pub returns-in-Ok-clause-value : goal.returns-in-Ok-clause-value
returns-in-Ok-clause-value c =
    let name = c.args.name.now in
    let found = c.in-Ok.ensures.position (λ unit. slice_cmp nat_cmp (short_bytes unit.name) name)
    (always_returns_same _ _ _ (λ a r next called. search rules)) in
    sym (searched c.args.units.now c.requires name (Ok c.in-Ok.index) c.in-Ok.ensures.bound found)

pub returns-in-Err-clause-value : goal.returns-in-Err-clause-value
returns-in-Err-clause-value c =
    let name = c.args.name.now in
    let found = c.in-Err.ensures.position (λ unit. slice_cmp nat_cmp (short_bytes unit.name) name)
    (always_returns_same _ _ _ (λ a r next called. search rules)) in
    sym (searched c.args.units.now c.requires name (Err c.in-Err.field-0) c.in-Err.ensures.bound found)
