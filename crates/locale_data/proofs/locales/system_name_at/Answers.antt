use Rattle.std.proofs.Common.{Some, sym, ◌∙◌, ap}
use Rattle.std.specs.Option.{option_map}
use Rattle.locale_data.specs.{declared.tables.{rows.symbols.DecimalSystem.DecimalSystem, symbols.TheConstants.NUMBERING_SYSTEMS}, Rows.unpadded}
use Rattle.locale_data.proofs.lemmas.{locales.IndexedRows.{at_some, at_none, without_system}, tables.EachRow.contains_at}
use Rattle.locale_data.proofs.locales.system_name_at.Goals as goal

pub name_of-requires : goal.name_of-requires
name_of-requires c =
    contains_at NUMBERING_SYSTEMS c.args.id.system c.in-Some.system.now
    (at_some _ _ c.numbering_systems.ensures c.args.id.system c.in-Some.system c.in-Some.ensures.lookup)

pub returns-in-Some-clause-value : goal.returns-in-Some-clause-value
returns-in-Some-clause-value c =
    ap Some c.name_of.ensures
    ∙ sym (ap (option_map (λ (s : DecimalSystem). unpadded s.name))
    (at_some _ _ c.numbering_systems.ensures c.args.id.system c.in-Some.system c.in-Some.ensures.lookup))

pub returns-in-None-clause-value : goal.returns-in-None-clause-value
returns-in-None-clause-value c =
    sym (ap (option_map (λ (s : DecimalSystem). unpadded s.name))
    (at_none _ _ c.numbering_systems.ensures c.args.id.system c.in-None.ensures.lookup))

pub returns-in-None-clause-none : goal.returns-in-None-clause-none
returns-in-None-clause-none c =
    without_system c.args.id (at_none _ _ c.numbering_systems.ensures c.args.id.system c.in-None.ensures.lookup)
