use Rattle.std.proofs.Common.{sym, ◌∙◌}
use Rattle.locale_data.proofs.lemmas.{tables.EachRow.has_system_if_listed, locales.Unknown.{named_system, default_system}}
use Rattle.locale_data.proofs.locales.system_index.Goals as goal

pub returns-in-Some-clause-value : goal.returns-in-Some-clause-value
returns-in-Some-clause-value c =
    c.system_named.ensures.value
    ∙ sym (named_system c.args.tag.now c.in-Some.name.now c.args.locale.now (sym c.in-Some.ensures))

pub returns-in-None-clause-value : goal.returns-in-None-clause-value
returns-in-None-clause-value c = sym (default_system c.args.tag.now c.args.locale.now (sym c.in-None.ensures))

pub returns-in-None-clause-inside : goal.returns-in-None-clause-inside
returns-in-None-clause-inside c = has_system_if_listed c.args.locale.now c.requires
