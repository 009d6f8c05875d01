use Rattle.std.proofs.Common.{◌≡◌, Some, None, refl, rules}
use Rattle.cli.specs.declared.words.targets.NamedTarget.TheVariants.{One}
use Rattle.cli.proofs.lemmas.lines.NamedRuns.{line_filter, field_filter, fields_filter}
use Rattle.cli.proofs.lines.named_filter.NamedFilter.filter.Goals as goal

pub returns-in-One-None-default-clause-ok : goal.returns-in-One-None-default-clause-ok
returns-in-One-None-default-clause-ok c =
    let is : c.args.self.now.target ≡ One None c.in-One-None-default.conversion = search rules in
    line_filter c.args.self.now c.args.header.now _ c.filter.result c.filter.ensures is

pub returns-in-One-Some-default-clause-ok : goal.returns-in-One-Some-default-clause-ok
returns-in-One-Some-default-clause-ok c =
    let it = c.in-One-Some-default in
    let is : c.args.self.now.target ≡ One (Some it.field) it.conversion = search rules in
    field_filter c.args.self.now c.args.header.now it.field it.conversion _ c.filter-in-One-Some-default.result
    c.filter-in-One-Some-default.ensures is (refl, refl, refl, refl)

pub returns-in_ok-fields-in-Fields-clause-ok : goal.returns-in_ok-fields-in-Fields-clause-ok
returns-in_ok-fields-in-Fields-clause-ok c =
    fields_filter c.args.self.now c.args.header.now c.in-Fields.field c.in-Fields.named c.in_ok-fields-in-Fields.fields
    c.filter-in-Fields.result c.filter-in-Fields.ensures c.in-Fields.is
    (rw c.as_slice.ensures.value at c.in_ok-fields-in-Fields.ensures.ok)
