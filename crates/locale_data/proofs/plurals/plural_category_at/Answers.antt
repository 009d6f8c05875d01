use Rattle.std.proofs.Common.{ap, sym}
use Rattle.std.specs.Option.{option_map}
use Rattle.locale_data.specs.Plurals.{text_of}
use Rattle.locale_data.proofs.lemmas.tables.RulesTexts.{category_by_rows}
use Rattle.locale_data.proofs.plurals.plural_category_at.Goals as goal

pub returns-in-Some-clause-some : goal.returns-in-Some-clause-some
returns-in-Some-clause-some g c =
    category_by_rows c.args.rules c.in-Some.set c.args.number.now c.category_in.result (sym c.in-Some.ensures)
    c.category_in.ensures

pub returns-in-None-clause-none : goal.returns-in-None-clause-none
returns-in-None-clause-none g c = ap (option_map text_of) (sym c.in-None.ensures)
