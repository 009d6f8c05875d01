use Rattle.locale_data.proofs.lemmas.tables.CurrencyRows.{override-below}
use Rattle.locale_data.proofs.currency.override_of.Goals as goal

pub returns-in-Some-clause-listed : goal.returns-in-Some-clause-listed
returns-in-Some-clause-listed c =
    override-below c.args.currency.now c.args.tag.now c.in-Some.row.now c.requires c.in-Some.ensures
