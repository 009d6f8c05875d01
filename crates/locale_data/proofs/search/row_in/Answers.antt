use Rattle.std.proofs.Common.{subst}
use Rattle.std.specs.Option.{option_copied}
use Rattle.locale_data.specs.Rows.{IsRowOf}
use Rattle.locale_data.proofs.search.row_in.Goals as goal

pub row_of-requires : goal.row_of-requires
row_of-requires g c = rw c.part.ensures c.requires

pub returns : goal.returns
returns g c =
    subst (λ rows. IsRowOf g.R.Row.name rows c.args.tag.now (option_copied c.row_of.result)) c.part.ensures
    c.row_of.ensures
