use Rattle.std.proofs.Common.{Some, None, refl}
use Rattle.locale_data.proofs.lemmas.tables.FormatRows.{has_formats_if_listed}
use Rattle.locale_data.proofs.formats.own_formats.Goals as goal

pub row_in-requires : goal.row_in-requires
row_in-requires c = has_formats_if_listed c.args.system.now c.requires

pub returns-in-Some : goal.returns-in-Some
returns-in-Some c = record { row = Some c.in-Some.own.now; listed = c.in-Some.ensures; value = refl }

pub returns-in-None : goal.returns-in-None
returns-in-None c = record { row = None; listed = c.in-None.ensures; value = refl }
