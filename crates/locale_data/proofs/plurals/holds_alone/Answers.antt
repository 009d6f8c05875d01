use Rattle.std.proofs.Common.{sym}
use Rattle.locale_data.proofs.lemmas.tables.HeldAlone.{alone_by_rows, none_alone}
use Rattle.locale_data.proofs.plurals.holds_alone.Goals as goal

pub returns-in-Some : goal.returns-in-Some
returns-in-Some c =
    alone_by_rows c.args.rules c.args.category c.args.number c.in-Some.set c.are_alone_in.result (sym c.in-Some.ensures)
    c.are_alone_in.ensures

pub returns-in-None : goal.returns-in-None
returns-in-None c = (
  λ t. absurd (cc),
  λ has. absurd (none_alone c.args.rules c.args.category c.args.number (sym c.in-None.ensures) has),
)
