use Rattle.std.proofs.Common.{refl, sym, ap, unwrap_or}
use Rattle.locale_data.proofs.lemmas.locales.IndexedRows.{at_some, at_none}
use Rattle.locale_names.proofs.entries.run_in.Goals as goal

pub returns-in-Some : goal.returns-in-Some
returns-in-Some c =
    ap (λ o. unwrap_or o 0) (sym (at_some c.args.runs.now _ refl c.args.index c.in-Some.run' c.in-Some.ensures.lookup))

pub returns-in-None : goal.returns-in-None
returns-in-None c =
    ap (λ o. unwrap_or o 0) (sym (at_none c.args.runs.now _ refl c.args.index c.in-None.ensures.lookup))
