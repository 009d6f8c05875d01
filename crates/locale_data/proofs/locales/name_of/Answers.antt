use Rattle.std.proofs.Common.{subst, sym}
use Rattle.std.specs.Str.{IsUtf8}
use Rattle.locale_data.proofs.lemmas.tables.EachRow.{has_text_if_listed}
use Rattle.locale_data.proofs.locales.name_of.Goals as goal

pub unreachable-requires : goal.unreachable-requires
unreachable-requires c =
    c.in-Err.ensures.cases.0 (subst IsUtf8 (sym c.unpadded.ensures) (has_text_if_listed c.args.system.now c.requires))
