use Rattle.std.proofs.Common.{refl}
use Rattle.locale_data.proofs.compact.runs_of.Goals as goal

pub returns : goal.returns
returns c = rw (c.part.ensures, c.rows_of.ensures) refl
