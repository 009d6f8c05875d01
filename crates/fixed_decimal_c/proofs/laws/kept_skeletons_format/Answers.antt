use Rattle.fixed_decimal_c.proofs.lemmas.formatter.Made.{formats_by_skeleton}
use Rattle.fixed_decimal_c.proofs.laws.kept_skeletons_format.Goals as goal

pub returns : goal.returns
returns c = formats_by_skeleton
