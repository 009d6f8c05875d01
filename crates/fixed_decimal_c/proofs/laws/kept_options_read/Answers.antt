use Rattle.fixed_decimal_c.proofs.lemmas.formatter.Made.{reads_by_options}
use Rattle.fixed_decimal_c.proofs.laws.kept_options_read.Goals as goal

pub returns : goal.returns
returns c = reads_by_options
