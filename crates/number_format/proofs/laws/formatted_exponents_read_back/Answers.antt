use Rattle.number_format.proofs.lemmas.read.FormattedExponents.{reads}
use Rattle.number_format.proofs.laws.formatted_exponents_read_back.Goals as goal

pub returns : goal.returns
returns c = λ inline ids o f form v u text result at h can valid is shown read.
    reads ids o f form at h can v u valid shown text is inline result read
