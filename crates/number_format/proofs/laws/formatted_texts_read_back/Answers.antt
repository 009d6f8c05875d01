use Rattle.number_format.proofs.lemmas.read.{ShownValues.shown_value, WholeUnits.reads_said}
use Rattle.number_format.proofs.laws.formatted_texts_read_back.Goals as goal

pub returns : goal.returns
returns c = λ inline f v u text result standard can valid is shown.
    reads_said f standard can inline v u text result (shown_value f v u valid shown) is shown
