use Rattle.number_format.proofs.lemmas.read.{CompactTexts.{is_shown, reads}, ShownValues.shown_value}
use Rattle.number_format.proofs.laws.formatted_words_read_back.Goals as goal

pub returns : goal.returns
returns c = λ inline f style v u text result words can valid is shown.
    reads f style words can inline text u shown.number.exponent result (shown_value f v u valid shown)
    (is_shown f style words can v u valid shown text is)
