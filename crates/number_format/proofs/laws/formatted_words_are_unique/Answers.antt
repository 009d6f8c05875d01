use Rattle.number_format.proofs.lemmas.read.{CompactTexts.{is_shown, one_number}, ShownValues.shown_value}
use Rattle.number_format.proofs.laws.formatted_words_are_unique.Goals as goal

pub returns : goal.returns
returns c = λ f style v w x y text words can valid valid' a b p q.
    one_number f style words can text x y p.number.exponent q.number.exponent (shown_value f v x valid p)
    (shown_value f w y valid' q) (is_shown f style words can v x valid p text a)
    (is_shown f style words can w y valid' q text b)
