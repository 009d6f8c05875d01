use Rattle.number_format.proofs.lemmas.read.{ShownValues.shown_value, WholeUnits.are_said}
use Rattle.number_format.proofs.laws.formatted_texts_are_unique.Goals as goal

pub returns : goal.returns
returns c = λ f v w x y text standard can valid valid' a b p q.
    are_said f standard can v w x y text (shown_value f v x valid p) (shown_value f w y valid' q) a b p q
