use Rattle.number_format.proofs.lemmas.notation.Scales.{keeps_exponent}
use Rattle.number_format.proofs.laws.the_exponent_is_of_the_rounded_number.Goals as goal

pub returns : goal.returns
returns c = λ notation o v. keeps_exponent notation o v
