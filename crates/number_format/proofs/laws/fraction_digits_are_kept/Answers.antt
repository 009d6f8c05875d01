use Rattle.number_format.proofs.lemmas.digits.DigitLaws.{keeps_digits}
use Rattle.number_format.proofs.laws.fraction_digits_are_kept.Goals as goal

pub returns : goal.returns
returns c = keeps_digits
