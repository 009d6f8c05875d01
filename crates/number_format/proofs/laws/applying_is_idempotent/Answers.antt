use Rattle.number_format.proofs.lemmas.digits.DigitLaws.{applies_once}
use Rattle.number_format.proofs.laws.applying_is_idempotent.Goals as goal

pub returns : goal.returns
returns c = applies_once
