use Rattle.decimal_digits.proofs.lemmas.digits.Packing.{no_digits}
use Rattle.decimal_digits.proofs.digits.packed.PackedDigitsDigitStore.empty.Goals as goal

pub invariant_of-result-clause-padded : goal.invariant_of-result-clause-padded
invariant_of-result-clause-padded c = rw c.from_buf-bytes.ensures.items no_digits
