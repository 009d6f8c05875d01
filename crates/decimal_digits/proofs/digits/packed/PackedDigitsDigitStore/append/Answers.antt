use Rattle.std.proofs.Common.{arith}
use Rattle.decimal_digits.proofs.lemmas.digits.Packing.{packing}
use Rattle.decimal_digits.proofs.digits.packed.PackedDigitsDigitStore.append.Goals as goal

pub append_digits-requires : goal.append_digits-requires
append_digits-requires c = grind (arith, packing)

pub invariant_of-self-2 : goal.invariant_of-self-2
invariant_of-self-2 c = grind (arith, packing)

pub returns : goal.returns
returns c = grind (arith, packing)
