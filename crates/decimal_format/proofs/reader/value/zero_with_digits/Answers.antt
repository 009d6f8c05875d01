use Rattle.std.proofs.{Common.arith, lemmas.Int.to_z_pos}
use Rattle.decimal_format.proofs.lemmas.reader.Values.{zero_moved}
use Rattle.decimal_format.proofs.reader.value.zero_with_digits.Goals as goal

pub returns : goal.returns
returns g c = grind (arith, to_z_pos, zero_moved)
