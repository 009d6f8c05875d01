use Rattle.std.proofs.{lemmas.Str.chars_past_char, Common.arith}
use Rattle.decimal_format.proofs.reader.lenient.split_first_char.Goals as goal

pub returns : goal.returns
returns c = grind (arith, chars_past_char)
