use Rattle.std.proofs.{lemmas.Str.chars_past_char, Common.arith}
use Rattle.number_format.proofs.format.trimmed.split_first.Goals as goal

pub returns : goal.returns
returns c = grind (arith, chars_past_char)
