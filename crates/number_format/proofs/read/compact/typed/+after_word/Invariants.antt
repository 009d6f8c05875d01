use Rattle.std.proofs.Common.{length}
use Rattle.std.specs.Str.{chars}
use Rattle.number_format.proofs.read.compact.typed.+after_word.Given as goal

abbrev pub decreases-after_word : goal.decreases-after_word
decreases-after_word l = length (chars l.word.now)
