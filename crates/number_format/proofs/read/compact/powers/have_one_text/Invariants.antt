use Rattle.std.proofs.Common.{take}
use Rattle.std.specs.Prelude.{All}
use Rattle.number_format.specs.CompactReading.{HasOneText}
use Rattle.number_format.proofs.read.compact.powers.have_one_text.Given as goal

abbrev pub invariant-loop-other : goal.invariant-loop-other
invariant-loop-other l = All (HasOneText l.first) (take l.other-index l.others)
