use Rattle.std.proofs.Common.{take}
use Rattle.std.specs.Prelude.{All}
use Rattle.number_format.specs.AffixedTexts.{AreToldApart}
use Rattle.number_format.proofs.read.pattern.NumberPattern.find_clash.Given as goal

abbrev pub invariant-loop-other : goal.invariant-loop-other
invariant-loop-other l = All (AreToldApart l.symbols l.self) (take l.other-index l.others)
