use Rattle.std.proofs.Common.{◌≡◌, length, map, take}
use Rattle.number_format.specs.NumberReading.{form_of}
use Rattle.number_format.proofs.read.number_reader.NumberReader.alternatives.Given as goal

abbrev pub invariant-loop-index : goal.invariant-loop-index
invariant-loop-index l =
    (length l.alternatives ≡ 44) × (map form_of (take l.index l.alternatives) ≡ take l.index l.forms)
