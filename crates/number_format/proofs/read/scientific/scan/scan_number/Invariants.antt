use Rattle.std.proofs.Common.{length}
use Rattle.number_format.proofs.lemmas.read.ScientificScans.{HasScanned}
use Rattle.number_format.proofs.read.scientific.scan.scan_number.Given as goal

abbrev pub invariant-loop-next : goal.invariant-loop-next
invariant-loop-next l = HasScanned l.symbols l.fn.text l.rest l.scan

abbrev pub decreases-loop-next : goal.decreases-loop-next
decreases-loop-next l = length l.rest
