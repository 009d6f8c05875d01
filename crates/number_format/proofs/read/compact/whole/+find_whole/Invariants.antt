use Rattle.std.proofs.Common.{length}
use Rattle.number_format.proofs.read.compact.whole.+find_whole.Given as goal

abbrev pub decreases-find_whole : goal.decreases-find_whole
decreases-find_whole l = length l.patterns.now
