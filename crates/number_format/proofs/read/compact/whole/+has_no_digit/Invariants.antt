use Rattle.std.proofs.Common.{length}
use Rattle.number_format.proofs.read.compact.whole.+has_no_digit.Given as goal

abbrev pub decreases-has_no_digit : goal.decreases-has_no_digit
decreases-has_no_digit l = length l.text.now
