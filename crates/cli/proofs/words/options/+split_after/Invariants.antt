use Rattle.std.proofs.Common.{length}
use Rattle.cli.proofs.words.options.+split_after.Given as goal

-- proposed from what the function passes where it calls itself
abbrev pub decreases-split_after : goal.decreases-split_after
decreases-split_after l = length l.words.now
