use Rattle.std.proofs.Common.{◌*◌, arith}
use Rattle.number_format.proofs.lemmas.read.CompactPatterns.{are_patterns}
use Rattle.number_format.proofs.format.formatter.NumberFormatter.word_patterns.Goals as goal

pub returns : goal.returns
returns c =
    are_patterns c.args.self.now c.args.style c.requires c.args.has_number (c.loop-row.row * 216)
    c.loop-row.patterns.items (omega arith) c.loop-row.invariant
