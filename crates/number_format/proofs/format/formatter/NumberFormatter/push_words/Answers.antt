use Rattle.std.proofs.Common.{arith}
use Rattle.number_format.proofs.lemmas.read.CompactPatterns.{row_patterns}
use Rattle.number_format.proofs.format.formatter.NumberFormatter.push_words.Goals as goal

pub returns-then-is_same_row : goal.returns-then-is_same_row
returns-then-is_same_row c =
    let same = c.is_same_row.ensures c.if-is_same_row.true in
    row_patterns c.args.self.now c.args.style c.args.has_number c.args.row c.args.patterns.now.items same.0 same.1
    c.requires.before

pub returns : goal.returns
returns c =
    let are = c.loop-index.invariant in
    record { all = λ i below. are.all i (omega (arith, below)); only = are.only }
