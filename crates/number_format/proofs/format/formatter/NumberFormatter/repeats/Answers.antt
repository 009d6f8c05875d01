use Rattle.number_format.proofs.lemmas.read.CompactKeys.{repeats_magnitude}
use Rattle.number_format.proofs.format.formatter.NumberFormatter.repeats.Goals as goal

pub returns-then-is_same_row : goal.returns-then-is_same_row
returns-then-is_same_row c = λ t.
    let same = c.is_same_row.ensures c.if-is_same_row.true in
    repeats_magnitude c.args.self.now c.args.style c.args.index same.0 same.1
