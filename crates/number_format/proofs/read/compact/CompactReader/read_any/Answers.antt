use Rattle.std.proofs.{Common.{arith}, lemmas.Int.ints}
use Rattle.number_format.proofs.lemmas.read.CompactOwn.{pattern_exponent}
use Rattle.number_format.proofs.read.compact.CompactReader.read_any.Goals as goal

pub times-requires : goal.times-requires
times-requires g c =
    let small = pattern_exponent c.self.inside.formatter c.self.inside.style c.self.inside.reader c.self.invariant.0
    c.in_ok-value.pattern.now c.in_ok-value.ensures.ok.0.listed in
    (small.0, omega (arith, ints, small.1))
