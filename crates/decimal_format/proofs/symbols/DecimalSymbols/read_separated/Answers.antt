use Rattle.std.proofs.Common.{arith}
use Rattle.decimal_format.proofs.lemmas.reader.Scans.{shorter, shorter_by_separator, spelled_push, spelled_skip, spelled_most, spelled_none}
use Rattle.decimal_format.proofs.symbols.DecimalSymbols.read_separated.Goals as goal

pub loop-count-smaller-in-Some : goal.loop-count-smaller-in-Some
loop-count-smaller-in-Some g c = grind (arith, shorter)

pub loop-count-preserved-in-Some : goal.loop-count-preserved-in-Some
loop-count-preserved-in-Some g c = grind (arith, spelled_push)

pub loop-count-smaller : goal.loop-count-smaller
loop-count-smaller g c = grind (arith, shorter_by_separator)

pub loop-count-preserved : goal.loop-count-preserved
loop-count-preserved g c = grind (arith, spelled_skip)

pub returns-in_default-cut : goal.returns-in_default-cut
returns-in_default-cut g c = λ ds spelled.
    let none = rw (c.as_bytes.ensures.value, c.grouping_separator.ensures.value) at c.in_default-cut.ensures in
    spelled_most c.args.self.now c.requires (g.T.Input.bytes c.loop-count.rest) (c.loop-count.invariant.read ds spelled)
    c.args.most c.loop-count.invariant.at_most
    (λ few. spelled_none c.args.self.now c.requires (g.T.Input.bytes c.loop-count.rest) c.in_default.ensures none)
