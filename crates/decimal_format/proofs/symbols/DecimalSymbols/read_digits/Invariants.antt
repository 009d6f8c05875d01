use Rattle.std.proofs.Common.{ℕ, List}
use Rattle.decimal_format.specs.Grouping.{ends_group}
use Rattle.decimal_format.proofs.lemmas.reader.Scans.{IsReadTo}
use Rattle.decimal_format.proofs.symbols.DecimalSymbols.read_digits.Given as goal

abbrev pub invariant-loop-left : goal.invariant-loop-left
invariant-loop-left g l = (digits : List ℕ)
    × IsReadTo l.self (ends_group l.self.sizes) l.count (g.T.Input.bytes l.fn.text) (g.T.Input.bytes l.rest) l.left
    l.all l.none digits

abbrev pub decreases-loop-left : goal.decreases-loop-left
decreases-loop-left g l = l.left
