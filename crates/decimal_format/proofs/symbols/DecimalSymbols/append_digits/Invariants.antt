use Rattle.std.proofs.Common.{ℕ, ◌-◌, List}
use Rattle.decimal_format.specs.Scanning.{HoldsDigits, HasPart}
use Rattle.decimal_format.proofs.lemmas.reader.Values.{IsAppended}
use Rattle.decimal_format.proofs.symbols.DecimalSymbols.append_digits.Given as goal

abbrev pub invariant-loop-done : goal.invariant-loop-done
invariant-loop-done g l = (ds es : List ℕ) → HoldsDigits l.whole l.written l.initial.value ds
    → HasPart l.self g.T.Input.bytes l.digits es
    → IsAppended l.self l.whole l.written l.done (g.T.Input.bytes l.rest) l.value ds es

abbrev pub decreases-loop-done : goal.decreases-loop-done
decreases-loop-done g l = l.digits.count - l.done
