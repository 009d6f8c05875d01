use Rattle.std.proofs.Common.{arith}
use Rattle.number_format.proofs.lemmas.read.WholeTexts.{none_begins}
use Rattle.number_format.proofs.read.compact.whole.begins_with_digit.Goals as goal

pub returns : goal.returns
returns c =
    let none = none_begins c.args.symbols.now c.args.text.now
    (λ k few rest. c.loop-digit.invariant k (omega (arith, few)) rest) in
    (λ t. absurd (cc), λ begins. absurd (none begins))
