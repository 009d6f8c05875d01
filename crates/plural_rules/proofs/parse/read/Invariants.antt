use Rattle.plural_rules.proofs.lemmas.parse.ParserInvariants.{Checked}
use Rattle.plural_rules.proofs.parse.read.Given as goal

-- the state, the categories, the numbers and the builder are those after the bytes so far
abbrev pub invariant-loop-at : goal.invariant-loop-at
invariant-loop-at l = Checked l.text l.at l.state l.seen l.numbers l.builder l.is_built
