use Rattle.number_skeleton.proofs.lemmas.reading.Pieces.{IsRead}
use Rattle.number_skeleton.proofs.reading.read_choices.Given as goal

abbrev pub invariant-loop-index : goal.invariant-loop-index
invariant-loop-index l = IsRead l.text l.reading l.start l.index
