use Rattle.std.proofs.Common.{◌≡◌, take}
use Rattle.number_skeleton.specs.Identifiers.{longest_word}
use Rattle.number_skeleton.proofs.identifiers.longest_word.Given as goal

abbrev pub invariant-loop-word : goal.invariant-loop-word
invariant-loop-word l = l.longest ≡ longest_word (take l.word-index l.words) l.text
