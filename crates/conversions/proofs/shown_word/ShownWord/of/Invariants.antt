use Rattle.std.proofs.Common.{◌≡◌, ◌-◌, ◌≤◌, ◌++◌, length, drop}
use Rattle.std.specs.Str.{chars}
use Rattle.conversions.specs.ShownWord.{fitting, shown}
use Rattle.conversions.proofs.shown_word.ShownWord.of.Given as goal

-- what is shown so far, and what fits of the other characters, are what is shown of the word
abbrev pub invariant-loop-character : goal.invariant-loop-character
invariant-loop-character l = record {
  room : length l.text.bytes ≤ 40;
  all : l.text.bytes ++ fitting (40 - length l.text.bytes) (drop (length l.yielded) (chars l.word)) ≡ shown l.word;
}
