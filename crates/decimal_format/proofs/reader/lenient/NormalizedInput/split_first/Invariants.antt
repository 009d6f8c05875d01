use Rattle.std.proofs.Common.{◌≡◌, length, drop}
use denote.Text.{Utf8}
use denote.Shadow.{shadow}
use Rattle.std.specs.Str.{chars}
use Rattle.decimal_format.specs.Lenient.{replaced}
use Rattle.decimal_format.proofs.reader.lenient.NormalizedInput.split_first.Given as goal

abbrev pub invariant-loop-c : goal.invariant-loop-c
invariant-loop-c l = shadow (Utf8 l.text)
    × (drop l.self.read (replaced l.self.symbols.now l.self.text.now)
    ≡ drop l.read (replaced l.self.symbols.now l.text))

abbrev pub decreases-loop-c : goal.decreases-loop-c
decreases-loop-c l = length (chars l.text)
