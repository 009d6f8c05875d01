use Rattle.std.proofs.Common.{◌≡◌, ◌≤◌, ◌++◌, length}
use denote.Text.{Utf8}
use denote.Shadow.{shadow}
use Rattle.std.specs.Str.{chars}
use Rattle.decimal_format.specs.Lenient.{replaced}
use Rattle.decimal_format.proofs.symbols.DecimalSymbols.normal_block.Given as goal

abbrev pub invariant-loop-c : goal.invariant-loop-c
invariant-loop-c l = shadow (Utf8 l.rest) × (replaced l.self l.fn.text ≡ l.block.0 ++ replaced l.self l.rest)
    × (length l.block.0 ≤ 192)

abbrev pub decreases-loop-c : goal.decreases-loop-c
decreases-loop-c l = length (chars l.rest)
