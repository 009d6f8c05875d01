use Rattle.std.proofs.Common.{◌≡◌, drop}
use Rattle.locale_data.specs.Tag.{from_first}
use Rattle.locale_data.proofs.tag.from_first.Given as goal

abbrev pub invariant-loop-index : goal.invariant-loop-index
invariant-loop-index l = from_first l.text l.tag ≡ from_first l.text (drop l.index l.tag)
