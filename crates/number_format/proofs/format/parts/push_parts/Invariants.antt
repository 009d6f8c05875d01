use Rattle.std.proofs.Common.{◌≡◌, ◌++◌, take}
use Rattle.number_format.specs.TextParts.{parts_text}
use Rattle.number_format.proofs.format.parts.push_parts.Given as goal

abbrev pub invariant-loop-part : goal.invariant-loop-part
invariant-loop-part l = l.block.0 ≡ l.initial.block.0 ++ parts_text (take l.part-index l.parts)
