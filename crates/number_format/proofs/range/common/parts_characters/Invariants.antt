use Rattle.std.proofs.Common.{◌≡◌, ◌*◌, ◌≤◌, take}
use Rattle.number_format.specs.{RangeText.characters, TextParts.parts_text}
use Rattle.number_format.proofs.range.common.parts_characters.Given as goal

abbrev pub invariant-loop-part : goal.invariant-loop-part
invariant-loop-part l =
    (l.total ≡ characters (parts_text (take l.part-index l.parts))) × (l.total ≤ 255 * l.part-index)
