use Rattle.std.proofs.Common.{◌≡◌, ◌*◌, ◌≤◌, length, take}
use Rattle.number_format.specs.TextParts.{parts_text}
use Rattle.number_format.proofs.format.parts.parts_length.Given as goal

abbrev pub invariant-loop-part : goal.invariant-loop-part
invariant-loop-part l =
    (l.total ≡ length (parts_text (take l.part-index l.parts))) × (l.total ≤ 255 * l.part-index)
