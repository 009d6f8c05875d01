use Rattle.std.proofs.Common.{◌≡◌, ◌*◌, ◌≤◌, length, take}
use Rattle.number_format.specs.TextParts.{parts_text}
use Rattle.number_format.proofs.format.short_affixes.joined.Given as goal

abbrev pub invariant-loop-part : goal.invariant-loop-part
invariant-loop-part g l =
    (l.text.bytes ≡ parts_text (take l.part-index l.parts)) × (length l.text.bytes ≤ 255 * l.part-index)
