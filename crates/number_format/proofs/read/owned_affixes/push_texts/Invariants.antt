use Rattle.std.proofs.Common.{◌≡◌, ◌++◌, take}
use Rattle.std.specs.String.{string_bytes}
use Rattle.number_format.specs.TextParts.{parts_text}
use Rattle.number_format.proofs.read.owned_affixes.push_texts.Given as goal

abbrev pub invariant-loop-part : goal.invariant-loop-part
invariant-loop-part l =
    string_bytes l.text ≡ string_bytes l.fn.text ++ parts_text (take l.part-index l.parts)
