use Rattle.std.proofs.Common.{◌≡◌, ◌++◌, ℕ, List, drop}
use Rattle.std.specs.Prelude.{◌↔◌}
use Rattle.number_format.specs.TextParts.{parts_text}
use Rattle.number_format.proofs.read.owned_affixes.cut_parts.Given as goal

-- what may follow all parts may follow those that are left
abbrev pub invariant-loop-part : goal.invariant-loop-part
invariant-loop-part l =
    (x : List ℕ) → (l.fn.text ≡ parts_text l.parts ++ x) ↔ (l.rest ≡ parts_text (drop l.part-index l.parts) ++ x)
