use Rattle.std.proofs.Common.{◌≡◌, ◌≤◌, nat_eq, length, drop}
use Rattle.std.specs.List.{starts_with}
use Rattle.locale_data.specs.Tag.{compared}
use Rattle.locale_data.proofs.tag.begins_with.Given as goal

abbrev pub invariant-loop-index : goal.invariant-loop-index
invariant-loop-index l =
    (starts_with nat_eq (compared l.tag) l.text
    ≡ starts_with nat_eq (compared (drop l.index l.tag)) (drop l.index l.text))
    × (l.index ≤ length l.tag)
