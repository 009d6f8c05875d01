use Rattle.std.proofs.Common.{◌≡◌, ℕ, ◌<◌, ◌==◌, false, get_or}
use Rattle.locale_data.specs.Tag.{tag_byte}
use Rattle.locale_data.proofs.tag.first_subtag.Given as goal

abbrev pub invariant-loop-index : goal.invariant-loop-index
invariant-loop-index l = (k : ℕ) → k < l.index → (tag_byte (get_or l.tag k 0) == 45) ≡ false
