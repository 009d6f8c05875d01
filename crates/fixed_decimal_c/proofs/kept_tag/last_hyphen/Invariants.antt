use Rattle.std.proofs.Common.{◌≡◌, ◌≤◌}
use Rattle.fixed_decimal_c.specs.KeptTags.{last_hyphen}
use Rattle.fixed_decimal_c.proofs.kept_tag.last_hyphen.Given as goal

-- the last hyphen so far
abbrev pub invariant-loop-index : goal.invariant-loop-index
invariant-loop-index l = record {
  value : l.end ≡ last_hyphen l.tag l.index;
  at_most : l.end ≤ 16;
}
