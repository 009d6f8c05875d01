use Rattle.std.proofs.Common.{◌≡◌, ◌++◌, drop, take, map}
use Rattle.fixed_decimal_c.specs.RangeParts.{with_source}
use Rattle.fixed_decimal_c.proofs.range_parts.RangeBounds.set_sources.Given as goal

-- the parts before the index have their source
abbrev pub invariant-loop-index : goal.invariant-loop-index
invariant-loop-index l =
    l.parts ≡ map (with_source l.self) (take l.index l.initial.parts) ++ drop l.index l.initial.parts
