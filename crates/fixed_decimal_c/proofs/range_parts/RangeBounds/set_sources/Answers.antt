use Rattle.fixed_decimal_c.specs.RangeParts.{with_source}
use Rattle.fixed_decimal_c.proofs.lemmas.parts.RangePartLists.{set_at}
use Rattle.fixed_decimal_c.proofs.range_parts.RangeBounds.set_sources.Goals as goal

pub loop-index-preserved : goal.loop-index-preserved
loop-index-preserved c =
    set_at (with_source c.args.self) c.loop-index.parts c.args.parts.now c.loop-index.index _ c.with_source.result
    c.loop-index-test.true c.loop-index.invariant c.with_source.ensures
