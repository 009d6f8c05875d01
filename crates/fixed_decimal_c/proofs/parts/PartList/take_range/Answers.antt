use Rattle.std.proofs.Common.{refl, ◌∙◌}
use Rattle.number_format.specs.{FormattedRanges.shown_range, RangeText.range_pieces}
use Rattle.fixed_decimal_c.specs.RangeParts.{all_pieces}
use Rattle.fixed_decimal_c.proofs.lemmas.parts.{PartLists.{counted, filled}, RangePartLists.{all_taken, bounds}}
use Rattle.fixed_decimal_c.proofs.parts.PartList.take_range.Goals as goal

pub returns-clause-same_array : goal.returns-clause-same_array
returns-clause-same_array c =
    let p = range_pieces (shown_range c.args.range.now) in
    (all_taken c.args.self.now c.take_segment.new.self c.take_segment-2.new.self c.take_segment-3.new.self
    c.take_segment-4.new.self c.take_segment-5.new.self p c.take_segment.ensures c.take_segment-2.ensures
    c.take_segment-3.ensures c.take_segment-4.ensures c.take_segment-5.ensures
    c.requires.empty c.requires.first c.requires.counted).0

pub returns-clause-count : goal.returns-clause-count
returns-clause-count c =
    let p = range_pieces (shown_range c.args.range.now) in
    let all =
    all_taken c.args.self.now c.take_segment.new.self c.take_segment-2.new.self c.take_segment-3.new.self
    c.take_segment-4.new.self c.take_segment-5.new.self p c.take_segment.ensures c.take_segment-2.ensures
    c.take_segment-3.ensures c.take_segment-4.ensures c.take_segment-5.ensures
    c.requires.empty c.requires.first c.requires.counted in
    counted _ _ _ (all_pieces p) all.2

pub returns-clause-parts : goal.returns-clause-parts
returns-clause-parts c = λ fits.
    let p = range_pieces (shown_range c.args.range.now) in
    let all =
    all_taken c.args.self.now c.take_segment.new.self c.take_segment-2.new.self c.take_segment-3.new.self
    c.take_segment-4.new.self c.take_segment-5.new.self p c.take_segment.ensures c.take_segment-2.ensures
    c.take_segment-3.ensures c.take_segment-4.ensures c.take_segment-5.ensures
    c.requires.empty c.requires.first c.requires.counted in
    filled _ _ _ (all_pieces p) all.2 (all.1 ∙ fits)

pub returns-clause-bounds : goal.returns-clause-bounds
returns-clause-bounds c =
    let p = range_pieces (shown_range c.args.range.now) in
    bounds c.args.self.now c.take_segment.new.self c.take_segment-2.new.self c.take_segment-3.new.self
    c.take_segment-4.new.self c.take_segment-5.new.self p c.take_segment.ensures c.take_segment-2.ensures
    c.take_segment-3.ensures c.take_segment-4.ensures c.take_segment-5.ensures
    c.requires.empty c.requires.first c.requires.counted _ refl refl refl refl
