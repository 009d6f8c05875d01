use Rattle.std.proofs.Common.{◌∙◌, refl}
use Rattle.number_format.specs.{FormattedRanges.{end_of, shown_range}, RangeText.form_by}
use Rattle.number_format.proofs.lemmas.range.{RangeEnds.is_range, RangeErrors.{start_fails, end_fails}}
use Rattle.number_format.proofs.format.formatter.NumberFormatter.format_range.Goals as goal

pub returns-in-Err-clause-fails : goal.returns-in-Err-clause-fails
returns-in-Err-clause-fails c =
    start_fails c.args.self.now c.args.start c.args.end c.in-Err.field-0.error c.in-Err.ensures.limit
    c.in-Err.ensures.memory

pub returns-in-Err-range_end-clause-fails : goal.returns-in-Err-range_end-clause-fails
returns-in-Err-range_end-clause-fails c =
    end_fails c.args.self.now c.args.start c.args.end c.in-Err-range_end.field-0.error c.in-Ok-range_end.number
    c.in-Ok-range_end.ensures.end c.in-Err-range_end.ensures.limit c.in-Err-range_end.ensures.memory

pub returns-clause-range : goal.returns-clause-range
returns-clause-range c =
    let start = c.in-Ok-range_end.number in
    let end = c.in-Ok-range_end-2.number in
    let form = c.form_by-form.ensures
    ∙ (λ i. form_by (c.are_equal-equal.ensures i) (c.have_same_sign-same_sign.ensures i) (end_of start) (end_of end)) in
    is_range c.args.self.now c.args.texts.now c.args.start c.args.end start end c.form_by-form.result
    (shown_range c.range_by.result) c.in-Ok-range_end.ensures.end c.in-Ok-range_end-2.ensures.end form
    c.range_by.ensures

pub returns-clause-text : goal.returns-clause-text
returns-clause-text c = (shown_range c.range_by.result, returns-clause-range c, refl)
