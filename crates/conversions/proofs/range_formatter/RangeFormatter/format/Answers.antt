use Rattle.conversions.proofs.range_formatter.RangeFormatter.format.Goals as goal

pub returns-in-Ok-clause-text : goal.returns-in-Ok-clause-text
returns-in-Ok-clause-text c = rw c.formatter_by-formatter.ensures at c.in-Ok.ensures.text

pub returns-in-Err-clause-fails : goal.returns-in-Err-clause-fails
returns-in-Err-clause-fails c =
    (c.in-Err.failed.at_end, rw c.formatter_by-formatter.ensures at c.in-Err.ensures.fails)
