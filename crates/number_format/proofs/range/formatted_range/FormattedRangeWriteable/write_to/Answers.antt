use Rattle.number_format.proofs.range.formatted_range.FormattedRangeWriteable.write_to.Goals as goal

pub returns-in-Ok-clause-err : goal.returns-in-Ok-clause-err
returns-in-Ok-clause-err g c =
    rw (c.as_bytes.ensures.value, c.in-Ok.ensures, c.new-block.ensures) at c.put_bytes.ensures.prefix
