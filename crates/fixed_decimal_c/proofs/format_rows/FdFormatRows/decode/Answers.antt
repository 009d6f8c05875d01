use Rattle.fixed_decimal_c.proofs.format_rows.FdFormatRows.decode.Goals as goal

pub returns-in_default-clause-none : goal.returns-in_default-clause-none
returns-in_default-clause-none c ids rows = c.in_default.ensures.none ids.formats rows.formats
