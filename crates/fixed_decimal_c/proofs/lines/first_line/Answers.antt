use Rattle.fixed_decimal_c.proofs.lemmas.lines.Columns.{line_found, line_not_found}
use Rattle.fixed_decimal_c.proofs.lines.first_line.Goals as goal

pub returns-in-Some-clause-line : goal.returns-in-Some-clause-line
returns-in-Some-clause-line c = line_found c.args.bytes.now c.in-Some.len c.in-Some.ensures

pub returns-in-None-clause-line : goal.returns-in-None-clause-line
returns-in-None-clause-line c = line_not_found c.args.bytes.now c.requires c.in-None.ensures
