use Rattle.std.proofs.Common.{◌∙◌}
use Rattle.decimal_unsigned.proofs.lemmas.parse.Plans.{read_none, read_some}
use Rattle.decimal_unsigned.specs.Parts.{view}
use Rattle.decimal_unsigned.proofs.decimal.parse.Scan.new.Goals as goal

pub returns-in_default-clause-rejects : goal.returns-in_default-clause-rejects
returns-in_default-clause-rejects c = read_none c.args.text.now c.in_default.ensures.parts

pub returns-in_default-planned-clause-rejects : goal.returns-in_default-planned-clause-rejects
returns-in_default-planned-clause-rejects c =
    read_some c.args.text.now (view c.in-Some.parts) c.in-Some.ensures.parts ∙ c.in_default-planned.ensures.none

pub returns-clause-value : goal.returns-clause-value
returns-clause-value c =
    read_some c.args.text.now (view c.in-Some.parts) c.in-Some.ensures.parts ∙ c.in-Some-planned.ensures.some.value
