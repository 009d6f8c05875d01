use Rattle.fixed_decimal.proofs.Calling.{trimmed_texts}
use Rattle.uses.proofs.column.write_normal_form.Goals as goal

pub returns-in-Ok-write_to-clause-reported : goal.returns-in-Ok-write_to-clause-reported
returns-in-Ok-write_to-clause-reported g c =
    rw c.in-Ok.ensures.parses (λ w valid. trimmed_texts c.in-Ok.value w c.trim_start.ensures.valid valid)
