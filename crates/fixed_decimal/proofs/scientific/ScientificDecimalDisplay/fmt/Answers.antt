use Rattle.std.proofs.{Common.refl, Output.has_written_styled_append}
use Rattle.fixed_decimal.proofs.scientific.ScientificDecimalDisplay.fmt.Goals as goal

pub returns-clause-styled : goal.returns-clause-styled
returns-clause-styled g c flush ok =
    let p = c.in_ok-fmt.ensures.styled flush refl in
    let q = c.in_ok-write_str.ensures.styled p.flush refl in
    rw (← c.self.view_is)
    (has_written_styled_append _ _ _ _ _ _ p
    (has_written_styled_append _ _ _ _ _ _ q (c.fmt-2.ensures.styled q.flush ok)))
