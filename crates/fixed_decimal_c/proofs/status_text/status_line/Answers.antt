use Rattle.std.proofs.Common.{rules, sym, ◌∙◌}
use Rattle.fixed_decimal_c.proofs.lemmas.formatter.Kept.{no_line, some_line}
use Rattle.fixed_decimal_c.proofs.status_text.status_line.Goals as goal

pub returns-in-None : goal.returns-in-None
returns-in-None c =
    no_line c.args.status c.args.at c.args.calls (search rules) (sym c.error_at.ensures ∙ c.in-None.is)

pub returns-in-Some : goal.returns-in-Some
returns-in-Some c =
    some_line c.args.status c.args.at c.args.calls c.in-Some.error _ (search rules)
    (sym c.error_at.ensures ∙ c.in-Some.is) c.line_of.ensures
