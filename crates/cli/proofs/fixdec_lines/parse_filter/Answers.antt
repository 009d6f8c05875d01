use Rattle.std.proofs.{Common.{◌≡◌, true, inr, refl, sym, ◌∙◌}}
use Rattle.cli.specs.{Options.copied_options, FixdecLines.lacks_header}
use Rattle.cli.proofs.fixdec_lines.parse_filter.Goals as goal

pub returns-then-not-options-clause-err : goal.returns-then-not-options-clause-err
returns-then-not-options-clause-err c =
    let first = rw c.in_ok-first.was at c.field.ensures in
    let named = sym c.has_names.ensures ∙ c.if-has_names.true in
    let lacks : lacks_header (copied_options c.split_options.result.0) c.in_ok-target.target ≡ true =
    rw (named, c.if-not-options.true) refl in
    rw (← c.split_options.ensures, ← first) (inr (c.in_ok-target.target, c.in_ok-target.ensures.ok, lacks, refl))
