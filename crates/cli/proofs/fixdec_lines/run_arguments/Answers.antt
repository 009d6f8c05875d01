use Rattle.std.proofs.Common.{inl, inr, refl}
use Rattle.cli.specs.declared.program.help.Program.TheVariants.{FixdecLines}
use Rattle.cli.proofs.lemmas.program.{Programs.err_all, Starting.{have_words, no_request}}
use Rattle.cli.proofs.fixdec_lines.run_arguments.Goals as goal

pub returns-in-Ok-clause-ends : goal.returns-in-Ok-clause-ends
returns-in-Ok-clause-ends g c =
    let ended = c.filter_words-ended in
    let concluded = c.conclude_ended.ensures in
    let filtered = rw (c.in-Ok.ensures.out, c.as_slice.ensures.value) at ended.ensures.filtered in (
      ended.result.0,
      ended.new.diagnostics,
      rw concluded.back
          (inr (have_words FixdecLines c.args.arguments c.in-Ok.words.items _ c.in-Ok.ensures.words filtered)),
      ended.ensures.unchanged_on_error,
      rw concluded.back concluded.concludes,
    )

pub returns-in-Ok-clause-unread_for_request : goal.returns-in-Ok-clause-unread_for_request
returns-in-Ok-clause-unread_for_request g c = λ asked.
    absurd (no_request FixdecLines c.args.arguments _ c.in-Ok.ensures.words asked)

pub returns-in-Err-clause-ends : goal.returns-in-Err-clause-ends
returns-in-Err-clause-ends g c =
    let ended = c.in-Err.ended in
    let concluded = c.conclude_ended-in-Err.ensures in (
      ended.0,
      c.args.diagnostics.now,
      rw concluded.back (inl c.in-Err.ensures.ended),
      err_all ended.0 (λ error early. (refl, refl)),
      rw concluded.back concluded.concludes,
    )
