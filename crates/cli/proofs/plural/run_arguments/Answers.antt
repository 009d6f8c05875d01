use Rattle.std.proofs.Common.{inl, inr}
use Rattle.cli.specs.declared.program.help.Program.TheVariants.{Plural}
use Rattle.cli.proofs.lemmas.program.Starting.{have_words}
use Rattle.cli.proofs.plural.run_arguments.Goals as goal

pub returns-in-Ok-clause-ends : goal.returns-in-Ok-clause-ends
returns-in-Ok-clause-ends g c =
    let concluded = c.conclude_ended.ensures in
    let printed = rw (c.in-Ok.ensures.out, c.as_slice.ensures.value) at c.print.ensures in (
      c.print.result.0,
      rw concluded.back
          (inr (have_words Plural c.args.arguments c.in-Ok.words.items _ c.in-Ok.ensures.words printed)),
      rw concluded.back concluded.concludes,
    )

pub returns-in-Err-clause-ends : goal.returns-in-Err-clause-ends
returns-in-Err-clause-ends g c =
    let concluded = c.conclude_ended-in-Err.ensures in
    (c.in-Err.ended.0, rw concluded.back (inl c.in-Err.ensures.ended), rw concluded.back concluded.concludes)
