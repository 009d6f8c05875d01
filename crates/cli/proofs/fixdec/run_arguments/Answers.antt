use Rattle.std.proofs.Common.{◌≡◌, ◌≢◌, ◌∙◌, ℕ, List, Ok, Err, inl, inr, refl, ap, true, false, rules}
use Rattle.std.specs.Io.{Buffered.{writer_contents, writer_inner, writer_buffer}, KnownBytes.append_known}
use Rattle.cli.specs.{Fixdec.PrintsPrefix, declared.program.{error.{ProgramError.TheVariants.Output, WordsError.TheVariants.Memory}, help.Program.TheVariants.Fixdec}, Error.setup_error}
use Rattle.cli.proofs.lemmas.program.{Buffers.new_writer, Programs.{prints_kept, unwritten_fails}, Starting.have_words}
use Rattle.cli.proofs.fixdec.run_arguments.Goals as goal

pub returns-in-Err-clause-ends : goal.returns-in-Err-clause-ends
returns-in-Err-clause-ends g c = (c.in-Err.ended, inl c.in-Err.ensures.ended, c.conclude.ensures.concludes)

pub returns-in_default-clause-ends : goal.returns-in_default-clause-ends
returns-in_default-clause-ends g c =
    let words = c.in-Ok.started.0.items in (
      Err (setup_error Fixdec Memory),
      inr (have_words Fixdec c.args.arguments words _ c.in-Ok.ensures.words refl),
      rw c.setup-no_memory.ensures at c.conclude-in_default.ensures.concludes,
    )

pub returns-then-has_failed-clause-ends : goal.returns-then-has_failed-clause-ends
returns-then-has_failed-clause-ends g c =
    let words = c.in-Ok.started.0.items in
    let buffer = c.in-Ok-with_capacity in
    let empty : writer_contents g.O.Write.contents buffer.buffer ≡ g.O.Write.contents c.args.out =
    new_writer g.O.Write.contents buffer.buffer c.args.out (search rules) buffer.ensures.empty in
    let printed =
    rw (c.new-buffered.ensures, empty, c.as_slice.ensures.value) at (c.in_default-print.ensures.printed.1) in
    let (unwritten, keeps) = c.close-closed.ensures.prefix in
    let (fails, prefix) = unwritten_fails words _ _ _ printed keeps in
    let failed : c.close-closed.result.1 ≡ true = search rules in (
      Err Output,
      inr (have_words Fixdec c.args.arguments words _ c.in-Ok.ensures.words
          (fails, (λ other. absurd (other refl)), λ _. (failed, (unwritten, prefix)))),
      c.conclude-then-has_failed.ensures.concludes,
    )

pub returns-clause-ends : goal.returns-clause-ends
returns-clause-ends g c =
    let words = c.in-Ok.started.0.items in
    let buffer = c.in-Ok-with_capacity in
    let empty : writer_contents g.O.Write.contents buffer.buffer ≡ g.O.Write.contents c.args.out =
    new_writer g.O.Write.contents buffer.buffer c.args.out (search rules) buffer.ensures.empty in
    let printed =
    rw (c.new-buffered.ensures, empty, c.as_slice.ensures.value) at (c.in_default-print.ensures.printed.1) in
    let written : c.close-closed.result.1 ≡ false = search rules in
    let kept = prints_kept words _ _ _ printed (c.close-closed.ensures.written written) in (
      Ok true,
      inr (have_words Fixdec c.args.arguments words _ c.in-Ok.ensures.words (refl, written, kept)),
      (refl, refl),
    )

pub returns-in-Err-print-clause-ends : goal.returns-in-Err-print-clause-ends
returns-in-Err-print-clause-ends g c =
    let words = c.in-Ok.started.0.items in
    let buffer = c.in-Ok-with_capacity in
    let contents = g.O.Write.contents in
    let error = c.in-Err-print.error in
    let inner : writer_inner buffer.buffer ≡ c.args.out = search rules in
    let empty : writer_contents contents buffer.buffer ≡ contents c.args.out =
    new_writer contents buffer.buffer c.args.out inner buffer.ensures.empty in
    let out = c.print.new.out in
    let has = rw c.as_slice.ensures.value at c.in-Err-print.ensures.error in
    let closed : error ≢ Output → (writer_inner out.0, out.1) ≡ (c.args.out, false) = λ other.
    rw (c.in-Err-print.ensures.unchanged_on_error other ∙ c.new-buffered.ensures, inner) refl in
    let prefix : error ≡ Output → (out.1 ≡ true)
    × ((unwritten : List ℕ)
    × PrintsPrefix words (contents c.args.out) (append_known (contents (writer_inner out.0)) unwritten)) = λ is.
    let begun = rw c.as_slice.ensures.value at (c.in-Err-print.ensures.prefix (ap Err is)) in
    (c.in-Err-print.ensures.failed (ap Err is), (writer_buffer out.0, rw (c.new-buffered.ensures, empty) at begun)) in (
      Err error,
      inr (have_words Fixdec c.args.arguments words _ c.in-Ok.ensures.words
          (has, rw c.abandon.ensures closed, rw c.abandon.ensures prefix)),
      c.conclude-in-Err-print.ensures.concludes,
    )
