use Rattle.std.proofs.{Common.{◌≡◌, Some, Ok, Err, inr, refl, sym, ap, true, false, ◌∙◌}, lemmas.{Bool.false≢true, Result.on_ok_weaker}}
use Rattle.std.specs.Io.KnownBytes.{append_known}
use Rattle.cli.specs.{declared.program.error.ProgramError.TheVariants.Output, Categories.{PrintsAll, StopsAt}, Plural.Categorizes}
use Rattle.cli.proofs.lemmas.program.{Buffers.closed_contents, Programs.{err_map, result_and-cases}, Printing.{all_kept, stop_kept, begun, has_rules}}
use Rattle.cli.proofs.plural.print.Goals as goal

pub returns-then-has_failed : goal.returns-then-has_failed
returns-then-has_failed g c =
    let (rules, texts) = c.in-Ok.found in
    let taken = c.in-Ok-open.ensures.contents in
    let printed = c.print_categories-printed in
    let (unwritten, keeps) = c.close-closed.ensures.prefix in
    let failed : c.close-closed.result.1 ≡ true = search in
    inr (
      unwritten,
      (λ has_not_failed. absurd (false≢true (sym has_not_failed ∙ failed))),
      (λ _. failed),
      has_rules c.args.words.now rules texts.now
          (λ r t. StopsAt r t (g.O.Write.contents c.args.out)
          (append_known (g.O.Write.contents c.close-closed.result.0) unwritten) Output)
          c.in-Ok.ensures.found
          (begun rules texts.now _ _ _ keeps printed.result (rw taken at printed.ensures.printed)
          (rw taken at printed.ensures.stopped)),
    )

pub returns : goal.returns
returns g c =
    let (rules, texts) = c.in-Ok.found in
    let printed = c.print_categories-printed in
    let closed = c.close-closed.ensures in
    let has_not_failed : c.close-closed.result.1 ≡ false = search in
    let (unwritten, all, keeps) = closed_contents _ _ c.close-closed.result.1 closed.written closed.prefix in
    rw c.and.ensures
    (result_and-cases
    (λ done. Categorizes g.O.Write.contents c.args.out c.args.words.now done (Some c.close-closed.result))
    printed.result (Ok true)
    (on_ok_weaker printed.result
    (λ lines. (
      refl,
      has_not_failed,
      has_rules c.args.words.now rules texts.now
          (λ r t. PrintsAll r t (g.O.Write.contents c.args.out) (g.O.Write.contents c.close-closed.result.0))
          c.in-Ok.ensures.found
          (all_kept rules texts.now _ _ _ (closed.written has_not_failed)
          (rw c.in-Ok-open.ensures.contents at lines)),
    ))
    printed.ensures.printed)
    (err_map printed.result
    (λ error is stops. inr (
      unwritten,
      all,
      (λ e. closed.stays_failed (printed.ensures.failed (is ∙ ap Err e))),
      has_rules c.args.words.now rules texts.now
          (λ r t. StopsAt r t (g.O.Write.contents c.args.out)
          (append_known (g.O.Write.contents c.close-closed.result.0) unwritten) error)
          c.in-Ok.ensures.found
          (stop_kept rules texts.now _ _ _ keeps error (rw c.in-Ok-open.ensures.contents at stops)),
    ))
    printed.ensures.stopped))
