use Rattle.std.proofs.{Common.{◌≡◌, Err, refl, ap, ◌∙◌}, lemmas.Result.err_from_is_err_and}
use Rattle.cli.specs.declared.program.error.ProgramError.TheVariants as program
use Rattle.cli.specs.{Error.range_error, Fixdec.of_range, RangeWords.RangeWordsValue}
use Rattle.cli.proofs.lemmas.program.Programs.{range_fails, range_output, has_text, text_begun, feed_begun, feed_written}
use Rattle.cli.proofs.fixdec.print_range.Goals as goal

-- the end of the words that were seen
end_of : (seen words : RangeWordsValue) → seen ≡ words → seen.end ≡ words.end
end_of seen words is = ap (λ (w : RangeWordsValue). w.end) is

pub returns-in-Err-clause-fails_with : goal.returns-in-Err-clause-fails_with
returns-in-Err-clause-fails_with g c = rw c.setup.ensures (refl, c.in-Err.ensures.err)

pub returns-in_err-convert_range-clause-fails_with : goal.returns-in_err-convert_range-clause-fails_with
returns-in_err-convert_range-clause-fails_with g c =
    let residual = c.from_residual in
    let p = err_from_is_err_and residual.result residual.ensures.1 in
    let failed = c.in_err-convert_range in
    rw (p.1, p.2)
    (range_fails c.args.start.now c.args.words.now failed.field-0.0 (
      c.in-Ok.conversion,
      c.in-Ok.ensures.some,
      rw (c.as_bytes.ensures.value, end_of _ _ c.words.view_is) at failed.ensures.fails_with,
    ))

pub returns-in_err-convert_range-clause-unchanged_on_error :
    goal.returns-in_err-convert_range-clause-unchanged_on_error
returns-in_err-convert_range-clause-unchanged_on_error g c =
    let residual = c.from_residual in
    let p = err_from_is_err_and residual.result residual.ensures.1 in
    rw (p.1, p.2) (λ other. c.in_err-convert_range.ensures.unchanged_on_error (λ is. other (ap range_error is)))

pub returns-in_err-convert_range-clause-failed : goal.returns-in_err-convert_range-clause-failed
returns-in_err-convert_range-clause-failed g c = λ is.
    let residual = c.from_residual in
    let p = err_from_is_err_and residual.result residual.ensures.1 in
    let same : range_error c.in_err-convert_range.field-0.0 ≡ program.Output = cc in
    c.convert_range.ensures.failed (c.in_err-convert_range.was ∙ ap Err (range_output _ same))

pub returns-in_err-convert_range-clause-prefix : goal.returns-in_err-convert_range-clause-prefix
returns-in_err-convert_range-clause-prefix g c = λ is.
    let residual = c.from_residual in
    let p = err_from_is_err_and residual.result residual.ensures.1 in
    let same : range_error c.in_err-convert_range.field-0.0 ≡ program.Output = cc in
    let run = of_range c.in-Ok.conversion c.args.start.now c.args.words.now.end in (
      c.in-Ok.conversion,
      c.in-Ok.ensures.some,
      text_begun run _ _ (rw (c.as_bytes.ensures.value, end_of _ _ c.words.view_is) at
          (c.convert_range.ensures.prefix (c.in_err-convert_range.was ∙ ap Err (range_output _ same)))),
    )

pub returns-in_err-put_byte-clause-fails_with : goal.returns-in_err-put_byte-clause-fails_with
returns-in_err-put_byte-clause-fails_with g c =
    let residual = c.from_residual-in_err-put_byte in
    let p = err_from_is_err_and residual.result residual.ensures.1 in
    let run = of_range c.in-Ok.conversion c.args.start.now c.args.words.now.end in
    let written = rw (c.as_bytes.ensures.value, end_of _ _ c.words.view_is) at c.in_ok-convert_range.ensures.written in
    rw (p.1, p.2) (c.in-Ok.conversion, c.in-Ok.ensures.some, has_text run _ written)

pub returns-in_err-put_byte-clause-prefix : goal.returns-in_err-put_byte-clause-prefix
returns-in_err-put_byte-clause-prefix g c = λ _.
    let run = of_range c.in-Ok.conversion c.args.start.now c.args.words.now.end in
    let written = rw (c.as_bytes.ensures.value, end_of _ _ c.words.view_is) at c.in_ok-convert_range.ensures.written in
    (c.in-Ok.conversion, c.in-Ok.ensures.some, feed_begun run _ _ _ written c.in_err-put_byte.ensures.keeps)

pub returns-clause-printed : goal.returns-clause-printed
returns-clause-printed g c =
    let run = of_range c.in-Ok.conversion c.args.start.now c.args.words.now.end in
    let written = rw (c.as_bytes.ensures.value, end_of _ _ c.words.view_is) at c.in_ok-convert_range.ensures.written in
    (c.in-Ok.conversion, c.in-Ok.ensures.some, feed_written run _ _ _ written c.in_ok-put_byte.ensures.appends)
