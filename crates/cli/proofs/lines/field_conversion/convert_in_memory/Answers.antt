use Rattle.std.proofs.Common.{◌≡◌, ◌++◌, Ok, refl, ap, ◌∙◌}
use Rattle.cli.proofs.lemmas.lines.FieldLines.{text_error}
use Rattle.cli.proofs.lines.field_conversion.convert_in_memory.Goals as goal

pub returns-in-Ok-clause-ok : goal.returns-in-Ok-clause-ok
returns-in-Ok-clause-ok c =
    let (written, is, put) = c.in-Ok.ensures.written in
    let all : c.convert.new.sink.0 ≡ written = put ∙ ap (λ sink. sink.0 ++ written) c.new-written.ensures in
    rw all (Ok written, is, refl)

pub returns-in-Err-clause-err : goal.returns-in-Err-clause-err
returns-in-Err-clause-err c =
    text_error c.args.conversion.now c.args.text.now c.in-Err.error _ c.in-Err.ensures.fails_with
    c.error_in_memory.ensures.output c.error_in_memory.ensures.other
