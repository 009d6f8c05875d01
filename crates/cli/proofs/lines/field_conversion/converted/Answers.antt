use Rattle.std.proofs.{Common.{◌≡◌, true, false, Ok, Err, refl, sym, ap, ◌∙◌}, lemmas.Result.{IfOk-weaker, err_from_is_err_and}}
use Rattle.std.specs.Cow.{cow_slice_items}
use Rattle.cli.specs.{Fields.Holds, FieldConversion.{IsTextResult, IsFieldResult, is_trimmed}, Trim.{text_of, with_text_of}}
use Rattle.cli.proofs.lemmas.lines.FieldLines.{field_result}
use Rattle.cli.proofs.lines.field_conversion.converted.Goals as goal

pub returns-in_err-written-clause-err : goal.returns-in_err-written-clause-err
returns-in_err-written-clause-err c =
    let text = cow_slice_items c.in-Ok-Some.text in
    let holds : Holds c.args.field.now c.args.bytes.now text =
    rw c.in-Ok-Some.field-0-is at c.in-Ok-Some.ensures.some in
    let p = err_from_is_err_and c.from_residual.result c.from_residual.ensures.1 in
    rw (p.1, p.2) (λ other. field_result c.args.trims c.args.field.now c.args.conversion.now c.args.bytes.now text holds
    c.is_trimmed-is_trimmed.result (sym c.is_trimmed-is_trimmed.ensures) (Err _) (Err _)
    (rw (c.text_of.ensures, c.as_slice.ensures.value) at (c.in_err-written.ensures.err other)) refl)

pub returns-then-is_trimmed-clause-ok : goal.returns-then-is_trimmed-clause-ok
returns-then-is_trimmed-clause-ok c =
    let text = cow_slice_items c.in-Ok-Some.text in
    let holds : Holds c.args.field.now c.args.bytes.now text =
    rw c.in-Ok-Some.field-0-is at c.in-Ok-Some.ensures.some in
    let trimmed : is_trimmed c.args.trims c.args.field.now c.args.bytes.now ≡ true =
    sym c.is_trimmed-is_trimmed.ensures ∙ c.if-is_trimmed.true in
    let is : IsTextResult c.args.conversion.now (text_of true text) (Ok c.in_ok-written.written.0) =
    rw (c.text_of.ensures, c.as_slice.ensures.value, c.if-is_trimmed.true) at c.in_ok-written.ensures.ok in
    IfOk-weaker c.with_text_between.result
    (λ result. result.0 ≡ with_text_of true c.as_slice-then-is_trimmed.result.now c.as_bytes.result.now)
    (λ result. IsFieldResult c.args.trims c.args.field.now c.args.conversion.now c.args.bytes.now (Ok result.0))
    (λ result same. field_result c.args.trims c.args.field.now c.args.conversion.now c.args.bytes.now text holds true
    trimmed (Ok c.in_ok-written.written.0) (Ok result.0) is
    (ap Ok (rw (c.as_slice-then-is_trimmed.ensures.value, c.as_bytes.ensures) at same)))
    c.with_text_between.ensures.ok

pub returns-clause-ok : goal.returns-clause-ok
returns-clause-ok c =
    let text = cow_slice_items c.in-Ok-Some.text in
    let holds : Holds c.args.field.now c.args.bytes.now text =
    rw c.in-Ok-Some.field-0-is at c.in-Ok-Some.ensures.some in
    let plain : is_trimmed c.args.trims c.args.field.now c.args.bytes.now ≡ false =
    sym c.is_trimmed-is_trimmed.ensures ∙ c.if-is_trimmed.false in
    let is : IsTextResult c.args.conversion.now (text_of false text) (Ok c.in_ok-written.written.0) =
    rw (c.text_of.ensures, c.as_slice.ensures.value, c.if-is_trimmed.false) at c.in_ok-written.ensures.ok in
    field_result c.args.trims c.args.field.now c.args.conversion.now c.args.bytes.now text holds false plain
    (Ok c.in_ok-written.written.0) (Ok c.in_ok-written.written.0) is refl
