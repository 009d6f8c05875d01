use Rattle.std.proofs.Common.{◌≡◌, ◌≢◌, None, sym, ◌∙◌, inr, refl, rules}
use Rattle.conversions.specs.declared.error.OperationError.TheVariants.{Output}
use Rattle.cli.proofs.{lemmas.lines.Editing.{continues_more, first_other, found_more, found_error, found_first, found_none}, lines.edits.edited.Goals.{in-Ok, in-Err}}
use Rattle.cli.proofs.lines.edits.edited.Goals as goal

pub loop-field-preserved : goal.loop-field-preserved
loop-field-preserved c =
    let trims = c.args.trims in
    let base = c.args.base.now in
    let line = c.args.line.now in
    let fields = c.args.fields.now in
    let i = c.loop-field.field-index in
    let one = c.field-item.result in
    let found = c.loop-field.found in
    elim c.match-append.branch [
      | in-Ok w ↦
          let (start, bytes, edit, put) = w.in-Ok.ensures.ok in
          record {
            cursor = c.append.ensures.cursor;
            found =
                rw w.found-is
                (found_more trims base line fields i one c.loop-field-test.true c.field-item.is found
                c.loop-field.invariant.found ((start, w.in-Ok.end), bytes, edit));
            continues = λ none.
                rw w.copied-is
                (continues_more trims base line fields c.loop-field.text.0 c.loop-field.copied i
                (c.loop-field.invariant.continues (sym w.found-is ∙ none)) one c.loop-field-test.true c.field-item.is
                (start, w.in-Ok.end) bytes c.append.new.text.0 edit put);
            other = rw w.found-is c.loop-field.invariant.other;
          }
      | in-Err w ↦ record {
        cursor = c.append.ensures.cursor;
        found =
            rw (w.found-is, w.first_error.ensures)
            (found_error trims base line fields i one c.loop-field-test.true c.field-item.is w.in-Err.error
            w.in-Err.ensures.err found c.loop-field.invariant.found);
        continues = λ none. let some = sym w.found-is ∙ none in cc;
        other =
            rw (w.found-is, w.first_error.ensures)
            (first_other (λ error. error.error ≢ Output) found _ c.loop-field.invariant.other
            w.in-Err.ensures.no_output);
      }
    ]

pub returns-in-Some-clause-err : goal.returns-in-Some-clause-err
returns-in-Some-clause-err c =
    found_first c.args.trims c.args.base.now c.args.line.now c.args.fields.now c.loop-field.field-index
    c.in-Some.first c.loop-field-test.false (rw c.in-Some.is at c.loop-field.invariant.found)

pub returns-in-Err-put_bytes-clause-err : goal.returns-in-Err-put_bytes-clause-err
returns-in-Err-put_bytes-clause-err c =
    let none : c.loop-field.found ≡ None = search rules in
    inr (
      refl,
      found_none c.args.trims c.args.base.now c.args.line.now c.args.fields.now c.loop-field.field-index
          c.loop-field-test.false (rw none at c.loop-field.invariant.found),
    )
