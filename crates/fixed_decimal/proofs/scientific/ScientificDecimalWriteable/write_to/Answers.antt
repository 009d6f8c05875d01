use Rattle.std.proofs.{Common.{[], append-nil, sym, ◌∙◌}, KnownBytes.Appends-kept, lemmas.{Bool.false≢true, Result.{IfOk-from_err, on_ok_weaker}}}
use Rattle.decimal_digits.proofs.lemmas.rounding.Results.{on_err}
use Rattle.fixed_decimal.proofs.lemmas.{integer.ScientificTexts.scientific_reads_back, signed_decimal.Writing.{first_fails, second_fails, both_written}}
use Rattle.fixed_decimal.proofs.scientific.ScientificDecimalWriteable.write_to.Goals as goal

pub returns-in_err-write_to : goal.returns-in_err-write_to
returns-in_err-write_to g c =
    let first = c.in_err-write_to.ensures in
    let exponent = c.writeable_length_hint.ensures in
    rw (← c.self.view_is) (record {
      ok = IfOk-from_err _ _ c.from_residual.ensures.0;
      err = first_fails _ _ _ _ _ first.err;
      had_not_failed = IfOk-from_err _ _ c.from_residual.ensures.0;
      failed = on_err _ _ first.failed;
      unchanged = first.unchanged;
      reads_back = scientific_reads_back _ first.reads_back exponent.valid exponent.integer;
    })

pub returns-in_err-put_byte : goal.returns-in_err-put_byte
returns-in_err-put_byte g c =
    let first = c.in_ok-write_to.ensures in
    let exponent = c.writeable_length_hint.ensures in
    rw (← c.self.view_is) (record {
      ok = IfOk-from_err _ _ c.from_residual-in_err-put_byte.ensures.0;
      err = first_fails _ _ _ _ _ (_, [], append-nil _, Appends-kept _ _ _ _ first.ok c.in_err-put_byte.ensures.keeps);
      had_not_failed = IfOk-from_err _ _ c.from_residual-in_err-put_byte.ensures.0;
      failed = on_err _ _ c.in_err-put_byte.ensures.failed;
      unchanged = λ h. absurd (false≢true (sym first.had_not_failed ∙ h));
      reads_back = scientific_reads_back _ first.reads_back exponent.valid exponent.integer;
    })

pub returns : goal.returns
returns g c =
    let first = c.in_ok-write_to.ensures in
    let byte = c.in_ok-put_byte.ensures.appends in
    let rest = c.write_to-2.ensures in
    let exponent = c.writeable_length_hint.ensures in
    rw (← c.self.view_is) (record {
      ok = both_written _ _ _ _ _ _ first.ok (both_written _ _ _ _ _ _ byte rest.ok);
      err = second_fails _ _ _ _ _ _ first.ok (second_fails _ _ _ _ _ _ byte rest.err);
      had_not_failed = on_ok_weaker _ (λ _. first.had_not_failed) rest.had_not_failed;
      failed = rest.failed;
      unchanged = λ h. absurd (false≢true (sym first.had_not_failed ∙ h));
      reads_back = scientific_reads_back _ first.reads_back exponent.valid exponent.integer;
    })
