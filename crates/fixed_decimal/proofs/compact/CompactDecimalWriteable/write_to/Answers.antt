use Rattle.std.proofs.{Common.{sym, ◌∙◌, arith}, lemmas.{Bool.false≢true, Result.{IfOk-from_err, on_ok_weaker}}}
use Rattle.decimal_digits.proofs.lemmas.rounding.Results.{on_err}
use Rattle.fixed_decimal.proofs.lemmas.{integer.CompactTexts.compact_reads_back, signed_decimal.Writing.{first_fails, second_fails, both_written}}
use Rattle.fixed_decimal.proofs.compact.CompactDecimalWriteable.write_to.Goals as goal

pub returns-in_err-write_to : goal.returns-in_err-write_to
returns-in_err-write_to g c =
    let first = c.in_err-write_to.ensures in
    rw (← c.self.view_is) (record {
      ok = IfOk-from_err _ _ c.from_residual.ensures.0;
      err = first_fails _ _ _ _ _ first.err;
      had_not_failed = IfOk-from_err _ _ c.from_residual.ensures.0;
      failed = on_err _ _ first.failed;
      unchanged = first.unchanged;
      reads_back = compact_reads_back _ first.reads_back (omega arith);
    })

pub returns : goal.returns
returns g c =
    let first = c.in_ok-write_to.ensures in
    let rest = c.put_bytes.ensures in
    rw (← c.self.view_is, ← c.exponent_text-length.ensures.text) (record {
      ok = both_written _ _ _ _ _ _ first.ok rest.appends;
      err = second_fails _ _ _ _ _ _ first.ok rest.prefix;
      had_not_failed = on_ok_weaker _ (λ _. first.had_not_failed) rest.had_not_failed;
      failed = rest.failed;
      unchanged = λ h. absurd (false≢true (sym first.had_not_failed ∙ h));
      reads_back = rw c.exponent_text-length.ensures.text (compact_reads_back _ first.reads_back (omega arith));
    })
