use Rattle.std.proofs.{Common.{◌≡◌, ℕ, List, Ok, Err, inl, inr, refl, ◌∙◌, ap}, lemmas.Result.on_ok_weaker}
use Rattle.std.specs.Prelude.{Result, IsOkAnd}
use Rattle.decimal_digits.specs.AppendsPrefix.{AppendsPrefix}
use Rattle.fixed_decimal.specs.{ErrorText.run_error_text, Outcome.outcome}
use Rattle.uses.proofs.report.write_or_report.Goals as goal

-- the text of a result that is Ok
text_of : {E : Type 0} (r : Result (List ℕ) E) (P : List ℕ → Type 0) → IsOkAnd r P → (t : List ℕ) × (r ≡ Ok t) × P t
text_of (Ok t) P p = (t, refl, p)
text_of (Err e) P p = absurd p

pub returns-in-Sink-clause-prefix : goal.returns-in-Sink-clause-prefix
returns-in-Sink-clause-prefix g c = λ _.
    let r =
    text_of (outcome c.args.start.now c.args.calls.now)
    (AppendsPrefix (g.W.Sink.contents c.args.sink.now) (g.W.Sink.contents c.run.new.sink))
    (c.in-Err.ensures.prefix (ap Err c.in-Sink.is)) in
    (r.0, inl r.1, r.2)

pub returns-in_default-error : goal.returns-in_default-error
returns-in_default-error g c =
    let same = c.in-Err.ensures.unchanged_on_error c.in_default-error.not-Sink in
    let output = inr (c.in-Err.error, c.in-Err.ensures.fails_with, c.in_default-error.not-Sink, refl) in
    record {
      reported =
          on_ok_weaker c.write_error.result (λ p. (run_error_text c.in-Err.error, output, p))
          (rw same at c.write_error.ensures.reported);
      memory = λ e. (c.in-Err.error, c.in-Err.ensures.fails_with, c.in_default-error.not-Sink);
      unchanged_on_error = λ e. c.write_error.ensures.unchanged_on_error e ∙ same;
      prefix = λ e. (run_error_text c.in-Err.error, output, rw same at (c.write_error.ensures.prefix e));
      failed = c.write_error.ensures.failed;
    }
