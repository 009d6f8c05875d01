use Rattle.std.proofs.{Common.{◌≡◌, ℕ, List, Ok, inl, inr, refl, ap, arith, rules, ◌∙◌}, lemmas.Grind.common_steps}
use Rattle.decimal_unsigned.specs.declared.decimal.TheConstants.{INLINE_DIGITS}
use Rattle.fixed_decimal.specs.{Calls.CallsFail, Decimal.Decimal, DecimalText.{decimal_text, read_decimal}, Errors.{RunFails, run_error}, Outcome.outcome, declared.runs.{Call.Call, CallError.CallError, RunError.TheVariants.{Start, Sink}}}
use Rattle.fixed_decimal_c.specs.Errors.{error_of_run}
use Rattle.fixed_decimal_c.proofs.convert.run_calls.Goals as goal

never_sink : (e : CallError) → run_error e ≡ Sink → ⊥
never_sink e is = grind arith

-- the first error of the calls is that of the run
calls_fail : (e : CallError) (bytes : List ℕ) (v : Decimal) (calls : List Call) → read_decimal bytes ≡ Ok v
    → CallsFail INLINE_DIGITS e v calls → RunFails INLINE_DIGITS (run_error e) bytes calls
calls_fail e bytes v calls is fails = grind arith

pub returns-in-Err : goal.returns-in-Err
returns-in-Err c =
    let fails : RunFails INLINE_DIGITS (Start c.in-Err.error) c.args.start.now c.args.calls.now =
    grind (arith, common_steps) in
    inr (c.error_of_run.result, refl, (Start c.in-Err.error, (λ is. cc), c.error_of_run.ensures, fails), refl)

pub returns-in-Err-apply_calls : goal.returns-in-Err-apply_calls
returns-in-Err-apply_calls c =
    let e = c.in-Err-apply_calls.error in
    let read : read_decimal c.args.start.now ≡ Ok c.in-Ok.value = search rules in
    let fails = calls_fail e _ _ _ read c.in-Err-apply_calls.ensures.fails_with in
    let is = c.error_of_run-in-Err-apply_calls.ensures ∙ ap error_of_run c.from.ensures in
    inr (c.error_of_run-in-Err-apply_calls.result, refl, (run_error e, never_sink e, is, fails), refl)

pub returns : goal.returns
returns c =
    let last = c.apply_calls.new.value in
    let read : read_decimal c.args.start.now ≡ Ok c.in-Ok.value = search rules in
    let is : outcome c.args.start.now c.args.calls.now ≡ Ok (decimal_text last) =
    rw (read, c.in_default.ensures.ok) refl in
    inl (decimal_text last, is, c.write_value.ensures)
