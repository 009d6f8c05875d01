-- What is written for a run.
use Rattle.std.specs.Prelude.{◌≡◌, ◌≢◌, ℕ, ◌⊎◌, List, Ok}
use Rattle.decimal_unsigned.specs.declared.decimal.TheConstants.{INLINE_DIGITS}
use Rattle.fixed_decimal.specs.{Outcome.outcome, Errors.RunFails, ErrorText.run_error_text, declared.runs.{Call.Call, RunError.{RunError, TheVariants.Sink}}}

-- the run may return an error other than that of the sink
abbrev pub MayFail : List ℕ → List Call → Type 0
MayFail start calls = (e : RunError) × RunFails INLINE_DIGITS e start calls × (e ≢ Sink)

-- the text of the outcome; or the sentence of its error, which is that of the first call that fails; or of an error
-- that the run is out of memory at the start or at a call that it reaches, so each call before that one succeeds
abbrev pub IsTextOrReport : List ℕ → List Call → List ℕ → Type 0
IsTextOrReport start calls output =
    (outcome start calls ≡ Ok output)
    ⊎ ((e : RunError) × RunFails INLINE_DIGITS e start calls × (e ≢ Sink) × (output ≡ run_error_text e))
