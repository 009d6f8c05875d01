-- The outcome of a conversion, and its errors.
use Rattle.std.proofs.{Common.{◌≡◌, ◌≢◌, ◌&&◌, ℕ, List, Option, Some, None, Result, Ok, Err, true, inl, inr, refl, sym, ap, ◌∙◌, subst, arith}, lemmas.{Bool.false≢true, Result.IfErr-weaker}}
use Rattle.std.specs.{Prelude.{IfErr, OnErr, IsOk, IsOkAnd}, Option.is_none}
use Rattle.decimal_unsigned.specs.{declared.{error.ParseError.ParseError, decimal.TheConstants.INLINE_DIGITS}, Reading.{ReadError, syntax, limit}}
use Rattle.decimal_unsigned.specs.declared.error.ParseError.TheVariants as parse
use Rattle.fixed_decimal.specs.{Decimal.Decimal, DecimalText.read_decimal, Calls.CallsFail, Errors.{RunFails, run_error}, Outcome.{OutcomeError, after_calls, outcome, start}, declared.runs.{Call.Call, CallError.CallError, RunError.{RunError, TheVariants.{Start, Operand, Memory, Sink}}}}
use Rattle.fixed_decimal.specs.declared.runs.CallError.TheVariants as call
use Rattle.conversions.specs.{declared.{conversion.Conversion.Conversion, locale_formatter.LocaleFormatter.LocaleFormatter, reader.LocaleReader.LocaleReader, error.OperationError.OperationError}, Error.{error_of_run, status_of_operation}, Conversion.{IsReadBy, ReadingByFails, ReadingByNeedsMemory, ConversionError, of_run, format_overflow, FormattingNeedsMemory, IsLast, LastIsError, LastFails, IsOutcome, HasOutcome, OperationsFail, IsRunFormatted, error_of, own_text, last_decimal, IsFormatted, WritingFails, HasTextBy, IsTextBy, is_plain}}
use Rattle.conversions.specs.declared.error.OperationError.TheVariants as operation

-- ---- The decimal after the calls.

module _ (reader : Option LocaleReader) (calls : List Call) (text : List ℕ) where
  -- an error of reading
  pub reading_fails :
      (why : ParseError) → ReadingByFails reader text why → LastFails (error_of_run (Start why)) reader calls text
  reading_fails parse.Syntax h = (start syntax, refl, (Err syntax, h, refl))
  reading_fails parse.Limit h = (start limit, refl, (Err limit, h, refl))
  reading_fails parse.Memory h = inl h

  -- an error of the calls
  pub calls_fail :
      (v : Decimal) → IsReadBy reader text (Ok v) → (why : CallError) → CallsFail INLINE_DIGITS why v calls
      → LastFails (error_of_run (run_error why)) reader calls text
  calls_fail v read (call.Operand at parse.Memory) h = inr (v, read, (call.Operand at parse.Memory, h, refl))
  calls_fail v read (call.Memory at) h = inr (v, read, (call.Memory at, h, refl))
  calls_fail v read why h = (_, refl, (Ok v, read, h))

  -- out of memory and a failed output are no errors of a text
  pub last_is_error :
      (error : OperationError) → error ≢ operation.Memory → LastFails error reader calls text
      → LastIsError reader calls text error
  last_is_error operation.Memory other h = absurd (other refl)
  last_is_error operation.Output other h = absurd h
  last_is_error error other h = h

-- ---- The outcome.

module _ (c : Conversion) (text : List ℕ) where
  is_error_fails :
      (error : OperationError) → LastIsError c.reader c.calls.items text error
      → (why : ConversionError) × (error ≡ error_of why) × IsOutcome c text (Err why)
  is_error_fails error (why, e, (read, is_read, last)) = (
    of_run why,
    e,
    record {
      read = read;
      is_read = is_read;
      is = subst (λ l. IsFormatted c.formatter l (Err (of_run why))) (sym last) refl;
    },
  )

  -- an error before the text is written
  pub last_fails :
      (error : OperationError) → LastFails error c.reader c.calls.items text → OperationsFail error c text
  last_fails operation.Memory h = inl h
  last_fails operation.Output h = absurd h
  last_fails error h = is_error_fails error h

  module _ (v : Decimal) (last : IsLast c.reader c.calls.items text (Ok v)) where
    last_outcome : (result : Result (List ℕ) ConversionError) → IsTextBy c.formatter v result → IsOutcome c text result
    last_outcome result is = record {
      read = last.0;
      is_read = last.1;
      is = subst (λ l. IsFormatted c.formatter l result) (sym last.2) is;
    }

    -- an error of writing
    pub writing_fails : (error : OperationError) → WritingFails error c.formatter v → OperationsFail error c text
    writing_fails operation.FormatOverflow h = (format_overflow, refl, last_outcome (Err format_overflow) h)
    writing_fails operation.Memory h = inr (v, last, h)
    writing_fails operation.Output (written, h) = (written, last_outcome (Ok written) h)
    writing_fails error h = absurd h

    -- what holds of the text that is written
    pub written_outcome : (P : List ℕ → Type 0) → HasTextBy c.formatter v P → HasOutcome c text P
    written_outcome P (written, h, holds) = (written, last_outcome (Ok written) h, holds)

-- ---- The text of a value, written.

module _ (f : Option LocaleFormatter) (v : Decimal) (text : List ℕ) (is : IsTextBy f v (Ok text)) where
  -- only the output fails
  pub text_fails : {X : Type 0} (r : Result X OperationError) → IfErr r (λ error. error ≡ operation.Output)
      → IfErr r (λ error. WritingFails error f v)
  text_fails r h = IfErr-weaker r _ _ (λ error e. subst (λ x. WritingFails x f v) (sym e) (text, is)) h

  pub text_begun : {X : Type 0} (r : Result X OperationError) (P : List ℕ → Type 0) → OnErr r (P text)
      → IfErr r (λ error. error ≡ operation.Output → HasTextBy f v P)
  text_begun (Ok x) P h = tt
  text_begun (Err error) P h = λ failed. (text, is, h)

-- ---- The error of an outcome.

-- a text that was not written
pub output_fails :
    (c : Conversion) (text written : List ℕ) → IsOutcome c text (Ok written) → OperationsFail operation.Output c text
output_fails c text written is = (written, is)

-- an error with status 1 is that of an outcome
pub error_is_outcome :
    (c : Conversion) (text : List ℕ) (error : OperationError) → status_of_operation error ≡ 1
    → OperationsFail error c text → (why : ConversionError) × (error ≡ error_of why) × IsOutcome c text (Err why)
error_is_outcome c text operation.Memory one h = absurd (omega (arith, one))
error_is_outcome c text operation.Output one h = absurd (omega (arith, one))
error_is_outcome c text error one h = h

-- ---- The law.

run_is_formatted : (calls : List Call) (text : List ℕ) (read : Result Decimal ReadError) → read_decimal text ≡ read
    → outcome text calls ≡ own_text (last_decimal calls read)
run_is_formatted calls text (Ok v) e = rw e refl
run_is_formatted calls text (Err fault) e = rw e refl

pub conversion_is_run_formatted :
    (c : Conversion) (text : List ℕ) (result : Result (List ℕ) ConversionError) → c.reader ≡ None
    → IsOutcome c text result → IsRunFormatted c text result
conversion_is_run_formatted c text result none h =
    let read : h.read ≡ read_decimal text = rw none at h.is_read in
    (run_is_formatted c.calls.items text (read_decimal text) refl, rw read at h.is)

-- ---- A run.

-- only a failed sink is a failed output
pub output_is_sink : (why : RunError) → error_of_run why ≡ operation.Output → why ≡ Sink
output_is_sink why is = grind arith

-- the outcome of a run as that of a conversion
abbrev run_result : Result (List ℕ) OutcomeError → Result (List ℕ) ConversionError
run_result (Ok text) = Ok text
run_result (Err why) = Err (of_run why)

own_formatted : (last : Result Decimal OutcomeError) (o : Result (List ℕ) OutcomeError) → own_text last ≡ o
    → IsFormatted None last (run_result o)
own_formatted (Ok v) o e = sym (ap run_result e)
own_formatted (Err why) o e = sym (ap run_result e)

no_forms : (r : Option LocaleReader) (f : Option LocaleFormatter) → (is_none r && is_none f) ≡ true
    → (r ≡ None) × (f ≡ None)
no_forms None None e = (refl, refl)
no_forms None (Some f) e = absurd (false≢true e)
no_forms (Some r) f e = absurd (false≢true e)

module _ (c : Conversion) (text : List ℕ) (plain : is_plain c ≡ true) where
  plain_outcome :
      (o : Result (List ℕ) OutcomeError) → outcome text c.calls.items ≡ o → IsOutcome c text (run_result o)
  plain_outcome o e =
      let (reader, formatter) = no_forms c.reader c.formatter plain in
      let last = last_decimal c.calls.items (read_decimal text) in
      let own : own_text last ≡ o = sym (run_is_formatted c.calls.items text (read_decimal text) refl) ∙ e in
      record {
        read = read_decimal text;
        is_read = subst (λ r. IsReadBy r text (read_decimal text)) (sym reader) refl;
        is = subst (λ f. IsFormatted f last (run_result o)) (sym formatter) (own_formatted last o own);
      }

  outcome_of : (P : List ℕ → Type 0) (o : Result (List ℕ) OutcomeError) → outcome text c.calls.items ≡ o → IsOkAnd o P
      → HasOutcome c text P
  outcome_of P (Ok written) e p = (written, plain_outcome (Ok written) e, p)
  outcome_of P (Err why) e p = absurd p

  -- what holds of the text of a run
  pub run_outcome : (P : List ℕ → Type 0) → IsOkAnd (outcome text c.calls.items) P → HasOutcome c text P
  run_outcome P h = outcome_of P (outcome text c.calls.items) refl h

  memory_fails : (why : CallError) → error_of_run (run_error why) ≡ operation.Memory
      → (r : Result Decimal ReadError) → read_decimal text ≡ r
      → IsOkAnd r (λ first. CallsFail INLINE_DIGITS why first c.calls.items) → OperationsFail operation.Memory c text
  memory_fails why same (Ok v) e h =
      let (reader, formatter) = no_forms c.reader c.formatter plain in
      inl (inr (v, subst (λ r. IsReadBy r text (Ok v)) (sym reader) (sym e), (why, h, same)))
  memory_fails why same (Err fault) e h = absurd h

  output_of : (o : Result (List ℕ) OutcomeError) → outcome text c.calls.items ≡ o → IsOk o
      → OperationsFail operation.Output c text
  output_of (Ok written) e h = (written, plain_outcome (Ok written) e)
  output_of (Err why) e h = absurd (false≢true h)

  -- an error of a run
  pub run_fails :
      (why : RunError) → RunFails INLINE_DIGITS why text c.calls.items → OperationsFail (error_of_run why) c text
  run_fails (Start parse.Memory) h =
      let (reader, formatter) = no_forms c.reader c.formatter plain in
      inl (inl (subst (λ r. ReadingByNeedsMemory r text) (sym reader) h))
  run_fails (Operand at parse.Memory) h = memory_fails (call.Operand at parse.Memory) refl (read_decimal text) refl h
  run_fails (Memory at) h = memory_fails (call.Memory at) refl (read_decimal text) refl h
  run_fails Sink h = output_of (outcome text c.calls.items) refl h
  run_fails why h = (_, refl, plain_outcome (Err _) h)
