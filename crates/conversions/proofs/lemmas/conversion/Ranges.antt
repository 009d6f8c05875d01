-- The outcome of a conversion of a range, and its errors.
use Rattle.std.proofs.{Common.{◌≡◌, ◌≢◌, ℕ, List, Option, Result, Ok, Err, inl, inr, refl, sym, subst, arith}, lemmas.Result.{IfErr-weaker, on_ok_weaker}}
use Rattle.std.specs.Prelude.{IfErr, OnErr, OnOk}
use Rattle.fixed_decimal.specs.{Decimal.Decimal, Outcome.OutcomeError, declared.runs.Call.Call}
use Rattle.conversions.specs.{declared.{error.{OperationError.{OperationError, TheVariants.{FormatOverflow, Memory, Output}}, RangeError.{RangeError, TheVariants.Operation}}, range_conversion.RangeConversion.RangeConversion, range_formatter.RangeFormatter.RangeFormatter, reader.LocaleReader.LocaleReader}, Conversion.{LastFails, LastIsError, error_of, of_run}, RangeConversion.{HasRangeOutcome, IsEnd, IsErrorOfEnd, RangeFails}, RangeText.{HasRangeTextBy, IsRangeTextBy, RangeWritingFails}}

-- ---- The text of a range, written.

module _ (f : RangeFormatter) (v w : Decimal) (text : List ℕ) (is : IsRangeTextBy f v w text) where
  pub range_text_written : {X : Type 0} (r : Result X OperationError) (P : List ℕ → Type 0) → OnOk r (P text)
      → OnOk r (HasRangeTextBy f v w P)
  range_text_written r P h = on_ok_weaker r (λ p. (text, is, p)) h

  -- only the output fails
  pub range_text_fails : {X : Type 0} (r : Result X OperationError) → IfErr r (λ error. error ≡ Output)
      → IfErr r (λ error. RangeWritingFails error f v w)
  range_text_fails r h =
      IfErr-weaker r _ _ (λ error e. subst (λ x. RangeWritingFails x f v w) (sym e) (text, is)) h

  pub range_text_begun : {X : Type 0} (r : Result X OperationError) (P : List ℕ → Type 0) → OnErr r (P text)
      → IfErr r (λ error. error ≡ Output → HasRangeTextBy f v w P)
  range_text_begun (Ok x) P h = tt
  range_text_begun (Err error) P h = λ failed. (text, is, h)

-- ---- The outcome.

-- a text and its calls have no error of formatting
no_format_overflow : (why : OutcomeError) → FormatOverflow ≡ error_of (of_run why) → ⊥
no_format_overflow why is = grind arith

-- before the text is written no output fails
pub last_is_no_output :
    (error : OperationError) (reader : Option LocaleReader) (calls : List Call) (text : List ℕ)
    → LastFails error reader calls text → error ≢ Output
last_is_no_output Output reader calls text h same = absurd h
last_is_no_output error reader calls text h same = cc

pub end_is_no_output : (error : OperationError) (why : RangeError) → IsErrorOfEnd error why → why ≢ Operation Output
end_is_no_output Memory why is same = cc
end_is_no_output error why is same = cc

module _ (c : RangeConversion) (start end : List ℕ) where
  -- an error of the start
  pub start_fails :
      (error : OperationError) → LastFails error c.reader c.calls.items start → RangeFails (Operation error) c start end
  start_fails FormatOverflow (why, is, last) = absurd (no_format_overflow why is)
  start_fails Memory h = inl h
  start_fails Output h = absurd h
  start_fails error h = h

  module _ (v : Decimal) (first : IsEnd c start v) where
    -- an error of the end
    pub end_fails :
        (error : OperationError) (why : RangeError) → IsErrorOfEnd error why
        → LastFails error c.reader c.calls.items end → RangeFails why c start end
    end_fails Memory why is h = rw is (inr (inl ((v, first), h)))
    end_fails Output why is h = absurd h
    end_fails error why is h = rw is ((v, first), h)

    module _ (w : Decimal) (last : IsEnd c end w) where
      -- an error of the text of the range
      pub text_fails : (error : OperationError) → RangeWritingFails error c.formatter v w
          → RangeFails (Operation error) c start end
      text_fails FormatOverflow h = (v, w, first, last, h)
      text_fails Memory h = inr (inr (v, w, first, last, h))
      text_fails Output h = (v, w, first, last, h)
      text_fails error h = absurd h

      -- what holds of the text that is written
      pub range_outcome : (P : List ℕ → Type 0) → HasRangeTextBy c.formatter v w P → HasRangeOutcome c start end P
      range_outcome P h = (v, w, first, last, h)
