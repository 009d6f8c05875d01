-- The result of a line.
use Rattle.std.proofs.{Common.{◌≡◌, ◌≢◌, ◌++◌, ℕ, inl, inr, refl, sym, Ok, Err, Result, Bool, true, false, List, [], ◌∷◌, length, Option, ap, subst, ◌∙◌, arith}, lemmas.{Bool.false≢true, List.{append-nil, take_rest}}, Math.Seq.drop-length}
use Rattle.std.specs.{Prelude.{IfErr, MatchBool, not, ◌&&◌}, Borrow.Bor}
use Rattle.cli.specs.{declared.{program.error.{FieldLabel.FieldLabel, LineError.LineError}, lines.{edits.FieldConversion.FieldConversion, fields.Field.Field, filter.{Filter.Filter, Target.Target}}}, Edits.{HasNoEdit, EditFails, IsEditedLine, EditingFails}, Error.error_of_line, FieldConversion.{IsTextResult, is_trimmed, IsFieldResult, HasFieldText, IsLineResult, HasLineText, LineFails, map_text}, Fields.{is_quoted, Holds, within, replaced, bytes_of}, Filter.{body_of, IsTargetResult, TargetFails, HasConvertedLine, ConvertingFails, ConversionFails, IsResultOfLine, filtered_line, is_broken_row, RowFails, IsResultOfRow}, Trim.{text_of, with_text_of, body_bounds}}
use Rattle.conversions.specs.{declared.{conversion.Conversion.Conversion, error.OperationError.{OperationError, TheVariants.{Quote, Memory, Output}}}, Conversion.{HasOutcome, OperationsFail}, Error.status_of_operation}
use Rattle.cli.specs.declared.lines.filter.Target.TheVariants as target
use Rattle.conversions.proofs.lemmas.conversion.Conversions.{error_is_outcome}

-- what follows from a fact of an error
pub err_weaker :
    {X E : Type 0} (r : Result X E) (P Q : E → Type 0) → ((e : E) → P e → Q e) → IfErr r P → IfErr r Q
err_weaker (Ok x) P Q f h = tt
err_weaker (Err e) P Q f h = f e h

-- ---- The result of a text.

-- a conversion to a sink in memory failed, and not because it was out of memory
pub text_error :
    (conversion : Conversion) (text : List ℕ) (error result : OperationError) → OperationsFail error conversion text
    → (error ≡ Output → result ≡ Memory) → (error ≢ Output → result ≡ error) → result ≢ Memory
    → IsTextResult conversion text (Err result)
text_error conversion text Memory result fails output same other = absurd (other (same (λ is. cc)))
text_error conversion text Output result fails output same other = absurd (other (output refl))
text_error conversion text error result fails output same other =
    let (why, is_error, is) = error_is_outcome conversion text error refl fails in
    rw (same (λ is. cc)) (Err why, is, ap Err is_error)

-- of a field that holds the text
pub field_result :
    (trims : Bool) (field : Field) (conversion : Conversion) (bytes text : List ℕ) → Holds field bytes text
    → (trimmed : Bool) → is_trimmed trims field bytes ≡ trimmed → (converted result : Result (List ℕ) OperationError)
    → IsTextResult conversion (text_of trimmed text) converted
    → result ≡ map_text (with_text_of trimmed text) converted → IsFieldResult trims field conversion bytes result
field_result trims field conversion bytes text holds trimmed is converted result is_text same =
    inl (text, holds, rw is (converted, is_text, same))

-- the bytes of a field that are its text as they are
pub plain_field :
    (trims : Bool) (field : Field) (conversion : Conversion) (bytes before after : List ℕ) → trims ≡ false
    → field.is_csv ≡ false → HasOutcome conversion bytes (λ text. after ≡ before ++ text)
    → HasFieldText trims field conversion bytes (λ text. after ≡ before ++ bytes_of field text)
plain_field trims field conversion bytes before after off plain (text, is, put) = (
  text,
  field_result trims field conversion bytes bytes (inl (refl, λ csv. absurd (false≢true (sym plain ∙ csv)))) false
      (ap (λ t. t && not (is_quoted field bytes)) off) (Ok text) (Ok text) (Ok text, is, refl) refl,
  rw plain put,
)

plain_is :
    (trims : Bool) (field : Field) (bytes : List ℕ) → trims ≡ false → is_trimmed trims field bytes ≡ false
plain_is trims field bytes off = ap (λ t. t && not (is_quoted field bytes)) off

-- such bytes have no other text
pub plain_fails :
    (trims : Bool) (field : Field) (conversion : Conversion) (bytes : List ℕ) (error : OperationError) → trims ≡ false
    → field.is_csv ≡ false → IsTextResult conversion bytes (Err error)
    → IsFieldResult trims field conversion bytes (Err error)
plain_fails trims field conversion bytes error off plain is =
    field_result trims field conversion bytes bytes (inl (refl, λ csv. absurd (false≢true (sym plain ∙ csv)))) false
    (plain_is trims field bytes off) (Err error) (Err error) is refl

-- ---- The result of a line.

-- an error with status 1 is that of the result
error_is_result :
    (trims : Bool) (conversion : Conversion) (line : List ℕ) (error : OperationError)
    → status_of_operation error ≡ 1 → LineFails trims conversion line error
    → IsLineResult trims conversion line (Err error)
error_is_result true conversion line Memory one h = absurd (omega (arith, one))
error_is_result trims conversion line error one h =
    let (why, same, is) = error_is_outcome conversion (text_of trims line) error one h in
    (Err why, is, ap Err same)

edit_is_none :
    (trims : Bool) (base : Field) (line : List ℕ) (field : FieldConversion) (error : OperationError)
    → status_of_operation error ≡ 1 → EditFails trims base line field error → HasNoEdit trims base line field error
edit_is_none trims base line field error one (inl none) = none
edit_is_none trims base line field error one (inr (memory, at)) =
    absurd (omega (arith, one, ap status_of_operation memory))

edited_is_result :
    (trims : Bool) (base : Field) (fields : List FieldConversion) (bytes : List ℕ) (error : LineError)
    → status_of_operation error.error ≡ 1 → EditingFails trims base bytes fields error
    → IsEditedLine trims base bytes fields (Err error)
edited_is_result trims base fields bytes error one (inl (field, contains, fails, named, before)) =
    (field, contains, edit_is_none trims base bytes field error.error one fails, named, before)
edited_is_result trims base fields bytes error one (inr (memory, all)) =
    absurd (omega (arith, one, ap status_of_operation memory))

-- the result of the line with this number
target_is_result :
    (trims : Bool) (what : Target) (bytes : List ℕ) (error : LineError) → status_of_operation error.error ≡ 1
    → TargetFails trims what bytes error → IsTargetResult trims what bytes (Err error)
target_is_result trims (target.Line conversion) bytes error one (none, fails) = (
  Err error.error,
  error_is_result trims conversion.now bytes error.error one fails,
  ap (λ (field : Option FieldLabel). Err (record { field = field; error = error.error })) none,
)
target_is_result trims (target.Field base field) bytes error one fails =
    edited_is_result trims base (field ∷ []) bytes error one fails
target_is_result trims (target.Fields base fields) bytes error one fails =
    edited_is_result trims base fields.items bytes error one fails

pub rejected_line :
    (filter : Filter) (number : ℕ) (line : List ℕ) (error : LineError) → status_of_operation error.error ≡ 1
    → ConversionFails filter number line error
    → IsResultOfLine filter number line (filtered_line filter number line (Err error))
rejected_line filter number line error one (other, fails) =
    let result = target_is_result filter.trims filter.target (body_of filter number line) error one fails in
    (Err error, inr (other, (Err error, result, refl)), refl)

-- ---- What is around the bytes of a line.

-- of all bytes
all_within : (line : List ℕ) → within line (0, length line) ≡ line
all_within line = take_rest line 0

pub all_replaced : (line bytes : List ℕ) → replaced line (0, length line) bytes ≡ bytes
all_replaced line bytes = ap (λ rest. bytes ++ rest) (drop-length line) ∙ append-nil bytes

module _ (filter : Filter) (number : ℕ) (line : List ℕ) where
  -- the result of the row that begins at the line with this number
  rejected_either :
      (error : LineError) → status_of_operation error.error ≡ 1 → (broken : Bool)
      → MatchBool broken (error ≡ error_of_line Quote) (ConversionFails filter number line error)
      → MatchBool broken
      (filtered_line filter number line (Err error) ≡ filtered_line filter number line (Err (error_of_line Quote)))
      (IsResultOfLine filter number line (filtered_line filter number line (Err error)))
  rejected_either error one true is = ap (λ e. filtered_line filter number line (Err e)) is
  rejected_either error one false fails = rejected_line filter number line error one fails

  pub rejected_row :
      (error : LineError) → status_of_operation error.error ≡ 1 → RowFails filter number line error
      → IsResultOfRow filter number line (filtered_line filter number line (Err error))
  rejected_row error one fails = rejected_either error one (is_broken_row filter line) fails

-- ---- The conversion of a whole line.

module _ (trims : Bool) (number : ℕ) (line : List ℕ) (conversion : Conversion) where
  -- the bytes between these bounds are converted
  module _ (body : ℕ × ℕ) (is_body : body ≡ body_bounds trims number line) where
    pub one_line :
        (P : List ℕ → Type 0)
        → HasLineText trims conversion (within line body) (λ text. P (replaced line body text))
        → HasLineText trims conversion (within line (body_bounds trims number line))
        (λ text. P (replaced line (body_bounds trims number line) text))
    one_line P h =
        subst (λ b. HasLineText trims conversion (within line b) (λ text. P (replaced line b text))) is_body h

    pub one_fails :
        (error : OperationError) → LineFails trims conversion (within line body) error
        → LineFails trims conversion (within line (body_bounds trims number line)) error
    one_fails error fails = subst (λ b. LineFails trims conversion (within line b) error) is_body fails

  -- without `trim` all bytes are converted
  module _ (off : trims ≡ false) where
    pub whole_line :
        (P : List ℕ → Type 0) → HasOutcome conversion line P
        → HasLineText trims conversion (within line (body_bounds trims number line))
        (λ text. P (replaced line (body_bounds trims number line) text))
    whole_line P (written, is, p) =
        rw off
        (written, (Ok written, rw (all_within line) is, refl), subst P (sym (all_replaced line written)) p)

    pub whole_fails :
        (error : OperationError) → OperationsFail error conversion line
        → LineFails trims conversion (within line (body_bounds trims number line)) error
    whole_fails error fails =
        rw off (subst (λ l. OperationsFail error conversion l) (sym (all_within line)) fails)

-- ---- The result of converting a line.

module _ (filter : Filter) (number : ℕ) (line : List ℕ) where
  pub converted_line :
      (what : Target) (P : List ℕ → Type 0) → filter.target ≡ what → (text : List ℕ)
      → IsTargetResult filter.trims what (body_of filter number line) (Ok text)
      → P (replaced line (body_bounds filter.trims number line) text) → HasConvertedLine filter number line P
  converted_line what P is text result p =
      let is_result =
      subst (λ t. IsTargetResult filter.trims t (body_of filter number line) (Ok text)) (sym is) result in
      (replaced line (body_bounds filter.trims number line) text, (Ok text, is_result, refl), p)

  pub converting_fails :
      (what : Target) (error : LineError) → filter.target ≡ what
      → TargetFails filter.trims what (body_of filter number line) error → ConvertingFails filter number line error
  converting_fails what error is fails =
      subst (λ t. TargetFails filter.trims t (body_of filter number line) error) (sym is) fails

  pub converted_text :
      (conversion : Bor Conversion) (P : List ℕ → Type 0) → filter.target ≡ target.Line conversion
      → HasLineText filter.trims conversion.now (body_of filter number line)
      (λ text. P (replaced line (body_bounds filter.trims number line) text))
      → HasConvertedLine filter number line P
  converted_text conversion P is (text, found, p) =
      converted_line (target.Line conversion) P is text (Ok text, found, refl) p
