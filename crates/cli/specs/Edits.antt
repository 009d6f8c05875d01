-- The fields of a line that are replaced by their conversions.
use Rattle.std.specs.Prelude.{◌≡◌, ◌⊎◌, ℕ, ◌<◌, Bool, List, [], ◌∷◌, ◌++◌, length, All, Contains, Option, Some, None, Result, Ok, Err, MatchResult, nat_le, if◌then◌else◌}
use Rattle.cli.specs.{declared.{lines.{edits.{FieldConversion.FieldConversion, FieldError.FieldError}, fields.Field.Field}, program.error.LineError.LineError}, FieldConversion.IsFieldResult, Fields.{located, within, bytes_of}}
use Rattle.conversions.specs.declared.error.OperationError.{OperationError, TheVariants.Memory}

-- the fields of a line with the delimiter and the quotes of this one
module _ (trims : Bool) (base : Field) (line : List ℕ) where
  -- the field is between these bounds, and its conversion is this text
  abbrev pub IsEdit : FieldConversion → ℕ × ℕ → List ℕ → Type 0
  IsEdit field bounds text =
      (located base line field.index ≡ Ok bounds)
      × IsFieldResult trims base field.conversion.now (within line bounds) (Ok text)

  -- the field has a conversion
  abbrev pub HasEdit : FieldConversion → Type 0
  HasEdit field = (bounds : ℕ × ℕ) × (text : List ℕ) × IsEdit field bounds text

  -- it has none, for this error: it is not in the line, or its conversion fails
  abbrev pub HasNoEdit : FieldConversion → OperationError → Type 0
  HasNoEdit field error =
      MatchResult (located base line field.index)
      (λ bounds. IsFieldResult trims base field.conversion.now (within line bounds) (Err error)) (λ why. error ≡ why)

  -- its conversion fails with this error: it has none; or out of memory, where the field is in the line
  abbrev pub EditFails : FieldConversion → OperationError → Type 0
  EditFails field error =
      HasNoEdit field error
      ⊎ ((error ≡ Memory) × ((bounds : ℕ × ℕ) × (located base line field.index ≡ Ok bounds)))

  -- the bytes of the line that follow a start, with the conversion of each of these fields instead of it
  abbrev pub AreEdited : List FieldConversion → ℕ → List ℕ → Type 0
  AreEdited [] start bytes = bytes ≡ within line (start, length line)
  AreEdited (field ∷ fields) start bytes =
      (bounds : ℕ × ℕ) × (text : List ℕ) × (rest : List ℕ) × IsEdit field bounds text × AreEdited fields bounds.1 rest
      × (bytes ≡ within line (start, bounds.0) ++ (bytes_of base text ++ rest))

  -- this is the error of the first field, in the order of words, that fails: the others before it have a conversion
  abbrev pub IsFirstError : (FieldConversion → OperationError → Type 0) → List FieldConversion → LineError → Type 0
  IsFirstError Fails fields error =
      (field : FieldConversion) × Contains fields field × Fails field error.error × (error.field ≡ field.label)
      × All (λ other. other.rank < field.rank → HasEdit other) fields

  -- the result of the line: each of these fields, in the order of the line, is replaced by its conversion; or an error
  abbrev pub IsEditedLine : List FieldConversion → Result (List ℕ) LineError → Type 0
  IsEditedLine fields (Ok text) = AreEdited fields 0 text
  IsEditedLine fields (Err error) = IsFirstError HasNoEdit fields error

  -- P holds of the text of the line
  abbrev pub HasEditedText : List FieldConversion → (List ℕ → Type 0) → Type 0
  HasEditedText fields P = (text : List ℕ) × IsEditedLine fields (Ok text) × P text

  -- the line fails with this error: that of the first field that fails; or each field has a conversion, and the program
  -- is out of memory for the text of the line
  abbrev pub EditingFails : List FieldConversion → LineError → Type 0
  EditingFails fields error =
      IsFirstError EditFails fields error ⊎ ((error.error ≡ Memory) × All HasEdit fields)

-- ---- The first of two errors.

-- the error of the field that words name first, of one that was found before and this one
abbrev pub first_error : Option FieldError → FieldError → FieldError
first_error None error = error
first_error (Some found) error = if nat_le found.rank error.rank then found else error
