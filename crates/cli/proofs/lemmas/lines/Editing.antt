-- The fields of a line that are replaced by their conversions.
use Rattle.std.proofs.{Common.{◌≡◌, ◌≢◌, ℕ, suc, ◌+◌, ◌<◌, ◌≤◌, inl, inr, refl, sym, ap, subst, ◌∙◌, arith, add-one, Some, None, Ok, Err, Option, Bool, nat_le, List, ◌∷◌, ◌++◌, length, take, drop, get_or, append_assoc, take_all, drop-cons, ⊎_elim}, lemmas.{Bool.{cond_both, cond-true, cond-false, Decides.leb_tells}, List.Elements.{All-push, All-weaker}}}
use Rattle.std.specs.Prelude.{All, Contains, IfSome}
use Rattle.cli.specs.{declared.{lines.{edits.{FieldConversion.FieldConversion, FieldError.FieldError}, fields.Field.Field}, program.error.LineError.LineError}, Edits.{IsEdit, HasEdit, EditFails, AreEdited, HasEditedText, IsEditedLine, EditingFails, first_error}, Error.line_error, FieldConversion.IsFieldResult, Fields.{located, within, replaced, bytes_of}, Trim.body_bounds}
use Rattle.conversions.specs.declared.error.OperationError.{OperationError, TheVariants.Memory}
use Rattle.cli.proofs.lemmas.words.CallWords.{taken}

-- what holds of two errors holds of the first one
pub first_other :
    (P : FieldError → Type 0) (found : Option FieldError) (error : FieldError) → IfSome found P → P error
    → P (first_error found error)
first_other P None error h p = p
first_other P (Some found) error h p = cond_both (nat_le found.rank error.rank) found error P (λ _. h) (λ _. p)

module _ (trims : Bool) (base : Field) (line : List ℕ) where
  -- ---- The line with the conversions.

  module _ (fields : List FieldConversion) (written : List ℕ) (copied : ℕ) where
    -- what follows the copied bytes is written, with the fields that are left
    abbrev pub Continues : ℕ → Type 0
    Continues i =
        (rest : List ℕ) → AreEdited trims base line (drop i fields) copied rest
        → AreEdited trims base line fields 0 (written ++ rest)

  -- one more field
  module _
      (fields : List FieldConversion) (written : List ℕ) (copied i : ℕ) (h : Continues fields written copied i)
      (one : FieldConversion) (inside : i < length fields) (is : one ≡ get_or fields i one)
    where
      first : drop i fields ≡ one ∷ drop (i + 1) fields
      first = rw add-one (drop-cons fields i one inside ∙ ap (λ x. x ∷ drop (suc i) fields) (sym is))

      pub continues_more :
          (bounds : ℕ × ℕ) (text after : List ℕ) → IsEdit trims base line one bounds text
          → after ≡ (written ++ within line (copied, bounds.0)) ++ bytes_of base text
          → Continues fields after bounds.1 (i + 1)
      continues_more bounds text after edit put rest are =
          let part = within line (copied, bounds.0) in
          let bytes = bytes_of base text in
          subst (AreEdited trims base line fields 0)
          (sym (append_assoc written part (bytes ++ rest))
          ∙ sym (append_assoc (written ++ part) bytes rest)
          ∙ ap (λ t. t ++ rest) (sym put))
          (h (part ++ (bytes ++ rest))
          (rw first (bounds, text, rest, edit, are, refl)))

  -- ---- The first error.

  -- a field that is in the line fails
  pub edit_fails :
      (field : FieldConversion) (found : ℕ × ℕ) (error : OperationError)
      → located base line field.index ≡ Ok found
      → (error ≢ Memory → IsFieldResult trims base field.conversion.now (within line found) (Err error))
      → EditFails trims base line field error
  edit_fails field found Memory at is = inr (refl, (found, at))
  edit_fails field found error at is = inl (rw at (is (λ memory. cc)))

  -- one of the fields has this error
  abbrev pub Fails : List FieldConversion → FieldError → Type 0
  Fails fields error =
      (field : FieldConversion) × Contains fields field × EditFails trims base line field error.error
      × (error.label ≡ field.label) × (field.rank ≡ error.rank)

  -- of the first fields each one of a lower rank has a conversion
  abbrev pub Convert : List FieldConversion → ℕ → ℕ → Type 0
  Convert fields i rank = All (λ field. field.rank < rank → HasEdit trims base line field) (take i fields)

  -- of the first fields each one has a conversion; or this is the error of the one that words name first
  abbrev pub Found : List FieldConversion → ℕ → Option FieldError → Type 0
  Found fields i None = All (HasEdit trims base line) (take i fields)
  Found fields i (Some error) = Convert fields i error.rank × Fails fields error

  -- one more field
  module _
      (fields : List FieldConversion) (i : ℕ) (one : FieldConversion) (inside : i < length fields)
      (is : one ≡ get_or fields i one)
    where
      more : (P : FieldConversion → Type 0) → All P (take i fields) → P one → All P (take (i + 1) fields)
      more P all has = subst (All P) (sym (taken fields i one inside is)) (All-push P (take i fields) one all has)

      -- it has a conversion
      pub found_more : (found : Option FieldError) → Found fields i found → HasEdit trims base line one
          → Found fields (i + 1) found
      found_more None all has = more (HasEdit trims base line) all has
      found_more (Some error) (all, fails) has =
          (more (λ field. field.rank < error.rank → HasEdit trims base line field) all (λ _. has), fails)

      -- of the fields before it each one of a lower rank has a conversion
      convert_lower :
          (rank : ℕ) → Convert fields i rank → one.rank ≤ rank → Convert fields (i + 1) one.rank
      convert_lower rank all lower =
          more (λ field. field.rank < one.rank → HasEdit trims base line field)
          (All-weaker (λ field. field.rank < rank → HasEdit trims base line field)
          (λ field. field.rank < one.rank → HasEdit trims base line field)
          (λ field has below. has (omega (arith, lower, below))) (take i fields) all)
          (λ below. absurd (omega (arith, below)))

      -- it has an error
      module _ (why : OperationError) (fails : EditFails trims base line one why) where
        abbrev error : FieldError
        error = record { rank = one.rank; label = one.label; error = why }

        pub found_error :
            (found : Option FieldError) → Found fields i found → Found fields (i + 1) (Some (first_error found error))
        found_error None all = (
          more (λ field. field.rank < one.rank → HasEdit trims base line field)
              (All-weaker (HasEdit trims base line) (λ field. field.rank < one.rank → HasEdit trims base line field)
              (λ field has below. has) (take i fields) all)
              (λ below. absurd (omega (arith, below))),
          (one, (i, inside, sym is), fails, refl, refl),
        )
        found_error (Some found) (all, other) =
            ⊎_elim
            (λ before. subst (λ e. Found fields (i + 1) (Some e))
            (sym (cond-true (nat_le found.rank one.rank) found error before.0)) (
              more (λ field. field.rank < found.rank → HasEdit trims base line field) all
                  (λ below. absurd (omega (arith, below, before.1))),
              other,
            ))
            (λ after. subst (λ e. Found fields (i + 1) (Some e))
            (sym (cond-false (nat_le found.rank one.rank) found error after.0)) (
              convert_lower found.rank all (omega (arith, after.1)),
              (one, (i, inside, sym is), fails, refl, refl),
            ))
            (leb_tells found.rank one.rank)

  -- this is the error of the line
  pub found_first :
      (fields : List FieldConversion) (i : ℕ) (error : FieldError) → length fields ≤ i → Found fields i (Some error)
      → EditingFails trims base line fields (line_error error.label error.error)
  found_first fields i error end (all, (field, contains, fails, named, same)) =
      inl (field, contains, fails, named, rw (take_all i fields end, sym same) at all)

  -- or each field has a conversion
  pub found_none :
      (fields : List FieldConversion) (i : ℕ) → length fields ≤ i → Found fields i None
      → All (HasEdit trims base line) fields
  found_none fields i end all = rw (take_all i fields end) at all

-- ---- The result of a line.

module _
    (trims : Bool) (number : ℕ) (line : List ℕ) (base : Field) (fields : List FieldConversion) (body : ℕ × ℕ)
    (is_body : body ≡ body_bounds trims number line)
  where
    pub edited_line :
        (text : List ℕ) → IsEditedLine trims base (within line body) fields (Ok text) → (P : List ℕ → Type 0)
        → P (replaced line body text)
        → HasEditedText trims base (within line (body_bounds trims number line)) fields
        (λ text. P (replaced line (body_bounds trims number line) text))
    edited_line text is P p =
        subst (λ b. HasEditedText trims base (within line b) fields (λ text. P (replaced line b text))) is_body
        (text, is, p)

    pub editing_fails :
        (error : LineError) → EditingFails trims base (within line body) fields error
        → EditingFails trims base (within line (body_bounds trims number line)) fields error
    editing_fails error is = subst (λ b. EditingFails trims base (within line b) fields error) is_body is
