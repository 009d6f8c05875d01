-- The run of a filter that words name.
use Rattle.std.proofs.{Common.{◌≡◌, ℕ, List, [], ◌∷◌, Option, Some, None, Ok, Err, Result, Bool, true, false, inr, refl}, KnownBytes.Appends-nil}
use Rattle.std.specs.{Prelude.{IfSome, IsSomeAnd, Vec}, Borrow.Bor, declared.alloc.Global.Global}
use Rattle.decimal_digits.specs.AppendsPrefix.{AppendsPrefix}
use Rattle.cli.specs.{declared.{program.error.{HeaderError.HeaderError, ProgramError.{ProgramError, TheVariants.{LongLine, Input, Header}}}, lines.{edits.FieldConversion.FieldConversion, fields.Field.Field, filter.Filter.Filter, named_filter.NamedFilter.NamedFilter}, words.targets.NamedField.NamedField}, Filter.{Effects, IsErrorOfReading}, Input.IsRowRead, Lines.rows_of, NamedFilter.{filter_of, IsOnly, ArePlaced, HasHeader, HeaderFails, IsFilter, EndsAtHeader, FiltersNamed}, Targets.have_names}
use Rattle.conversions.specs.declared.conversion.Conversion.{Conversion}
use Rattle.cli.specs.declared.words.targets.NamedTarget.TheVariants as named
use Rattle.cli.specs.declared.lines.filter.Target.TheVariants as target
use Rattle.cli.proofs.lemmas.lines.Filtering.{row_first, whole}

-- the filter of a line
pub line_filter :
    (it : NamedFilter) (header : List ℕ) (conversion : Bor Conversion) (filter : Filter)
    → filter ≡ filter_of it.options (target.Line conversion) → it.target ≡ named.One None conversion.now
    → IsFilter it header filter
line_filter it header conversion filter is words = (target.Line conversion, rw words refl, is)

-- of a field by its number
pub field_filter :
    (it : NamedFilter) (header : List ℕ) (field : Field) (conversion : Conversion) (only : FieldConversion)
    (filter : Filter) → filter ≡ filter_of it.options (target.Field field only)
    → it.target ≡ named.One (Some field) conversion → IsOnly field conversion only → IsFilter it header filter
field_filter it header field conversion only filter is words same =
    (target.Field field only, rw words (refl, same), is)

-- and of fields in a header
pub fields_filter :
    (it : NamedFilter) (header : List ℕ) (field : Field) (list : Vec NamedField Global)
    (fields : Vec FieldConversion Global) (filter : Filter) → filter ≡ filter_of it.options (target.Fields field fields)
    → it.target ≡ named.Fields field list → ArePlaced it.options field list.items header fields.items
    → IsFilter it header filter
fields_filter it header field list fields filter is words places =
    (target.Fields field fields, rw words (refl, places), is)

-- a row was read
some_rows :
    (has_records : Bool) (a b : Option (List ℕ)) (row : List ℕ)
    → IfSome a (λ bytes. IsRowRead has_records true bytes row b)
    → IfSome a (λ bytes. (rows : List (List ℕ)) × (rows_of has_records bytes ≡ row ∷ rows))
some_rows has_records None b row is = tt
some_rows has_records (Some bytes) None row is = absurd (row_first has_records bytes row None is)
some_rows has_records (Some bytes) (Some left) row is =
    (rows_of has_records left, row_first has_records bytes row (Some left) is)

rows_left :
    (has_records : Bool) (a b : Option (List ℕ)) (row : List ℕ)
    → IfSome a (λ bytes. IsRowRead has_records true bytes row b)
    → IfSome a (λ bytes. IsSomeAnd b (λ rest. rows_of has_records bytes ≡ row ∷ rows_of has_records rest))
rows_left has_records None b row is = tt
rows_left has_records (Some bytes) b row is = row_first has_records bytes row b is

-- or there is none
no_bytes : (has_records : Bool) (bytes row : List ℕ) (b : Option (List ℕ)) → IsRowRead has_records false bytes row b
    → bytes ≡ []
no_bytes true bytes row b none = none.0
no_bytes false bytes row b none = none.0

no_rows :
    (has_records : Bool) (a b : Option (List ℕ)) (row : List ℕ)
    → IfSome a (λ bytes. IsRowRead has_records false bytes row b) → IfSome a (λ bytes. bytes ≡ [])
no_rows has_records None b row is = tt
no_rows has_records (Some bytes) b row is = no_bytes has_records bytes row b is

module _ (it : NamedFilter) where
  pub no_header : have_names it.target ≡ false → (a : Option (List ℕ)) → HasHeader it a []
  no_header none a = rw none refl

  pub has_header :
      have_names it.target ≡ true → (a b : Option (List ℕ)) (row : List ℕ)
      → IfSome a (λ bytes. IsRowRead it.options.has_records true bytes row b) → HasHeader it a row
  has_header names a b row is = rw names (some_rows it.options.has_records a b row is)

  -- nothing was written and reported
  module _ {D : Type 0} (reports : D → ProgramError → D → Type 0) (e : Effects D) (r : Result Bool ProgramError)
      (written : e.output.after ≡ e.output.before) (reported : e.diagnostics.after ≡ e.diagnostics.before)
    where
      ends : EndsAtHeader it e r → FiltersNamed reports AppendsPrefix it e r
      ends h =
          let nothing = Appends-nil e.output.before in
          inr (
            h,
            (
              (λ _. rw written nothing),
              rw written (whole e.output.before e.output.before [] nothing),
            ),
            reported,
          )

  module _ {D : Type 0} (reports : D → ProgramError → D → Type 0) (e : Effects D)
      (written : e.output.after ≡ e.output.before) (reported : e.diagnostics.after ≡ e.diagnostics.before)
    where
      -- there is no row
      pub ends_empty :
          have_names it.target ≡ true → (row : List ℕ)
          → IfSome e.input.before (λ bytes. IsRowRead it.options.has_records false bytes row e.input.after)
          → FiltersNamed reports AppendsPrefix it e (Ok true)
      ends_empty names row is =
          ends reports e (Ok true) written reported
          (refl, names, no_rows it.options.has_records e.input.before e.input.after row is)

      ends_reading : have_names it.target ≡ true → (error : ProgramError) → IsErrorOfReading 1 e.failure error
          → EndsAtHeader it e (Err error)
      ends_reading names (LongLine number) is = (names, is)
      ends_reading names Input is = (names, is)
      ends_reading names error never = absurd never

      -- it cannot be read
      pub ends_unread :
          have_names it.target ≡ true → (error : ProgramError) → IsErrorOfReading 1 e.failure error
          → FiltersNamed reports AppendsPrefix it e (Err error)
      ends_unread names error is = ends reports e (Err error) written reported (ends_reading names error is)

      -- it does not have the fields
      pub ends_rejected :
          have_names it.target ≡ true → (row : List ℕ) (error : HeaderError)
          → IfSome e.input.before (λ bytes. IsRowRead it.options.has_records true bytes row e.input.after)
          → HeaderFails it row error → FiltersNamed reports AppendsPrefix it e (Err (Header error))
      ends_rejected names row error is fails =
          ends reports e (Err (Header error)) written reported
          (row, rw names (rows_left it.options.has_records e.input.before e.input.after row is), fails)

      -- without names no header is read, and the fields are out of memory
      pub ends_unplaced :
          have_names it.target ≡ false → (error : HeaderError) → e.input.after ≡ e.input.before
          → HeaderFails it [] error → FiltersNamed reports AppendsPrefix it e (Err (Header error))
      ends_unplaced none error same fails =
          ends reports e (Err (Header error)) written reported ([], rw none (refl, same), fails)
