-- The filter that words name, and its run on an input whose header has the names of fields.
use Rattle.std.specs.{Prelude.{◌≡◌, ◌≢◌, ◌⊎◌, ℕ, ◌||◌, ◌&&◌, Bool, true, false, List, [], ◌∷◌, Option, Some, None, Result, Ok, Err, IfSome, IsSomeAnd, MatchBool, ⊤}, Io.KnownBytes.Appends}
use Rattle.conversions.specs.declared.conversion.Conversion.{Conversion}
use Rattle.cli.specs.{declared.{lines.{edits.FieldConversion.FieldConversion, fields.Field.Field, filter.{Filter.Filter, Target.Target}, named_filter.NamedFilter.NamedFilter}, program.error.{HeaderError.{HeaderError, TheVariants.{Quote, Memory}}, ProgramError.{ProgramError, TheVariants.{Header, Output}}}, words.{options.Options.Options, targets.{NamedField.NamedField, NamedTarget.NamedTarget}}}, Fields.{has_open_quote, record_of, within}, Filter.{Change, Effects, IsErrorOfReading}, Headers.{AreFields, FieldsFail}, Lines.{rows_of, Filters}, Records.is_broken, Targets.have_names, Trim.body_bounds}
use Rattle.cli.specs.declared.words.targets.NamedTarget.TheVariants as named
use Rattle.cli.specs.declared.lines.filter.Target.TheVariants as target

-- ---- The filter, with a header.

-- the bytes of a header that its fields are in: without a byte order mark at its start and a carriage return at its
-- end, which are around the names that Excel writes
abbrev pub header_record : Field → List ℕ → List ℕ
header_record field header = record_of field (within header (body_bounds true 1 header))

-- whether a header has no fields: it is a broken record, or in CSV a quote is left open
abbrev pub is_broken_header : Options → Field → List ℕ → Bool
is_broken_header options field header =
    (options.has_records && is_broken header) || has_open_quote field header

-- the fields that words name in a header are these
abbrev pub ArePlaced : Options → Field → List NamedField → List ℕ → List FieldConversion → Type 0
ArePlaced options field named header fields =
    (is_broken_header options field header ≡ false)
    × AreFields options.trims field (header_record field header) [] named fields

-- or it does not have them, for this error: it has no fields; or it has, and the first word that fails has this error,
-- or the program is out of memory for the fields
abbrev pub PlacesFail : Options → Field → List NamedField → List ℕ → HeaderError → Type 0
PlacesFail options field named header error =
    MatchBool (is_broken_header options field header) (error ≡ Quote)
    ((error ≡ Memory) ⊎ FieldsFail options.trims field (header_record field header) [] named error)

-- the filter with these options
abbrev pub filter_of : Options → Target → Filter
filter_of options converted = record {
  on_error = options.on_error;
  target = converted;
  has_header = options.has_header;
  has_records = options.has_records;
  trims = options.trims;
}

-- the conversion is that of the only field that words name, by its number: errors do not name it
abbrev pub IsOnly : Field → Conversion → FieldConversion → Type 0
IsOnly field conversion only =
    (only.index ≡ field.index) × (only.rank ≡ 0) × (only.label ≡ None) × (only.conversion.now ≡ conversion)

-- with a header what words name is this
abbrev pub IsTarget : Options → NamedTarget → List ℕ → Target → Type 0
IsTarget options (named.One None conversion) header (target.Line by) = by.now ≡ conversion
IsTarget options (named.One (Some field) conversion) header (target.Field base only) =
    (base ≡ field) × IsOnly field conversion only
IsTarget options (named.Fields field named) header (target.Fields base fields) =
    (base ≡ field) × ArePlaced options field named.items header fields.items
IsTarget options words header found = ⊥

-- with a header the filter is this
abbrev pub IsFilter : NamedFilter → List ℕ → Filter → Type 0
IsFilter it header filter =
    (found : Target) × IsTarget it.options it.target header found × (filter ≡ filter_of it.options found)

-- or the header does not have its fields, for this error
abbrev pub TargetFails : Options → NamedTarget → List ℕ → HeaderError → Type 0
TargetFails options (named.One field conversion) header error = ⊥
TargetFails options (named.Fields field named) header error = PlacesFail options field named.items header error

abbrev pub HeaderFails : NamedFilter → List ℕ → HeaderError → Type 0
HeaderFails it header error = TargetFails it.options it.target header error

-- ---- The run.

-- the header of an input: if a field has a name the first row, and otherwise none is needed
abbrev pub HasHeader : NamedFilter → Option (List ℕ) → List ℕ → Type 0
HasHeader it input header =
    MatchBool (have_names it.target)
    (IfSome input
    (λ bytes. (rows : List (List ℕ)) × (rows_of it.options.has_records bytes ≡ header ∷ rows)))
    (header ≡ [])

-- it was read, and the other rows are left
abbrev pub HeaderIsRead : NamedFilter → Change (Option (List ℕ)) → List ℕ → Type 0
HeaderIsRead it input header =
    MatchBool (have_names it.target)
    (IfSome input.before
    (λ bytes. IsSomeAnd input.after
    (λ rest. rows_of it.options.has_records bytes ≡ header ∷ rows_of it.options.has_records rest)))
    ((header ≡ []) × (input.after ≡ input.before))

-- no row was filtered, and this was returned: a field has a name, and there is no row, or the first one cannot be read;
-- or the header does not have the fields; or the output failed
abbrev pub EndsAtHeader : {D : Type 0} → NamedFilter → Effects D → Result Bool ProgramError → Type 0
EndsAtHeader it effects (Ok texts) =
    (texts ≡ true) × (have_names it.target ≡ true) × IfSome effects.input.before (λ bytes. bytes ≡ [])
EndsAtHeader it effects (Err (Header error)) =
    (header : List ℕ) × HeaderIsRead it effects.input header × HeaderFails it header error
EndsAtHeader it effects (Err Output) = ⊤
EndsAtHeader it effects (Err error) = (have_names it.target ≡ true) × IsErrorOfReading 1 effects.failure error

-- nothing was written
abbrev pub WritesNothing :
    (Option (List ℕ) → Option (List ℕ) → List ℕ → Type 0) → Change (Option (List ℕ)) → Result Bool ProgramError
    → Type 0
WritesNothing AppendsPart output returned =
    (returned ≢ Err Output → Appends output.before output.after []) × AppendsPart output.before output.after []

module _ {D : Type 0} (reports : D → ProgramError → D → Type 0) where
  -- the filter that words name ran with this result: with the header its filter did; or no row was filtered, and
  -- nothing was written and reported
  abbrev pub FiltersNamed :
      (Option (List ℕ) → Option (List ℕ) → List ℕ → Type 0) → NamedFilter → Effects D → Result Bool ProgramError
      → Type 0
  FiltersNamed AppendsPart it effects returned =
      ((header : List ℕ) × (filter : Filter) × HasHeader it effects.input.before header × IsFilter it header filter
      × Filters AppendsPart reports filter 1 effects returned)
      ⊎ (EndsAtHeader it effects returned × WritesNothing AppendsPart effects.output returned
      × (effects.diagnostics.after ≡ effects.diagnostics.before))
