-- The fields that words name, in a header.
use Rattle.std.specs.{Prelude.{◌≡◌, ◌≢◌, ◌⊎◌, ℕ, nat_lt, ◌<◌, ◌≤◌, ◌==◌, Bool, true, false, List, [], ◌∷◌, length, insert, count_by, slice_get, Some}, List.list_any}
use Rattle.cli.specs.{declared.{words.{columns.Column.{Column, TheVariants.{Index, Name}}, targets.NamedField.NamedField}, lines.{edits.FieldConversion.FieldConversion, fields.Field.Field, headers.Header.Header}, program.error.HeaderError.{HeaderError, TheVariants.{NoField, TwoFields, SameField}}}, FieldConversion.is_trimmed, Fields.{bounds, within, Holds}, Trim.text_of}
use Rattle.cli.specs.declared.program.error.FieldLabel.TheVariants as label
use Rattle.conversions.specs.ShownWord.{IsShown}

-- the bytes of a field hold this name, with `trim` between blanks and tabs
abbrev pub HoldsName : Bool → Field → List ℕ → List ℕ → Type 0
HoldsName trims field bytes name =
    (text : List ℕ) × Holds field bytes text × (text_of (is_trimmed trims field bytes) text ≡ name)

-- whether one of these fields has this index
abbrev pub has_index : List FieldConversion → ℕ → Bool
has_index fields index = list_any (λ it. it.index == index) fields

-- the field with this index, which words name after as many others as its rank is, and the conversion of its words
abbrev pub IsPlaced : ℕ → ℕ → NamedField → FieldConversion → Type 0
IsPlaced index rank named placed =
    (placed.index ≡ index) × (placed.rank ≡ rank) × (placed.label ≡ Some named.label)
    × (placed.conversion.now ≡ named.conversion)

-- the number of these fields that precede the one with this index in a line
abbrev pub count_before : List FieldConversion → ℕ → ℕ
count_before fields index = count_by (λ it. nat_lt it.index index) fields

-- fields in the order of a line, with another one
abbrev pub with_field : List FieldConversion → FieldConversion → List FieldConversion
with_field fields it = insert fields (count_before fields it.index) it

-- the fields of these bytes, in a header: its first field has the delimiter and the quotes of all
module _ (trims : Bool) (field : Field) (header : List ℕ) where
  -- the field with this index has this name
  abbrev pub HasName : List ℕ → ℕ → Type 0
  HasName name index =
      (found : ℕ × ℕ) × (bounds field header index ≡ Some found)
      × HoldsName trims field (within header found) name

  -- no field from this index up to the other one has this name
  abbrev pub NoneHas : List ℕ → ℕ → ℕ → Type 0
  NoneHas name from to = (index : ℕ) → from ≤ index → index < to → ¬ HasName name index

  -- a word names the field with this index: by its number, or by the name that it alone has
  abbrev pub IsIndexOf : Column → ℕ → Type 0
  IsIndexOf (Index number) index = index ≡ number
  IsIndexOf (Name name) index =
      HasName name.now index × ((other : ℕ) → HasName name.now other → other ≡ index)

  -- a word names no field, for this error: no field has the name, or two have it
  abbrev pub HasNoIndex : Column → HeaderError → Type 0
  HasNoIndex (Name name) (NoField it) = IsShown name.now it × ((index : ℕ) → ¬ HasName name.now index)
  HasNoIndex (Name name) (TwoFields it) =
      IsShown name.now it
      × ((index : ℕ) × (other : ℕ) × (index ≢ other) × HasName name.now index × HasName name.now other)
  HasNoIndex column error = ⊥

  -- the word names a field that is new, which is added to these in the order of a line
  abbrev pub AddsField : NamedField → List FieldConversion → List FieldConversion → Type 0
  AddsField it before after =
      (index : ℕ) × (placed : FieldConversion) × IsIndexOf it.column index × (has_index before index ≡ false)
      × IsPlaced index (length before) it placed × (after ≡ with_field before placed)

  -- the word names no field, or one of these, for this error
  abbrev pub FieldFails : List FieldConversion → NamedField → HeaderError → Type 0
  FieldFails before it error =
      HasNoIndex it.column error
      ⊎ ((index : ℕ) × IsIndexOf it.column index × (has_index before index ≡ true)
      × (error ≡ SameField (label.Index index)))

  -- these fields and those that words name, none of them twice, are these, in the order of a line
  abbrev pub AreFields : List FieldConversion → List NamedField → List FieldConversion → Type 0
  AreFields before [] fields = fields ≡ before
  AreFields before (it ∷ named) fields =
      (next : List FieldConversion) × AddsField it before next × AreFields next named fields

  -- after these fields the first word that fails has this error
  abbrev pub FieldsFail : List FieldConversion → List NamedField → HeaderError → Type 0
  FieldsFail before [] error = ⊥
  FieldsFail before (it ∷ named) error =
      FieldFails before it error
      ⊎ ((next : List FieldConversion) × AddsField it before next × FieldsFail next named error)

-- this is the header with these bytes
abbrev pub IsHeaderOf : Bool → Field → List ℕ → Header → Type 0
IsHeaderOf trims field bytes header =
    (header.trims ≡ trims) × (header.field ≡ field) × (header.bytes.now ≡ bytes)

-- its bounds are those of the fields
abbrev pub HasBounds : Header → Type 0
HasBounds header =
    (index : ℕ) → bounds header.field header.bytes.now index ≡ slice_get header.bounds.items index
