-- What the words after the options name: the conversion of each line, or of fields of it.
use Rattle.std.specs.{Prelude.{◌≡◌, ◌⊎◌, ℕ, ◌==◌, if◌then◌else◌, Bool, false, List, [], ◌∷◌, ◌++◌, length, take, drop, position, String, string_bytes, Option, Some, None, unwrap_or, option_map, IsSomeAnd, MatchOption, MatchBool}, List.list_any, declared.alloc.Global.Global}
use Rattle.cli.specs.{Columns.{copied, column_of, names_field, is_same, is_name, IsLabel}, declared.{words.{columns.Column.{Column, TheVariants.{Index, Name}}, targets.{Group.Group, NamedField.NamedField, NamedTarget.{NamedTarget, TheVariants.{One, Fields}}}}, program.error.WordsError.{WordsError, TheVariants.{Misplaced, Memory}}, lines.fields.Field.Field}, Fields.at_index, Options.copied_field, Words.{NamesConversion, ConversionFails}}
use Rattle.conversions.specs.{declared.{conversion.Conversion.Conversion, shown_word.ShownWord.ShownWord}, ShownWord.IsShown}

-- ---- Words of fields.

-- the number of words before the first one that names a field
abbrev pub own_count : List (String Global) → ℕ
own_count words = unwrap_or (position names_field words) (length words)

-- these words, and the others
abbrev pub own_words : List (String Global) → List (String Global)
own_words words = take (own_count words) words

abbrev pub other_words : List (String Global) → List (String Global)
other_words words = drop (own_count words) words

-- a word that names a field, the field, the words up to the next one, and the others
pub record FieldWords : Type 0 where
  pub word : List ℕ
  pub column : Column
  pub own : List (String Global)
  pub others : List (String Global)

-- the same as the code has it
abbrev pub field_words : Group → FieldWords
field_words group = record {
  word = group.word.now;
  column = copied group.column;
  own = group.own.now;
  others = group.others.now;
}

-- the words of the first field, if the first word names one
abbrev pub first_field : List (String Global) → Option FieldWords
first_field [] = None
first_field (word ∷ words) =
    option_map (λ column. record {
      word = string_bytes word;
      column = column;
      own = own_words words;
      others = other_words words;
    }) (column_of (string_bytes word))

-- ---- More fields, after the first one.

-- whether one of these fields is this
abbrev pub has_column : List NamedField → Column → Bool
has_column fields column = list_any (λ named. is_same named.column column) fields

-- this is the field, with the conversion of the words
abbrev pub IsNamed : Column → List (String Global) → NamedField → Type 0
IsNamed column own named =
    (copied named.column ≡ column) × IsLabel column named.label × NamesConversion own named.conversion

-- the field is new, and is added to these with the conversion of its words
abbrev pub AddsNamed : FieldWords → List NamedField → List NamedField → Type 0
AddsNamed field before after =
    (named : NamedField) × (has_column before field.column ≡ false) × IsNamed field.column field.own named
    × (after ≡ before ++ (named ∷ []))

-- the words up to those that are left name fields, which are added to these: field:.. [read:..] [CALL].. [format:..] of
-- each
pub data AddFields (words : List (String Global)) (before : List NamedField)
    : List (String Global) → List NamedField → Type 0 where
  no_field : AddFields words before words before
  next_field :
      {left : List (String Global)} {fields after : List NamedField} (field : FieldWords)
      → AddFields words before left fields → first_field left ≡ Some field → AddsNamed field fields after
      → AddFields words before field.others after

-- with all words the fields are these
abbrev pub HasMore : List (String Global) → List NamedField → List NamedField → Type 0
HasMore words before after =
    (left : List (String Global)) × AddFields words before left after × (first_field left ≡ None)

-- the field is named again, or its words name no conversion, or the list of the fields is out of memory
abbrev pub FieldFails : List NamedField → WordsError → FieldWords → Type 0
FieldFails before error field =
    MatchBool (has_column before field.column)
    ((text : ShownWord) × IsShown field.word text × (error ≡ Misplaced text))
    (ConversionFails field.own error
    ⊎ ((error ≡ Memory) × ((conversion : Conversion) × NamesConversion field.own conversion)))

-- words name fields, and then one that fails, for this error
abbrev pub MoreFail : List (String Global) → List NamedField → WordsError → Type 0
MoreFail words before error =
    (left : List (String Global)) × (fields : List NamedField) × AddFields words before left fields
    × IsSomeAnd (first_field left) (FieldFails fields error)

-- ---- All words.

-- the index of a field by its number, if no other field follows
abbrev pub only_index : Column → List (String Global) → Option ℕ
only_index (Index index) others = if length others == 0 then Some index else None
only_index (Name name) others = None

-- the conversion of the words is that of this field, or of the line
abbrev pub IsOne : Option Field → List (String Global) → NamedTarget → Type 0
IsOne place words (One found conversion) = (option_map copied_field found ≡ place) × NamesConversion words conversion
IsOne place words (Fields base fields) = ⊥

-- the words are those of this field and of others, and name these
abbrev pub AreFields : Column → Field → List (String Global) → NamedTarget → Type 0
AreFields column field words (One place conversion) = ⊥
AreFields column field words (Fields base fields) =
    (copied_field base ≡ field)
    × ((named : NamedField) × IsNamed column (own_words words) named
    × HasMore (other_words words) (named ∷ []) fields.items)

-- the words name this, where the options name this field, in lines whose first field is this
abbrev pub NamesTarget : Option (Column × Field) → List (String Global) → NamedTarget → Type 0
NamesTarget None words target = IsOne None words target
NamesTarget (Some (column, field)) words target =
    MatchOption (only_index column (other_words words)) (AreFields column field words target)
    (λ index. IsOne (Some (at_index field index)) (own_words words) target)

-- the words name nothing, for this error: the words of the first field fail; or those of the others
abbrev pub NameNoTarget : Option (Column × Field) → List (String Global) → WordsError → Type 0
NameNoTarget None words error = ConversionFails words error
NameNoTarget (Some (column, field)) words error =
    ConversionFails (own_words words) error
    ⊎ ((only_index column (other_words words) ≡ None)
    × ((named : NamedField) × IsNamed column (own_words words) named
    × ((error ≡ Memory) ⊎ MoreFail (other_words words) (named ∷ []) error)))

-- whether a field has a name
abbrev pub any_name : List NamedField → Bool
any_name fields = list_any (λ named. is_name named.column) fields

abbrev pub have_names : NamedTarget → Bool
have_names (One field conversion) = false
have_names (Fields base fields) = any_name fields.items
