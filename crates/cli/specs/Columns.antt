-- The fields that words name.
use Rattle.std.specs.{Prelude.{◌≡◌, ℕ, suc, ◌==◌, Bool, true, false, ℤ, pos, if◌then◌else◌, List, drop, slice_index, codes, String, string_bytes, Option, Some, None, is_some, option_and_then}, Borrow.Bor, Char.is_ascii_digit, List.list_all, Option.option_or, Str.bytes_eq, declared.alloc.Global.Global}
use Rattle.conversions.specs.{Parameters.number, ShownWord.IsShown}
use Rattle.cli.specs.{declared.{words.columns.Column.{Column, TheVariants.{Index, Name}}, program.error.FieldLabel.FieldLabel}, Parameters.parameter_of}
use Rattle.cli.specs.declared.program.error.FieldLabel.TheVariants as label

-- these bytes, wherever they are
abbrev pub borrowed : List ℕ → Bor (List ℕ)
borrowed bytes = record { ref_ptr = (0, 0); now = bytes }

-- a column, wherever its name is
abbrev pub copied : Column → Column
copied (Index index) = Index index
copied (Name name) = Name (borrowed name.now)

-- the field with this 1-based number
abbrev pub by_number : Option ℤ → Option Column
by_number (Some (pos (suc index))) = Some (Index index)
by_number number = None

-- the field with this name, which is not digits alone; or with the name that follows an equals sign
abbrev pub by_name : List ℕ → Option Column
by_name text =
    if slice_index text 0 == 61 then Some (Name (borrowed (drop 1 text)))
    else if list_all is_ascii_digit text then None
    else Some (Name (borrowed text))

-- the field that a word names: `field:2`, `field:price`, and `field:=2` for the name 2
abbrev pub column_of : List ℕ → Option Column
column_of word =
    option_and_then (λ text. option_or (by_number (number text)) (by_name text)) (parameter_of (codes "field") word)

-- whether a word names a field
abbrev pub names_field : String Global → Bool
names_field word = is_some (column_of (string_bytes word))

-- whether both have the same number or the same name
abbrev pub is_same : Column → Column → Bool
is_same (Index index) (Index other) = index == other
is_same (Name name) (Name other) = bytes_eq name.now other.now
is_same _ _ = false

abbrev pub is_name : Column → Bool
is_name (Index index) = false
is_name (Name name) = true

-- an error names the field so
abbrev pub IsLabel : Column → FieldLabel → Type 0
IsLabel (Index index) field = field ≡ label.Index index
IsLabel (Name name) (label.Name text) = IsShown name.now text
IsLabel (Name name) (label.Index index) = ⊥
