-- Tables whose rows are sorted by name.
use Rattle.std.specs.{Prelude.{◌≡◌, ◌≤◌, ℕ, ◌==◌, Bool, true, false, List, length, slice_range, find, slice_get, All, Contains, Option, None, Some}, List.before_first, Option.option_and_then, Str.bytes_eq}
use Rattle.locale_data.specs.{declared.tables.rows.TableRange.TableRange, Tag.is_tag_prefix}

-- the part of a table in a range, as far as the table goes
abbrev pub part : {T : Type 0} → List T → TableRange → List T
part table range = slice_range table range.0 range.1

-- a text without the spaces after it
abbrev pub unpadded : List ℕ → List ℕ
unpadded padded = before_first (λ b. b == 32) padded

-- the row with an index
abbrev pub row_at : {R : Type 0} → List R → Option ℕ → Option R
row_at rows index = option_and_then (slice_get rows) index

-- the row with a name
abbrev pub row_named : {R : Type 0} → (R → List ℕ) → List R → List ℕ → Option R
row_named name_of rows name = find (λ row. bytes_eq (unpadded (name_of row)) name) rows

-- the name of a row is a prefix of a tag: `de` and `de-ch` of `de-CH-1996`
abbrev pub is_candidate : {R : Type 0} → (R → List ℕ) → List ℕ → R → Bool
is_candidate name_of tag row = is_tag_prefix (unpadded (name_of row)) tag

-- no row's name is a prefix of a tag, or this row's is, and the name of none that is has more bytes
abbrev pub IsRowOf : {R : Type 0} → (R → List ℕ) → List R → List ℕ → Option R → Type 0
IsRowOf name_of rows tag None = All (λ row. is_candidate name_of tag row ≡ false) rows
IsRowOf name_of rows tag (Some row) =
    Contains rows row × (is_candidate name_of tag row ≡ true)
    × All (λ other. is_candidate name_of tag other ≡ true
    → length (unpadded (name_of other)) ≤ length (unpadded (name_of row))) rows
