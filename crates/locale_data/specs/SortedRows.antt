-- How rows are sorted, so that a name is found by a binary search.
use Rattle.std.specs.{Prelude.{◌≡◌, ℕ, zero, suc, ◌+◌, ◌-◌, ◌*◌, ◌%◌, ◌^◌, ◌<◌, ◌≤◌, ◌==◌, ◌||◌, ◌&&◌, if◌then◌else◌, Bool, true, nat_lt, List, [], ◌∷◌, length, map, slice_index, slice_index_or, All}, Int.{from_be_bytes, w128}, List.list_all}
use Rattle.locale_data.specs.{Tag.tag_byte, Rows.{unpadded, is_candidate}}

-- a byte of a text with spaces after it
abbrev pub padded_byte : List ℕ → ℕ → ℕ
padded_byte text k = if nat_lt k (length text) then slice_index text k else 32

-- 16 bytes: those of a text with spaces after it, or its first
abbrev pub IsPadded : List ℕ → List ℕ → Type 0
IsPadded padded text = (length padded ≡ 16) × ((k : ℕ) → k < 16 → slice_index padded k ≡ padded_byte text k)

-- the number whose digits to base 256 are the first bytes of a text with spaces after it, in 128 bits
abbrev pub key_of_first : List ℕ → ℕ → ℕ
key_of_first text zero = 0
key_of_first text (suc k) = (key_of_first text k * 256 % 2 ^ 128 + padded_byte text k) % 2 ^ 128

-- what a binary search compares: 16 bytes as a number
unfoldable pub key : List ℕ → ℕ
key text = key_of_first text 16

-- each key is less than the next
abbrev pub increases : List ℕ → Bool
increases [] = true
increases (m ∷ []) = true
increases (m ∷ n ∷ rest) = nat_lt m n && increases (n ∷ rest)

-- a name has no byte after a space but spaces
abbrev pub is_padded : List ℕ → Bool
is_padded name = from_be_bytes w128 name == key (unpadded name)

-- the names of a list of rows are padded, and each is less than the next
abbrev pub is_table : {R : Type 0} → (R → List ℕ) → List R → Bool
is_table name_of rows =
    list_all (λ row. is_padded (name_of row)) rows && increases (map (λ row. from_be_bytes w128 (name_of row)) rows)

-- a part of a tag ends at an index: at a hyphen, or with the tag
abbrev pub ends_at : List ℕ → ℕ → Bool
ends_at tag end = (length tag == end) || (tag_byte (slice_index tag end) == 45)

-- no row's name is a prefix of a tag with more bytes than `end`
abbrev pub HasNoLonger : {R : Type 0} → (R → List ℕ) → List R → List ℕ → ℕ → Type 0
HasNoLonger name_of rows tag end =
    All (λ row. is_candidate name_of tag row ≡ true → length (unpadded (name_of row)) ≤ end) rows

-- there is no row at an index, or its key is at least 256 ^ (16 - end) above another
abbrev pub IsFar : {R : Type 0} → (R → List ℕ) → List R → ℕ → ℕ → ℕ → Type 0
IsFar {R} name_of rows index n end =
    (end < 16) × ((row : R) → index < length rows
    → n + 2 ^ (8 * (16 - end)) ≤ from_be_bytes w128 (name_of (slice_index_or rows index row)))
