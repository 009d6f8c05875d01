-- The parameters of a word, after its first colon: the tag of a locale, and an option after a colon; or a number.
use Rattle.std.specs.{Prelude.{◌∷◌, ℕ, ℤ, pos, neg_ℤ, ◌==◌, ◌&&◌, Bool, nat_le, nat_lt, if◌then◌else◌, List, [], length, drop, slice_index, Option, Some, None, option_map, unwrap_or}, List.{list_any, before_first, after_first}, Str.{all_ascii_digits, bytes_eq, Parse.digits_value}}
use Rattle.decimal_digits.specs.Ascii.{minus_sign}

abbrev pub is_colon : ℕ → Bool
is_colon byte = byte == 58

-- the bytes before the first colon
abbrev pub tag_of : List ℕ → List ℕ
tag_of parameters = before_first is_colon parameters

-- the bytes after the first colon, if there is one
abbrev pub option_of : List ℕ → Option (List ℕ)
option_of parameters = if list_any is_colon parameters then Some (after_first is_colon parameters) else None

-- the bytes after the first colon of a word
abbrev pub parameters_of : List ℕ → List ℕ
parameters_of word = unwrap_or (option_of word) []

-- the tag and the option of `read:` and `format:`
abbrev pub locale_tag : List ℕ → List ℕ
locale_tag word = tag_of (parameters_of word)

abbrev pub locale_option : List ℕ → Option (List ℕ)
locale_option word = option_of (parameters_of word)

-- ---- Tables.

-- what a table has for a word
abbrev pub lookup : {X : Type 0} → List (List ℕ × X) → List ℕ → Option X
lookup [] word = None
lookup (row ∷ rows) word = if bytes_eq word row.0 then Some row.1 else lookup rows word

-- ---- Numbers.

-- one to six digits and nothing else
abbrev pub are_digits : List ℕ → Bool
are_digits bytes = all_ascii_digits bytes && (nat_lt 0 (length bytes) && nat_le (length bytes) 6)

-- the number of one to six digits, if it is at most `most`
abbrev pub digits_up_to : ℕ → List ℕ → Option ℕ
digits_up_to most bytes =
    if are_digits bytes && nat_le (digits_value 10 bytes) most then Some (digits_value 10 bytes) else None

-- the number of an optional minus and one to six digits, from -32768 to 32767
abbrev pub number : List ℕ → Option ℤ
number bytes =
    if slice_index bytes 0 == minus_sign
    then option_map (λ n. neg_ℤ (pos n)) (digits_up_to 32768 (drop 1 bytes))
    else option_map pos (digits_up_to 32767 bytes)
