-- How an error line shows a word.
use Rattle.std.specs.{Prelude.{◌≡◌, ℕ, ◌-◌, nat_le, if◌then◌else◌, List, [], ◌∷◌, ◌++◌, length, encode_utf8}, Char.is_control, Str.chars}
use Rattle.conversions.specs.declared.shown_word.ShownWord.{ShownWord}

-- a character, and a question mark for a control
abbrev pub shown_character : ℕ → ℕ
shown_character character = if is_control character then 63 else character

abbrev pub shown_bytes : ℕ → List ℕ
shown_bytes character = encode_utf8 (shown_character character)

-- what is shown of the characters in this number of bytes, up to the first that does not fit
abbrev pub fitting : ℕ → List ℕ → List ℕ
fitting room [] = []
fitting room (first ∷ rest) =
    if nat_le (length (shown_bytes first)) room
    then shown_bytes first ++ fitting (room - length (shown_bytes first)) rest
    else []

-- what is shown of a word
abbrev pub shown : List ℕ → List ℕ
shown word = fitting 40 (chars word)

-- this is shown of the word
abbrev pub IsShown : List ℕ → ShownWord → Type 0
IsShown word part = part.text.bytes ≡ shown word
