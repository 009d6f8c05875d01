-- The parameter of a word: what follows its name and a colon.
use Rattle.std.specs.{Prelude.{ℕ, Bool, if◌then◌else◌, List, Option, None, is_some}, Str.bytes_eq}
use Rattle.conversions.specs.Parameters.{tag_of, option_of}

-- what follows this name and the first colon of a word
abbrev pub parameter_of : List ℕ → List ℕ → Option (List ℕ)
parameter_of name word = if bytes_eq (tag_of word) name then option_of word else None

-- whether a word is this name, a colon and a text
abbrev pub has_name : List ℕ → List ℕ → Bool
has_name name word = is_some (parameter_of name word)
