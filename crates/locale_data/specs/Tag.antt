-- Tags of locales.
use Rattle.std.specs.{Prelude.{ℕ, List, [], ◌∷◌, ◌++◌, map, drop, nat_eq, ◌==◌, ◌||◌, Bool, if◌then◌else◌, Option, None, Some, codes}, Borrow.Bor, Option.{option_map, option_and_then}, List.{starts_with, before_first}, Char.to_ascii_lowercase}

-- a reference to a text
abbrev pub Text : Type 0
Text = Bor (List ℕ)

-- how a byte is compared: a letter in lower case, and `_`, `.` and `@` as hyphens
abbrev pub tag_byte : ℕ → ℕ
tag_byte b = if (b == 95) || ((b == 46) || (b == 64)) then 45 else to_ascii_lowercase b

abbrev pub compared : List ℕ → List ℕ
compared tag = map tag_byte tag

-- the tag is `part`, or has a hyphen after it: `de` and `de-ch` of `de-CH-1996`
abbrev pub is_tag_prefix : List ℕ → List ℕ → Bool
is_tag_prefix part tag = starts_with nat_eq (compared tag ++ codes "-") (part ++ codes "-")

-- the rest of a tag from the first occurrence of a text
abbrev pub from_first : List ℕ → List ℕ → Option (List ℕ)
from_first text [] = None
from_first text (b ∷ bs) = if starts_with nat_eq (compared (b ∷ bs)) text then Some (b ∷ bs) else from_first text bs

-- the part of a tag before the first occurrence of a text
abbrev pub before_text : List ℕ → List ℕ → List ℕ
before_text text [] = []
before_text text (b ∷ bs) =
    if starts_with nat_eq (compared (b ∷ bs)) text then [] else b ∷ before_text text bs

-- a tag without its private use: `de` of `de-x-a-u-nu-arab`
abbrev pub without_private_use : List ℕ → List ℕ
without_private_use tag = before_text (codes "-x-") tag

-- the text before the first hyphen
abbrev pub first_subtag : List ℕ → List ℕ
first_subtag tag = before_first (λ b. tag_byte b == 45) tag

-- the numbering system that a tag names: `deva` of `hi-u-nu-deva` and of `hi-u-ca-indian-nu-deva`, and none of
-- `hi-x-a-u-nu-deva`
abbrev pub requested_system : List ℕ → Option (List ℕ)
requested_system tag =
    let keyword_of = λ (extension : List ℕ). from_first (codes "-nu-") (drop 2 extension) in
    option_map (λ keyword. first_subtag (drop 4 keyword))
    (option_and_then keyword_of (from_first (codes "-u-") (without_private_use tag)))
