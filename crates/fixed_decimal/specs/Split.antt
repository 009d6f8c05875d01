-- Texts split at a letter.
use Rattle.std.specs.Prelude.{ℕ, ◌==◌, if◌then◌else◌, List, [], ◌∷◌, Option, Some, None, option_map}

-- the text before the first such letter and the text after it, if the letter occurs
unfoldable pub split_once : ℕ → List ℕ → Option (List ℕ × List ℕ)
split_once letter [] = None
split_once letter (c ∷ rest) =
    if c == letter then Some ([], rest) else option_map (λ parts. (c ∷ parts.0, parts.1)) (split_once letter rest)
