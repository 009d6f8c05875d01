-- What a failed write appends.
use Rattle.std.specs.Prelude.{◌≡◌, ℕ, List, ◌++◌, Option}
use Rattle.std.specs.Io.KnownBytes.{Appends}

-- the new contents are the old ones and then a prefix of the text, for a sink whose contents are observable
abbrev pub AppendsPrefix : Option (List ℕ) → Option (List ℕ) → List ℕ → Type 0
AppendsPrefix old new text = (part rest : List ℕ) × (part ++ rest ≡ text) × Appends old new part
