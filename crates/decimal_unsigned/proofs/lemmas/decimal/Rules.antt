-- Lists of lemmas for tactics.
use Rattle.std.proofs.lemmas.Int.{to_z-of_z}

-- a value that fits its type is kept
pub ruleset kept = (to_z-of_z)
