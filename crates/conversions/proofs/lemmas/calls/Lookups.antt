-- Rows of tables, by their words.
use Rattle.std.proofs.{Common.{◌≡◌, ◌≢◌, ℕ, Bool, true, false, List, [], ◌∷◌, Option, Some, None, refl, subst}, lemmas.{Bool.false_from_ne_true, Option.{none-some, same_Some}, Slice.Eq.bytes_eq-Decides}}
use Rattle.std.specs.{Prelude.if◌then◌else◌, List.AllByRecursion, Str.bytes_eq}
use Rattle.conversions.specs.Parameters.{lookup}

-- a word that no row has
pub lookup-none :
    {X : Type 0} (rows : List (List ℕ × X)) (word : List ℕ) → AllByRecursion (λ row. word ≢ row.0) rows
    → None ≡ lookup rows word
lookup-none [] word others = refl
lookup-none (row ∷ rows) word (other, others) =
    let differs = false_from_ne_true (bytes_eq word row.0) (λ same. other ((bytes_eq-Decides word row.0).0 same)) in
    rw differs (lookup-none rows word others)

-- what holds of all rows holds of the one that is found
module _ {X : Type 0} (Q : X → Type 0) (value : X) where
  all_by : (x : X) (others : Option X) (b : Bool) → Q x → (others ≡ Some value → Q value)
      → (if b then Some x else others) ≡ Some value → Q value
  all_by x others true holds rest found = subst Q (same_Some x value found) holds
  all_by x others false holds rest found = rest found

  pub lookup-all : (rows : List (List ℕ × X)) (word : List ℕ) → AllByRecursion (λ row. Q row.1) rows
      → lookup rows word ≡ Some value → Q value
  lookup-all [] word all found = absurd (none-some value found)
  lookup-all (row ∷ rows) word (holds, all) found =
      all_by row.1 (lookup rows word) (bytes_eq word row.0) holds (lookup-all rows word all) found
