-- A `Steps` has no bytes and owns nothing, so a counter of any value is constructed without resources.
use Rattle.std.proofs.Common.{List, [], ◌∷◌, refl}
use Rattle.decimal_digits.specs.{contracts.digits.steps.Steps.the_row as row, declared.digits.steps.Steps.Steps}
use denote.Laws.{Makes, Is}
use denote.Shadow.{makes_shadow}
use denote.Steps.{owned}
use mir.Val.{Val, vstruct, vnil}
use seplogic.Ra.Ura.{Ura}
use types.Kit.{Item, Goal, ‵, Step}
use types.Logic.{Logic}

-- the representation of `Steps`: a struct without fields
abbrev pub bare : Val
bare = vstruct vnil

makes : {M : Type 1} {𝓤 : Ura M} (𝓛 : Logic 𝓤) → Makes 𝓛 row (Is row)
makes 𝓛 s vs is = makes_shadow 𝓛 (row.own_val s vs) (λ _. (tt, tt), tt) is

-- a counter of any value is owned, without resources
pub made : {M : Type 1} {𝓤 : Ura M} (𝓛 : Logic 𝓤) {K : Type 0} {Γ : List (Item 𝓤)} {G : Goal 𝓤 𝓛.H} → K
    → (s : Steps)
    → Step K 𝓛 (‵ (row.own_val s (bare ∷ [])) ∷ Γ) G Γ G
made 𝓛 t s = owned t row (Is row) (makes 𝓛) s (bare ∷ []) ((tt, (refl, tt)), tt)
