use Rattle.std.proofs.{Common.{◌≡◌, ℕ, Bool, true, false, List, [], refl, sym, ◌∙◌, ap}, lemmas.Str.{IsUtf8-from_is_utf8, is_utf8-from_IsUtf8}}
use Rattle.std.specs.{Prelude.if◌then◌else◌, Str.{IsUtf8, is_utf8}}
use Rattle.locale_names.specs.Texts.{text_or_nothing}
use Rattle.number_skeleton.proofs.units.text_of.Goals as goal

-- bytes that are no text
is_nothing : (bytes : List ℕ) (b : Bool) → is_utf8 bytes ≡ b → (IsUtf8 bytes → ⊥) → text_or_nothing bytes ≡ []
is_nothing bytes true e none = absurd (none (IsUtf8-from_is_utf8 bytes e))
is_nothing bytes false e none = ap (λ b. if b then bytes else []) e

pub returns-in-Ok : goal.returns-in-Ok
returns-in-Ok c =
    let bytes = c.args.bytes.now in
    c.in-Ok.ensures.cases.0
    ∙ sym (ap (λ b. if b then bytes else []) (is_utf8-from_IsUtf8 bytes c.in-Ok.ensures.cases.1))

pub returns-in-Err : goal.returns-in-Err
returns-in-Err c =
    let bytes = c.args.bytes.now in sym (is_nothing bytes (is_utf8 bytes) refl c.in-Err.ensures.cases.0)
