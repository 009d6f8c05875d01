-- Texts of units that say no number.
use Rattle.std.proofs.Common.{◌≡◌, ℕ, Bool, true, false, List, refl, sym, ◌∙◌}
use Rattle.std.specs.Prelude.{Some}
use Rattle.plural_rules.specs.declared.rules.PluralCategory.{PluralCategory}
use Rattle.number_format.specs.{declared.format.{formatter.NumberFormatter.NumberFormatter, outer.OuterTexts.OuterTexts}, CompactReading.lone_number, NumberText.outer_by, WholeUnits.{IsCategoryRead, IsUnitRead, IsUnitText, SaysNone}}

-- a category that is not read has none
pub is_unread : (f : NumberFormatter) (c : PluralCategory) → ¬ IsCategoryRead f c
    → ((outer_by f c).has_number ≡ false) × ¬ IsUnitRead f c
is_unread f c unread = by (outer_by f c).has_number refl
  where
    by : (b : Bool) → (outer_by f c).has_number ≡ b → ((outer_by f c).has_number ≡ false) × ¬ IsUnitRead f c
    by true has = absurd (unread (λ none. absurd (let e = sym has ∙ none in cc)))
    by false none = (none, λ read. absurd (unread (λ e. read)))

-- a text that is neither of `one` nor of `two` says none
pub says_none_of : (texts : OuterTexts) (text : List ℕ) → ¬ IsUnitText texts text PluralCategory.One
    → ¬ IsUnitText texts text PluralCategory.Two → SaysNone texts text
says_none_of texts text one two n says = by says.category says.number says.is
  where
    by : (c : PluralCategory) → lone_number c ≡ Some n → IsUnitText texts text c → ⊥
    by PluralCategory.One e is = one is
    by PluralCategory.Two e is = two is
    by c e is = absurd (cc)
