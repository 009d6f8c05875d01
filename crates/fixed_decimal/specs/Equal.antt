-- Equality of values by their texts.
use Rattle.std.specs.{Prelude.{ℕ, Bool, List}, Str.bytes_eq, Cmp.{IsPartialEquivalence, on_per, partial_equiv_from_equiv, Lexicographic.nat_list_eq_equiv}}

-- whether two values have the same text
abbrev pub same_text : {V : Type 0} → (V → List ℕ) → V → V → Bool
same_text text v w = bytes_eq (text v) (text w)

-- this equality is symmetric and transitive
pub same_text_laws : {V : Type 0} (text : V → List ℕ) → IsPartialEquivalence (same_text text)
same_text_laws text = on_per text (partial_equiv_from_equiv nat_list_eq_equiv)
