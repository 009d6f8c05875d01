-- A unit is known by its numbers, and by the indices of its parts.
use Rattle.std.proofs.{Common.{◌≡◌, ℕ, ◌<◌, List, length, Option, Some, None, Ok, false, refl, sym, ◌∙◌, ap, arith}, lemmas.Bool.false≢true}
use mathlib.Core.HLevel.{is_prop→PathP}
use native.Mathlib.Bridge.{le_prop}
use Rattle.std.specs.Option.{option_map}
use Rattle.locale_names.specs.{declared.{tables.units.TheConstants.UNITS, unit_id.{Unit.Unit, UnitId.UnitId}}, Units.{Indices, indices_of, is_sanctioned, named}}
use Rattle.fixed_decimal_c.specs.Units.{HasNumbers, NamesUnit, per_number}

same_id : (a b : UnitId) → a.index ≡ b.index → a ≡ b
same_id a b same = λ i. record {
  index = same i;
  listed = is_prop→PathP (λ j. same j < length UNITS) (λ j. le_prop) a.listed b.listed i;
}

same_per : (a b : Option UnitId) → per_number a ≡ per_number b → a ≡ b
same_per None None same = refl
same_per None (Some b) same = absurd (omega (arith, same))
same_per (Some a) None same = absurd (omega (arith, same))
same_per (Some a) (Some b) same =
    let index : a.index ≡ b.index = omega (arith, same) in
    ap (λ id. Some id) (same_id a b index)

-- two units with these numbers are one
pub same_unit : (first second : ℕ) (a b : Unit) → HasNumbers first second a → HasNumbers first second b → a ≡ b
same_unit first second a b is js =
    let one = is.unit_is in
    let other = js.unit_is in
    let index : a.unit.index ≡ b.unit.index = omega (arith, one, other) in
    let unit = same_id a.unit b.unit index in
    let per = same_per a.per b.per (sym is.per_is ∙ js.per_is) in
    λ i. record { unit = unit i; per = per i }

same_name : (a b : Option UnitId) → (indices : Option ℕ) → option_map (λ (id : UnitId). id.index) a ≡ indices
    → option_map (λ (id : UnitId). id.index) b ≡ indices → a ≡ b
same_name None None indices is js = refl
same_name None (Some b) indices is js = cc
same_name (Some a) None indices is js = cc
same_name (Some a) (Some b) indices is js =
    let index : a.index ≡ b.index = cc in
    ap (λ id. Some id) (same_id a b index)

-- a text that names a unit that ECMA-402 does not have names none that it has
pub not_sanctioned : (text : List ℕ) (a : Unit) → Ok (indices_of a) ≡ named text → is_sanctioned a ≡ false
    → (b : Unit) → NamesUnit text b → ⊥
not_sanctioned text a is wrong b names =
    let found = names.name in
    let indices : indices_of a ≡ indices_of b = cc in
    let unit = same_id a.unit b.unit (ap (λ (p : Indices). p.0) indices) in
    let per = same_name a.per b.per (indices_of b).1 (ap (λ (p : Indices). p.1) indices) refl in
    let same : a ≡ b = λ i. record { unit = unit i; per = per i } in
    false≢true (sym wrong ∙ ap is_sanctioned same ∙ names.sanctioned)
