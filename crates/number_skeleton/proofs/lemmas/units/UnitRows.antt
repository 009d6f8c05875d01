-- The units of the table from an index on, one after another.
use Rattle.std.proofs.{Common.{◌≡◌, ℕ, ◌+◌, ◌<◌, ◌≤◌, true, false, cond, List, [], ◌∷◌, length, drop, Some, None, slice_get, refl, ap, sym, ◌∙◌, inl, inr, arith}, lemmas.{List.{at_drop_more, at_drop_all}, Option.slice_get_cases}}
use Rattle.std.specs.Option.{option_map_or}
use Rattle.locale_names.specs.declared.tables.{rows.units.UnitRow.UnitRow, units.TheConstants.UNITS}
use Rattle.number_skeleton.specs.{Identifiers.{longer, longest_name}, Units.{name_of, name_at, is_joined, index_joined}}

-- a function of the units from an index on
at_row : {Y : Type 0} (F : List UnitRow → Y) (units : List UnitRow) (i : ℕ) → i < length units
    → (row : UnitRow) × (slice_get units i ≡ Some row) × (F (drop i units) ≡ F (row ∷ drop (i + 1) units))
at_row F units i inside = elim ((slice_get_cases units i).1) [
  | inl at ↦ (at.0, at.2, at_drop_more F units i at.0 inside ∙ ap (λ r. F (r ∷ drop (i + 1) units)) at.3)
  | inr past ↦ absurd (omega (arith, past.0))
]

name_is : (i : ℕ) (row : UnitRow) → slice_get UNITS i ≡ Some row → name_at i ≡ name_of row
unfolding name_at
name_is i row at = ap (λ o. option_map_or name_of o []) at

-- ---- The longest name.
pub longest_next : (text : List ℕ) (n i : ℕ) → i < length UNITS
    → longest_name text n (drop i UNITS) ≡ longest_name text (longer text n (name_at i)) (drop (i + 1) UNITS)
unfolding longest_name
longest_next text n i inside =
    let found = at_row (longest_name text n) UNITS i inside in
    found.2
    ∙ ap (λ name. longest_name text (longer text n name) (drop (i + 1) UNITS)) (sym (name_is i found.0 found.1))

pub longest_end : (text : List ℕ) (n i : ℕ) → length UNITS ≤ i → longest_name text n (drop i UNITS) ≡ n
unfolding longest_name
longest_end text n i past = at_drop_all (longest_name text n) UNITS i past

-- ---- Two units that are one.
module _ (first second : List ℕ) (i : ℕ) where
  joined_at : i < length UNITS
      → index_joined first second (drop i UNITS) i
      ≡ cond (is_joined first second (name_at i)) (Some i) (index_joined first second (drop (i + 1) UNITS) (i + 1))
  unfolding index_joined
  joined_at inside =
      let found = at_row (λ units. index_joined first second units i) UNITS i inside in
      found.2
      ∙ ap (λ name. cond (is_joined first second name) (Some i)
      (index_joined first second (drop (i + 1) UNITS) (i + 1))) (sym (name_is i found.0 found.1))

  pub joined_next : i < length UNITS → is_joined first second (name_at i) ≡ false
      → index_joined first second (drop i UNITS) i ≡ index_joined first second (drop (i + 1) UNITS) (i + 1)
  joined_next inside other =
      joined_at inside
      ∙ ap (λ b. cond b (Some i) (index_joined first second (drop (i + 1) UNITS) (i + 1))) other

  pub joined_here : i < length UNITS → is_joined first second (name_at i) ≡ true
      → index_joined first second (drop i UNITS) i ≡ Some i
  joined_here inside same =
      joined_at inside
      ∙ ap (λ b. cond b (Some i) (index_joined first second (drop (i + 1) UNITS) (i + 1))) same

  pub joined_end : length UNITS ≤ i → index_joined first second (drop i UNITS) i ≡ None
  unfolding index_joined
  joined_end past = at_drop_all (λ units. index_joined first second units i) UNITS i past

pub units_are : length UNITS ≡ 230
units_are = refl
