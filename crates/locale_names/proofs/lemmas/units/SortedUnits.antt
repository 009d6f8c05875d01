-- A binary search of sorted units finds the unit with an identifier.
use Rattle.std.proofs.{Common.{◌≡◌, ℕ, zero, suc, ◌+◌, ◌<◌, ◌≤◌, Bool, true, false, cond, List, [], ◌∷◌, length, get_or, nat_lt, Some, None, Result, Ok, Err, refl, ap, sym, subst, ◌∙◌, inl, inr, MatchResult, bytes_eq, arith}, lemmas.{Bool.{cases_lt, and_parts, Decides.nat_tests}, Cmp.nat_list_cmp_total, Iterator.Adapters.position_from-zero, List.{Sorted.{ranks_by, sorted_far, searchable_from_sorted}, Sums.position_or_len_is}, Map.Text.is_eq-slice_cmp, Slice.Eq.bytes_eq-Decides}}
use Rattle.std.specs.{Cmp.Lexicographic.slice_cmp, List.{position_from, Sorted.{IsSearchInRange, IsBinarySearchResult, IsSortedBy}}, Ordering.{is_eq, is_lt, nat_cmp}}
use Rattle.locale_names.specs.{declared.tables.rows.units.UnitRow.UnitRow, Texts.short_bytes, Units.{are_sorted, index_in}}

abbrev name_of : UnitRow → List ℕ
name_of unit = short_bytes unit.name

abbrev is_less : UnitRow → UnitRow → Bool
is_less a b = is_lt (slice_cmp nat_cmp (name_of a) (name_of b))

-- some unit, which is at each index past the end
past : UnitRow
past = record {
  name = record { start = 0; len = 0 };
  unit_type = record { start = 0; len = 0 };
  is_sanctioned = false;
  is_compound = false;
}

less_than_suc : (units : List UnitRow) → are_sorted units ≡ true → (k : ℕ) (d : UnitRow) → k + 1 < length units
    → is_less (get_or units k d) (get_or units (suc k) d) ≡ true
less_than_suc [] h k d inside = absurd (omega arith)
less_than_suc (u ∷ []) h k d inside = absurd (omega arith)
less_than_suc (u ∷ v ∷ units) h zero d inside = (and_parts _ _ h).0
less_than_suc (u ∷ v ∷ units) h (suc k) d inside = less_than_suc (v ∷ units) (and_parts _ _ h).1 k d (omega arith)

less_than_next : (units : List UnitRow) → are_sorted units ≡ true → (k : ℕ) (d : UnitRow) → k + 1 < length units
    → is_less (get_or units k d) (get_or units (k + 1) d) ≡ true
less_than_next units h k d inside =
    subst (λ (n : ℕ). is_less (get_or units k d) (get_or units n d) ≡ true) {x = suc k} {y = k + 1} (omega arith)
    (less_than_suc units h k d inside)

-- the first index that passes a test
position_is : {X : Type 0} (p : X → Bool) (xs : List X) (i : ℕ) (d : X) → i ≤ length xs
    → ((k : ℕ) → k < i → p (get_or xs k d) ≡ false) → (i < length xs → p (get_or xs i d) ≡ true)
    → position_from p 0 xs ≡ cond (nat_lt i (length xs)) (Some i) None
position_is p xs i d le before here =
    let at = position_or_len_is p xs i d le before here in
    sym (position_from-zero p xs) ∙ ap (λ (n : ℕ). cond (nat_lt n (length xs)) (Some n) None) at

module _ (units : List UnitRow) (sorted : are_sorted units ≡ true) (name : List ℕ) where
  in_order : IsSortedBy is_less units
  in_order k d low inside =
      (ranks_by nat_list_cmp_total name_of).one_way (get_or units k d) (get_or units (k + 1) d)
      (less_than_next units sorted k d inside)

  abbrev has_name : UnitRow → Bool
  has_name unit = bytes_eq (name_of unit) name

  -- a unit before the one with the name has another name
  none_before : (i k : ℕ) → k < i → i < length units → has_name (get_or units i past) ≡ true
      → has_name (get_or units k past) ≡ false
  none_before i k lt inside here = by (has_name (get_or units k past)) refl
    where
      by : (b : Bool) → has_name (get_or units k past) ≡ b → b ≡ false
      by false e = refl
      by true e =
          let first = (bytes_eq-Decides (name_of (get_or units k past)) name).0 e in
          let second = (bytes_eq-Decides (name_of (get_or units i past)) name).0 here in
          let next = name_of (get_or units (k + 1) past) in
          let less : is_lt (slice_cmp nat_cmp (name_of (get_or units k past)) next) ≡ true =
          less_than_next units sorted k past (omega arith) in
          let not_less : is_lt (slice_cmp nat_cmp (name_of (get_or units i past)) next) ≡ false =
          sorted_far is_less (ranks_by nat_list_cmp_total name_of) units in_order (k + 1) i past (omega arith) inside in
          sym less ∙ ap (λ n. is_lt (slice_cmp nat_cmp n next)) (first ∙ sym second) ∙ not_less

  -- what a binary search for a name finds
  pub searched : (r : Result ℕ ℕ) → IsSearchInRange r (length units)
      → IsBinarySearchResult (λ unit. slice_cmp nat_cmp (name_of unit) name) units r
      → MatchResult r (λ i. index_in units name ≡ Some i) (λ _. index_in units name ≡ None)
  searched (Ok i) inside equal =
      let here = sym (is_eq-slice_cmp (name_of (get_or units i past)) name) ∙ ap is_eq (equal past) in
      let at = position_is has_name units i past (omega arith) (λ k lt. none_before i k lt inside here) (λ _. here) in
      at ∙ grind (arith, nat_tests)
  searched (Err i) inside parted =
      let up = searchable_from_sorted nat_list_cmp_total name_of units name in_order in
      let at = position_is has_name units (length units) past (omega arith)
      (λ k lt. elim (cases_lt k i) [
        | inl less ↦ sym (is_eq-slice_cmp (name_of (get_or units k past)) name)
            ∙ ap is_eq ((parted up).0 k past (omega arith) less)
        | inr le ↦ sym (is_eq-slice_cmp (name_of (get_or units k past)) name)
            ∙ ap is_eq ((parted up).1 k past le lt)
      ]) (λ lt. absurd (omega arith)) in
      at ∙ grind (arith, nat_tests)
