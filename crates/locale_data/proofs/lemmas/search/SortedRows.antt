-- A binary search of sorted rows finds the row with a name.
use Rattle.std.proofs.{Common.{◌≡◌, ◌≢◌, ℕ, zero, suc, ◌<◌, ◌≤◌, Bool, true, false, cond, List, [], ◌∷◌, length, map, get_or, slice_get, nat_lt, Some, None, Result, Ok, Err, refl, ap, sym, ◌∙◌, ◌⊎◌, inl, inr, MatchResult, bytes_eq, arith}, lemmas.{Bool.{cases_lt, and_parts, Decides.nat_tests}, Cmp.ranked, List.{get_or-map, length-map, Folds.find_at, Sorted.IsNonDecreasingBy-from_default, Sums.{AllPass-from_list_all, position_or_len_is}}, Option.{slice_get-get_or, slice_get_past}, Slice.Eq.bytes_eq-Decides}}
use Rattle.std.specs.{Bool.then_some, Borrow.Bor, Option.option_copied, Int.{from_be_bytes, w128}, List.{list_all, find, Contains, Sorted.{IsSearchInRange, IsBinarySearchResult, IsNonDecreasingBy}}, Ordering.{nat_cmp, ordering_index}}
use Rattle.locale_data.specs.{Rows.{unpadded, row_named}, SortedRows.{key, increases, is_padded, is_table}}

-- ---- Numbers that increase.

less_than_rest : (m : ℕ) (ns : List ℕ) → increases (m ∷ ns) ≡ true → (j : ℕ) → j < length ns → m < get_or ns j 0
less_than_rest m [] h j inside = absurd (omega arith)
less_than_rest m (n ∷ rest) h zero inside =
    let parts = and_parts (nat_lt m n) (increases (n ∷ rest)) h in
    grind (arith, nat_tests, parts.0)
less_than_rest m (n ∷ rest) h (suc j) inside =
    let parts = and_parts (nat_lt m n) (increases (n ∷ rest)) h in
    let later = less_than_rest n rest parts.1 j (omega arith) in
    let first : m < n = grind (arith, nat_tests, parts.0) in
    omega arith

increases_tail : (m : ℕ) (ns : List ℕ) → increases (m ∷ ns) ≡ true → increases ns ≡ true
increases_tail m [] h = refl
increases_tail m (n ∷ rest) h = (and_parts (nat_lt m n) (increases (n ∷ rest)) h).1

increases-lt : (ns : List ℕ) → increases ns ≡ true → (i j : ℕ) → i < j → j < length ns → get_or ns i 0 < get_or ns j 0
increases-lt [] h i j lt inside = absurd (omega arith)
increases-lt (m ∷ ns) h i zero lt inside = absurd (omega arith)
increases-lt (m ∷ ns) h zero (suc j) lt inside = less_than_rest m ns h j (omega arith)
increases-lt (m ∷ ns) h (suc i) (suc j) lt inside =
    increases-lt ns (increases_tail m ns h) i j (omega arith) (omega arith)

pub option_copied-then_some :
    {X : Type 0} (b : Bool) (r : Bor X) → option_copied (then_some b r) ≡ cond b (Some r.now) None
option_copied-then_some true r = refl
option_copied-then_some false r = refl

-- ---- The first element that passes a test.

pub find_none : {X : Type 0} (p : X → Bool) (xs : List X) (d : X)
    → ((j : ℕ) → j < length xs → p (get_or xs j d) ≡ false) → find p xs ≡ None
find_none p xs d none =
    let at = position_or_len_is p xs (length xs) d (omega arith) none (λ lt. absurd (omega arith)) in
    find_at p xs ∙ (ap (slice_get xs) at ∙ slice_get_past xs (length xs) (omega arith))

pub find_some : {X : Type 0} (p : X → Bool) (xs : List X) (x : X) → find p xs ≡ Some x → Contains xs x × (p x ≡ true)
find_some p [] x found = cc
find_some p (y ∷ ys) x found = here (p y) refl (find_some p ys x) found
  where
    here : (b : Bool) → p y ≡ b → (find p ys ≡ Some x → Contains ys x × (p x ≡ true))
        → cond b (Some y) (find p ys) ≡ Some x → Contains (y ∷ ys) x × (p x ≡ true)
    here true passes later e = let same : y ≡ x = cc in ((0, omega arith, same), ap p (sym same) ∙ passes)
    here false fails later e =
        let rest = later e in
        ((suc rest.0.0, omega (arith, rest.0.1), rest.0.2), rest.1)

pub find_none_is : {X : Type 0} (p : X → Bool) (xs : List X) → find p xs ≡ None → (x : X) → Contains xs x → p x ≡ false
find_none_is p [] none x listed = absurd (omega (arith, listed.1))
find_none_is p (y ∷ ys) none x listed = here (p y) refl (λ e. find_none_is p ys e x) none listed.0 listed.1 listed.2
  where
    here : (b : Bool) → p y ≡ b → (find p ys ≡ None → Contains ys x → p x ≡ false) → cond b (Some y) (find p ys) ≡ None
        → (k : ℕ) → k < length (y ∷ ys) → get_or (y ∷ ys) k x ≡ x → p x ≡ false
    here true passes later e k inside is = cc
    here false fails later e zero inside is = ap p (sym is) ∙ fails
    here false fails later e (suc k) inside is = later e (k, omega arith, is)

-- where only the element at an index may pass, it is found if it does
find_alone : {X : Type 0} (p : X → Bool) (xs : List X) (i : ℕ) (d : X) → i < length xs
    → ((j : ℕ) → j < length xs → j ≢ i → p (get_or xs j d) ≡ false)
    → find p xs ≡ cond (p (get_or xs i d)) (Some (get_or xs i d)) None
find_alone p xs i d inside others = by (p (get_or xs i d)) refl
  where
    by : (b : Bool) → p (get_or xs i d) ≡ b → find p xs ≡ cond b (Some (get_or xs i d)) None
    by true passes =
        let before = λ (k : ℕ) (lt : k < i). others k (omega arith) (λ e. absurd (omega arith)) in
        let at = position_or_len_is p xs i d (omega arith) before (λ _. passes) in
        find_at p xs ∙ (ap (slice_get xs) at ∙ slice_get-get_or xs i d inside)
    by false fails = find_none p xs d (λ j in_range. each j in_range (cases_lt j i) (cases_lt i j))
      where
        each : (j : ℕ) → j < length xs → (j < i) ⊎ (i ≤ j) → (i < j) ⊎ (j ≤ i) → p (get_or xs j d) ≡ false
        each j in_range (inl lt) other = others j in_range (λ e. absurd (omega arith))
        each j in_range (inr le) (inl lt) = others j in_range (λ e. absurd (omega arith))
        each j in_range (inr le) (inr ge) = let same : j ≡ i = omega arith in ap (λ n. p (get_or xs n d)) same ∙ fails

-- ---- The rows of a table.

module _ {R : Type 0} (name_of : R → List ℕ) (rows : List R) (table : is_table name_of rows ≡ true) where
  abbrev key_at : R → ℕ
  key_at row = from_be_bytes w128 (name_of row)

  parts : (list_all (λ row. is_padded (name_of row)) rows ≡ true) × (increases (map key_at rows) ≡ true)
  parts = and_parts _ _ table

  pub keys_increase : (i j : ℕ) (d : R) → i < j → j < length rows
      → key_at (get_or rows i d) < key_at (get_or rows j d)
  keys_increase i j d lt inside =
      let all = increases-lt (map key_at rows) parts.1 i j lt (omega (arith, length-map rows key_at)) in
      let at_i = get_or-map key_at rows i d 0 (omega arith) in
      let at_j = get_or-map key_at rows j d 0 inside in
      omega arith

  -- a row with a name has its key
  pub key_of_named : (name : List ℕ) (j : ℕ) (d : R) → j < length rows
      → bytes_eq (unpadded (name_of (get_or rows j d))) name ≡ true → key_at (get_or rows j d) ≡ key name
  key_of_named name j d inside same =
      let padded = AllPass-from_list_all (λ row. is_padded (name_of row)) rows parts.0 j d inside in
      let is_key : key_at (get_or rows j d) ≡ key (unpadded (name_of (get_or rows j d))) =
      grind (arith, nat_tests, padded) in
      is_key ∙ ap key ((bytes_eq-Decides _ name).0 same)

  -- the name of a row that a binary search finds has the key
  pub key_of_found : (k i : ℕ) (row : R) → i < length rows → row ≡ get_or rows i row
      → IsBinarySearchResult (λ row. nat_cmp (key_at row) k) rows (Ok i) → key (unpadded (name_of row)) ≡ k
  key_of_found k i row inside is equal =
      let here : key_at (get_or rows i row) ≡ k = ranked _ k _ (sym (equal row)) in
      let padded = AllPass-from_list_all (λ row. is_padded (name_of row)) rows parts.0 i row inside in
      let is_key : key_at (get_or rows i row) ≡ key (unpadded (name_of (get_or rows i row))) =
      grind (arith, nat_tests, padded) in
      ap (λ r. key (unpadded (name_of r))) is ∙ (sym is_key ∙ here)

  -- the comparisons with a key rise
  pub comparisons_rise : (k : ℕ) (d : R) → IsNonDecreasingBy (λ row. ordering_index (nat_cmp (key_at row) k)) rows
  comparisons_rise k d =
      IsNonDecreasingBy-from_default (λ row. ordering_index (nat_cmp (key_at row) k)) rows d (λ i j le inside.
      let equal = λ (same : i ≡ j). ap (λ n. key_at (get_or rows n d)) same in
      let rise : key_at (get_or rows i d) ≤ key_at (get_or rows j d) =
      grind (arith, keys_increase i j d, equal) in
      grind (arith, nat_tests))

  module _ (name : List ℕ) where
    abbrev pub has_name : R → Bool
    has_name row = bytes_eq (unpadded (name_of row)) name

    -- a row with another key has another name
    other_name : (j : ℕ) (d : R) → j < length rows → key_at (get_or rows j d) ≢ key name
        → has_name (get_or rows j d) ≡ false
    other_name j d inside differs = by (has_name (get_or rows j d)) refl
      where
        by : (b : Bool) → has_name (get_or rows j d) ≡ b → b ≡ false
        by true e = absurd (differs (key_of_named name j d inside e))
        by false e = refl

    found_at : (i : ℕ) (d : R) → i < length rows → key_at (get_or rows i d) ≡ key name
        → row_named name_of rows name ≡ cond (has_name (get_or rows i d)) (Some (get_or rows i d)) None
    found_at i d inside here =
        find_alone has_name rows i d inside (λ j in_range differs. other_name j d in_range (λ e.
        by j in_range differs (e ∙ sym here) (cases_lt j i) (cases_lt i j)))
      where
        by : (j : ℕ) → j < length rows → j ≢ i → key_at (get_or rows j d) ≡ key_at (get_or rows i d)
            → (j < i) ⊎ (i ≤ j) → (i < j) ⊎ (j ≤ i) → ⊥
        by j in_range differs same (inl lt) other = omega (arith, keys_increase j i d lt inside)
        by j in_range differs same (inr le) (inl lt) = omega (arith, keys_increase i j d lt in_range)
        by j in_range differs same (inr le) (inr ge) = differs (omega arith)

    not_found : (k i : ℕ) (d : R) → k ≡ key name → i ≤ length rows
        → IsBinarySearchResult (λ row. nat_cmp (key_at row) k) rows (Err i) → row_named name_of rows name ≡ None
    not_found k i d e inside parted =
        let rise = comparisons_rise k d in
        find_none has_name rows d (λ j in_range. other_name j d in_range (λ same. elim (cases_lt j i) [
          | inl lt ↦ let less = ranked _ k _ (sym ((parted rise).0 j d (omega arith) lt)) in omega arith
          | inr le ↦ let greater = ranked _ k _ (sym ((parted rise).1 j d le in_range)) in omega arith
        ]))

    some_row : (xs : List R) → (xs ≡ []) ⊎ R
    some_row [] = inl refl
    some_row (x ∷ xs) = inr x

    -- what a binary search for the key of a name finds
    pub searched : (k : ℕ) → k ≡ key name → (r : Result ℕ ℕ) → IsSearchInRange r (length rows)
        → IsBinarySearchResult (λ row. nat_cmp (key_at row) k) rows r
        → MatchResult r
        (λ i. (row : R) → row ≡ get_or rows i row → row_named name_of rows name ≡ cond (has_name row) (Some row) None)
        (λ _. row_named name_of rows name ≡ None)
    searched k e (Ok i) inside equal = λ row is.
        let found = found_at i row inside (ranked _ k _ (sym (equal row)) ∙ e) in
        found ∙ ap (λ r. cond (has_name r) (Some r) None) (sym is)
    searched k e (Err i) inside parted =
        elim (some_row rows) [ inl none ↦ ap (find has_name) none | inr d ↦ not_found k i d e inside parted ]
