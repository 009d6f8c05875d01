-- What a binary search for a part of a tag says of the row that it names, and of longer parts.
use Rattle.std.proofs.{Common.{◌≡◌, ◌≢◌, ℕ, ◌+◌, ◌-◌, ◌*◌, ◌%◌, ◌^◌, ◌<◌, ◌≤◌, nat_lt, Bool, true, false, cond, ◌⊎◌, List, length, take, get_or, Option, Some, None, Ok, Err, refl, ap, sym, ◌∙◌, subst, inl, inr, arith}, lemmas.{Bool.{cases_lt, Decides.nat_tests}, Cmp.ranked, Nat.{one_shl, pow_pos}, Option.{slice_get-get_or, slice_get_cases}, Slice.Eq.bytes_eq-Decides}}
use Rattle.std.specs.{Prelude.{IfSome, ◌==◌}, Str.bytes_eq, Bool.then_some, Int.{from_be_bytes, w128}, List.Sorted.IsBinarySearchResult, Option.option_or, Ordering.nat_cmp}
use Rattle.locale_data.specs.{Tag.{tag_byte, compared}, Rows.{unpadded, row_at, row_named, is_candidate}, SortedRows.{key, padded_byte, is_table, ends_at, IsFar, HasNoLonger}}
use Rattle.locale_data.proofs.lemmas.search.{LongestRow.{prefix_is, IsLongestBelow, searched_below}, PrefixKeys.{part_below, part_near, same_text}, SortedRows.{keys_increase, key_of_named, comparisons_rise}}

-- the row at the index that is found
pub row_at-then_some : {R : Type 0} (rows : List R) (b : Bool) (i : ℕ) (d : R) → i < length rows
    → row_at rows (then_some b i) ≡ cond b (Some (get_or rows i d)) None
row_at-then_some rows true i d inside = slice_get-get_or rows i d inside
row_at-then_some rows false i d inside = refl

pub row_at-or : {R : Type 0} (rows : List R) (a b : Option ℕ) → IfSome a (λ i. i < length rows)
    → row_at rows (option_or a b) ≡ option_or (row_at rows a) (row_at rows b)
row_at-or rows None b inside = refl
row_at-or rows (Some i) b inside = elim ((slice_get_cases rows i).1) [
  | inl at ↦ at.2 ∙ ap (λ o. option_or o (row_at rows b)) (sym at.2)
  | inr past ↦ absurd (omega (arith, past.0))
]

pub inside-then_some : (b : Bool) (i n : ℕ) → i < n → IfSome (then_some b i) (λ k. k < n)
inside-then_some true i n h = h
inside-then_some false i n h = tt

pub inside-or : (a b : Option ℕ) (n : ℕ) → IfSome a (λ k. k < n) → IfSome b (λ k. k < n)
    → IfSome (option_or a b) (λ k. k < n)
inside-or None b n p q = q
inside-or (Some i) b n p q = p

-- a text with the key of a name is the name if both have one length
pub named_by_length : (u name : List ℕ) (n : ℕ) → n ≡ length name → ((j : ℕ) → padded_byte u j < 256)
    → ((j : ℕ) → padded_byte name j < 256) → length u ≤ 16 → key u ≡ key name → (length u == n) ≡ bytes_eq u name
named_by_length u name n long u_bytes name_bytes short e = by (length u == n) refl (bytes_eq u name) refl
  where
    by : (a : Bool) → (length u == n) ≡ a → (b : Bool) → bytes_eq u name ≡ b → a ≡ b
    by true f true h = refl
    by false f false h = refl
    by true f false h =
        let same : length u ≡ length name = grind (arith, nat_tests, f) in
        let equal = (bytes_eq-Decides u name).1 (same_text u name u_bytes name_bytes same short e) in
        cc
    by false f true h =
        let same = ap length ((bytes_eq-Decides u name).0 h) in
        grind (arith, nat_tests)

-- a row that is far from a key
pub far_from : (n m end : ℕ) → end ≢ 0 → end < 16 → nat_lt (m - n) (1 * 2 ^ (8 * (16 - end)) % 2 ^ 128) ≡ false
    → n + 2 ^ (8 * (16 - end)) ≤ m
far_from n m end some short far =
    let k = 8 * (16 - end) in
    let low : k < 128 = omega arith in
    let test = subst (λ d. nat_lt (m - n) d ≡ false) (one_shl k 128 low) far in
    let distant : 2 ^ k ≤ m - n = grind (arith, nat_tests) in
    omega (arith, pow_pos k)

hyphen_at : (tag : List ℕ) (end long : ℕ) → end < long → long ≤ length tag → ends_at tag end ≡ true
    → tag_byte (get_or tag end 0) ≡ 45
hyphen_at tag end long longer inside ends = grind (arith, nat_tests)

-- one part more
pub more_found : {R : Type 0} (name_of : R → List ℕ) (rows : List R) (tag : List ℕ) (end : ℕ) (part found : Option ℕ)
    → end ≤ length tag → ends_at tag end ≡ true
    → row_at rows part ≡ row_named name_of rows (compared (take end tag)) → IfSome part (λ i. i < length rows)
    → IsLongestBelow name_of rows tag end (row_at rows found)
    → IsLongestBelow name_of rows tag (end + 1) (row_at rows (option_or part found))
more_found name_of rows tag end part found within ends named inside h =
    subst (IsLongestBelow name_of rows tag (end + 1))
    (sym (row_at-or rows part found inside ∙ ap (λ o. option_or o (row_at rows found)) named))
    (searched_below name_of rows tag end within (row_at rows found) ends h)

module _ {R : Type 0} (name_of : R → List ℕ) (rows : List R) (table : is_table name_of rows ≡ true) where
  abbrev key_at : R → ℕ
  key_at row = from_be_bytes w128 (name_of row)

  -- the rows before an index have at most a key
  abbrev pub AreAtMost : ℕ → ℕ → Type 0
  AreAtMost k index = (j : ℕ) (d : R) → j < length rows → j < index → key_at (get_or rows j d) ≤ k

  pub at_most_ok : (k i : ℕ) → i < length rows → IsBinarySearchResult (λ row. nat_cmp (key_at row) k) rows (Ok i)
      → AreAtMost k (i + 1)
  at_most_ok k i inside equal = λ j d in_range before.
      let here = ranked _ k _ (sym (equal d)) in
      elim (cases_lt j i) [
        | inl lt ↦ omega (arith, keys_increase name_of rows table j i d lt inside)
        | inr ge ↦
            let same : j ≡ i = omega arith in
            omega (arith, ap (λ n. key_at (get_or rows n d)) same)
      ]

  pub at_most_err : (k i : ℕ) → i ≤ length rows
      → IsBinarySearchResult (λ row. nat_cmp (key_at row) k) rows (Err i) → AreAtMost k i
  at_most_err k i inside parted = λ j d in_range before.
      let less = ranked _ k _ (sym ((parted (comparisons_rise name_of rows table k d)).0 j d (omega arith) before)) in
      omega arith

  -- a far row after a part: no name that begins with the part is longer
  pub none_longer : (tag : List ℕ) → ((j : ℕ) → get_or tag j 0 < 256) → (end index n : ℕ) → end ≤ length tag
      → ends_at tag end ≡ true → n ≡ key (compared (take end tag)) → AreAtMost n index
      → IsFar name_of rows index n end → HasNoLonger name_of rows tag end
  none_longer tag bytes end index n inside ends e at_most is_far = λ k d in_range is.
      by k d in_range is (cases_lt end (size (get_or rows k d))) (cases_lt k index)
    where
      before : AreAtMost (key (compared (take end tag))) index
      before = subst (λ m. AreAtMost m index) e at_most

      far : IsFar name_of rows index (key (compared (take end tag))) end
      far = subst (λ m. IsFar name_of rows index m end) e is_far

      size : R → ℕ
      size row = length (unpadded (name_of row))

      nowhere : (k : ℕ) (d : R) → k < length rows → (k < index) ⊎ (index ≤ k) → (n m p : ℕ)
          → key_at (get_or rows k d) ≡ m → n < m → m < n + p → (k < index → key_at (get_or rows k d) ≤ n)
          → ((row : R) → index < length rows → n + p ≤ key_at (get_or rows index row)) → ⊥
      nowhere k d in_range (inl lt) n m p is below near before far = omega (arith, before lt)
      nowhere k d in_range (inr ge) n m p is below near before far = by_order (cases_lt index k)
        where
          by_order : (index < k) ⊎ (k ≤ index) → ⊥
          by_order (inl lt) =
              omega (arith, far d (omega arith), keys_increase name_of rows table index k d lt in_range)
          by_order (inr le) =
              let same : index ≡ k = omega arith in
              omega (arith, far d (omega arith), ap (λ n. key_at (get_or rows n d)) same)

      by : (k : ℕ) (d : R) → k < length rows → is_candidate name_of tag (get_or rows k d) ≡ true
          → (end < size (get_or rows k d)) ⊎ (size (get_or rows k d) ≤ end) → (k < index) ⊎ (index ≤ k)
          → size (get_or rows k d) ≤ end
      by k d in_range is (inr fits) place = fits
      by k d in_range is (inl longer) place =
          let row = get_or rows k d in
          let long = length (unpadded (name_of row)) in
          let prefix = prefix_is (unpadded (name_of row)) tag is in
          let is_key =
          key_of_named name_of rows table (compared (take long tag)) k d in_range
          ((bytes_eq-Decides (unpadded (name_of row)) (compared (take long tag))).1 prefix.bytes) in
          let below = part_below tag bytes end long longer prefix.inside far.0
          (hyphen_at tag end long longer prefix.inside ends) in
          let near = part_near tag bytes end long longer prefix.inside far.0 in
          absurd (nowhere k d in_range place (key (compared (take end tag))) (key (compared (take long tag)))
          (2 ^ (8 * (16 - end))) is_key below near (before k d in_range) far.1)
