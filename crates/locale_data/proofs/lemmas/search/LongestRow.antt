-- The row with the longest name that is a prefix of a tag, one prefix more at a time.
use Rattle.std.proofs.{Common.{◌≡◌, ◌≢◌, ℕ, ◌+◌, ◌<◌, ◌≤◌, ◌&&◌, nat_eq, Bool, true, false, List, ◌++◌, length, take, drop, get_or, Option, Some, None, refl, ap, sym, ◌∙◌, bytes_eq, arith, length-append}, lemmas.{Bool.{and_parts, Decides.Decides-eqb}, List.{Elements.Contains-get_or, take-map, take-append-drop, length-map, length-take-le}, Slice.Eq.{bytes_eq-Decides, starts_is}}, Math.Seq.take-append_seam}
use Rattle.std.specs.{List.{find, All, Contains, starts_with}, Option.option_or}
use Rattle.locale_data.specs.{Tag.{tag_byte, compared, is_tag_prefix}, Rows.{unpadded, row_named, is_candidate, IsRowOf}, SortedRows.{ends_at, HasNoLonger}}
use Rattle.locale_data.proofs.lemmas.search.{SortedRows.{find_some, find_none_is}, Tags.hyphen}

and_true : (a b : Bool) → a ≡ true → b ≡ true → a && b ≡ true
and_true a b p q = cc

-- ---- Prefixes of a tag.

starts : (part whole : List ℕ) → starts_with nat_eq whole part ≡ true → whole ≡ part ++ drop (length part) whole
starts part whole h = (starts_is Decides-eqb whole part (starts_with nat_eq whole part) refl).0 h

pub record IsPrefix (part tag : List ℕ) : Type 0 where
  pub bytes : part ≡ compared (take (length part) tag)
  pub inside : length part ≤ length tag
  pub ends : ends_at tag (length part) ≡ true

pub prefix_is : (part tag : List ℕ) → is_tag_prefix part tag ≡ true → IsPrefix part tag
prefix_is part tag h =
    let both = sym (hyphen part tag) ∙ h in
    let two = and_parts (starts_with nat_eq (compared tag) part) (ends_at tag (length part)) both in
    let whole = starts part (compared tag) two.0 in
    record {
      bytes = sym (ap (take (length part)) whole ∙ take-append_seam part _) ∙ take-map tag_byte (length part) tag;
      inside =
          omega (
            arith,
            length-append part (drop (length part) (compared tag)),
            ap length whole,
            length-map tag tag_byte,
          );
      ends = two.1;
    }

pub prefix_from : (part tag : List ℕ) (end : ℕ) → part ≡ compared (take end tag) → end ≤ length tag
    → ends_at tag end ≡ true → is_tag_prefix part tag ≡ true
prefix_from part tag end bytes inside ends =
    let cut : part ≡ take end (compared tag) = bytes ∙ sym (take-map tag_byte end tag) in
    let whole = sym (take-append-drop end (compared tag)) ∙ ap (λ t. t ++ drop end (compared tag)) (sym cut) in
    let starts = (starts_is Decides-eqb (compared tag) part (starts_with nat_eq (compared tag) part) refl).1 _ whole in
    let within : end ≤ length (compared tag) = omega (arith, length-map tag tag_byte) in
    let long : length part ≡ end = ap length cut ∙ length-take-le end (compared tag) within in
    hyphen part tag ∙ and_true _ _ starts (ap (ends_at tag) long ∙ ends)

-- ---- The longest below a length.

module _ {R : Type 0} (name_of : R → List ℕ) (rows : List R) (tag : List ℕ) where
  abbrev size : R → ℕ
  size row = length (unpadded (name_of row))

  abbrev IsCandidate : R → Type 0
  IsCandidate row = is_candidate name_of tag row ≡ true

  -- no candidate has a name of fewer bytes, or this row is one, and none has a longer name of fewer bytes
  abbrev pub IsLongestBelow : ℕ → Option R → Type 0
  IsLongestBelow n None = All (λ row. IsCandidate row → n ≤ size row) rows
  IsLongestBelow n (Some best) =
      Contains rows best × IsCandidate best × All (λ row. IsCandidate row → size row < n → size row ≤ size best) rows

  pub none_below_0 : IsLongestBelow 0 None
  none_below_0 = λ k d inside is. omega arith

  -- the row that a part of the tag names is a candidate
  named_is : (end : ℕ) (row : R) → end ≤ length tag → ends_at tag end ≡ true
      → find (λ r. bytes_eq (unpadded (name_of r)) (compared (take end tag))) rows ≡ Some row
      → Contains rows row × IsCandidate row × (size row ≡ end)
  named_is end row inside ends found =
      let is = find_some (λ r. bytes_eq (unpadded (name_of r)) (compared (take end tag))) rows row found in
      let same = (bytes_eq-Decides _ (compared (take end tag))).0 is.1 in
      let long : size row ≡ end =
      ap length same ∙ (length-map (take end tag) tag_byte ∙ length-take-le end tag inside) in
      (is.0, prefix_from (unpadded (name_of row)) tag end same inside ends, long)

  -- a candidate of that size has the name
  candidate_named : (end : ℕ) (row : R) → IsCandidate row → size row ≡ end
      → bytes_eq (unpadded (name_of row)) (compared (take end tag)) ≡ true
  candidate_named end row is long =
      let prefix = prefix_is (unpadded (name_of row)) tag is in
      (bytes_eq-Decides _ _).1 (prefix.bytes ∙ ap (λ n. compared (take n tag)) long)

  module _ (end : ℕ) (inside : end ≤ length tag) where
    -- no candidate has that size where no part of the tag ends, or the part has no row
    kept : (found : Option R) → ((row : R) → Contains rows row → IsCandidate row → size row ≢ end)
        → IsLongestBelow end found → IsLongestBelow (end + 1) found
    kept None none h = λ k d in_range is.
        let row = get_or rows k d in
        let longer = h k d in_range is in
        let other = none row (Contains-get_or rows k d in_range) is in
        by_size (size row) longer other
      where
        by_size : (n : ℕ) → end ≤ n → n ≢ end → end + 1 ≤ n
        by_size n le differs = omega arith
    kept (Some best) none h = (
      h.0,
      h.1,
      λ k d in_range is below.
          let row = get_or rows k d in
          let other = none row (Contains-get_or rows k d in_range) is in
          h.2 k d in_range is (omega arith),
    )

    replaced : (found : Option R) (row : R) → Contains rows row → IsCandidate row → size row ≡ end
        → IsLongestBelow (end + 1) (Some row)
    replaced found row listed is long = (listed, is, λ k d in_range _ below. omega arith)

    abbrev found_here : Option R
    found_here = row_named name_of rows (compared (take end tag))

    -- one prefix more: there is none, or it is searched for
    pub passed_below : (found : Option R) → ends_at tag end ≡ false → IsLongestBelow end found
        → IsLongestBelow (end + 1) found
    passed_below found none h =
        kept found (λ row listed is long.
        let prefix = prefix_is (unpadded (name_of row)) tag is in
        absurd (cc (none, prefix.ends, long))) h

    pub searched_below : (found : Option R) → ends_at tag end ≡ true → IsLongestBelow end found
        → IsLongestBelow (end + 1) (option_or found_here found)
    searched_below found ends h = by found_here refl
      where
        by : (o : Option R) → found_here ≡ o → IsLongestBelow (end + 1) (option_or o found)
        by (Some row) e =
            let is = named_is end row inside ends e in
            replaced found row is.0 is.1 is.2
        by None e = kept found (λ row listed is long.
            let has_name = λ (r : R). bytes_eq (unpadded (name_of r)) (compared (take end tag)) in
            let fails = find_none_is has_name rows e row listed in
            absurd (cc (fails, candidate_named end row is long))) h

  pub none_beyond_tag : HasNoLonger name_of rows tag (length tag)
  none_beyond_tag = λ k d in_range is. (prefix_is (unpadded (name_of (get_or rows k d))) tag is).inside

  -- where no name is longer, the longest is found
  pub longest : (n : ℕ) (found : Option R) → IsLongestBelow (n + 1) found → HasNoLonger name_of rows tag n
      → IsRowOf name_of rows tag found
  longest n None h none = λ k d in_range.
      by (is_candidate name_of tag (get_or rows k d)) (h k d in_range) (none k d in_range)
    where
      by : (b : Bool) → {m : ℕ} → (b ≡ true → n + 1 ≤ m) → (b ≡ true → m ≤ n) → b ≡ false
      by true above below = absurd (omega (arith, above refl, below refl))
      by false above below = refl
  longest n (Some best) h none = (
    h.0,
    h.1,
    λ k d in_range is. h.2 k d in_range is (omega (arith, none k d in_range is)),
  )
