-- The delimiters of a line, and the starts and ends of its fields.
use Rattle.std.proofs.{Common.{◌≡◌, ℕ, zero, suc, ◌+◌, ◌-◌, ◌<◌, ◌≤◌, Bool, true, false, List, [], ◌∷◌, ◌++◌, length, take, drop, slice_get, slice_index, nat_eq, min, Option, Some, None, refl, sym, ap, subst, ⊎_elim, ◌∙◌, arith, add-one, inl, inr, ◌⊎◌, ◌&&◌, ◌==◌}, lemmas.{Bool.{and_parts, cond-true, cond-false, cases_Bool, false≢true}, List.{drop-drop, length-drop, length-take}, Option.slice_get_past}, Math.{Nat.eq-or-lt_of_le, Seq.{take-add, take-length}}}
use Rattle.std.specs.{Prelude.{option_map, unwrap_or}, List.starts_with}
use lib.Pointwise.{pointwise_long}
use Rattle.cli.specs.{declared.lines.fields.Field.Field, Fields.{within, is_outside, is_at, ends_at, first_index, delimiter_after, next_start, start_of, bounds_from, bounds}}

pub le_or_lt : (m n : ℕ) → (m ≤ n) ⊎ (n < m)
le_or_lt zero n = inl (omega arith)
le_or_lt (suc m) zero = inr (omega arith)
le_or_lt (suc m) (suc n) =
    ⊎_elim (λ less. inl (omega (arith, less))) (λ more. inr (omega (arith, more))) (le_or_lt m n)

-- the bytes from an index to the end
pub all_after : (n : ℕ) (bytes : List ℕ) → take (length bytes - n) (drop n bytes) ≡ drop n bytes
all_after n bytes = rw (← length-drop n bytes) (take-length (drop n bytes))

-- ---- The first index at which a property holds.

module _ (p : ℕ → Bool) where
  pub first_here : (index count : ℕ) → p index ≡ true → first_index p index (suc count) ≡ Some index
  first_here index count holds = cond-true (p index) (Some index) (first_index p (index + 1) count) holds

  pub first_later :
      (index count : ℕ) → p index ≡ false → first_index p index (suc count) ≡ first_index p (index + 1) count
  first_later index count fails = cond-false (p index) (Some index) (first_index p (index + 1) count) fails

  -- it is one of the indices, and the property holds at it
  pub first_holds :
      (index count found : ℕ) → first_index p index count ≡ Some found
      → (index ≤ found) × (found < index + count) × (p found ≡ true)
  first_holds index zero found is = cc
  first_holds index (suc count) found is =
      ⊎_elim
      (λ here. let same : index ≡ found = let all = sym (first_here index count here) ∙ is in cc in
      (omega (arith, same), omega (arith, same), subst (λ n. p n ≡ true) same here))
      (λ other. let (after, before, holds) =
      first_holds (index + 1) count found (sym (first_later index count other) ∙ is) in
      (omega (arith, after), omega (arith, before), holds))
      (cases_Bool (p index))

-- a delimiter in a line has bytes, all of which are in the line
delimiter_fits :
    (delimiter line : List ℕ) (index : ℕ) → index < length line → is_at delimiter line index ≡ true
    → (0 < length delimiter) × (index + length delimiter ≤ length line)
delimiter_fits [] line index inside is = absurd (false≢true is)
delimiter_fits (first ∷ rest) line index inside is =
    let left = drop (index + 1) line in
    let same : length rest ≡ length (take (length rest) left) =
    pointwise_long nat_eq rest (take (length rest) left)
    (and_parts (slice_index line index == first) (starts_with nat_eq left rest) is).1 in
    let short : length (take (length rest) left) ≡ min (length rest) (length left) = length-take (length rest) left in
    (omega arith, omega (arith, same, short, length-drop (index + 1) line))

module _ (field : Field) (line : List ℕ) where
  pub delimiter_inside :
      (start index : ℕ) → delimiter_after field line start ≡ Some index
      → (start ≤ index) × (0 < length field.delimiter.now) × (index + length field.delimiter.now ≤ length line)
  delimiter_inside start index is =
      let (after, before, holds) = first_holds (ends_at field line start) start (length line - start) index is in
      let inside : index < length line = omega (arith, after, before) in
      let (some, fits) = delimiter_fits field.delimiter.now line index inside (and_parts _ _ holds).1 in
      (after, some, fits)

  -- a delimiter of no bytes is nowhere
  pub no_delimiter :
      (start : ℕ) → length field.delimiter.now ≡ 0 → delimiter_after field line start ≡ None
  no_delimiter start none = search_none (delimiter_after field line start) refl
    where
      search_none : (found : Option ℕ) → delimiter_after field line start ≡ found → found ≡ None
      search_none None is = refl
      search_none (Some index) is = absurd (omega (arith, none, (delimiter_inside start index is).1))

  -- ---- The search for a delimiter.

  -- the delimiter after the field that starts here is at this index or later
  pub record Searched (start index : ℕ) (outside : Bool) : Type 0 where
    pub after : start ≤ index
    pub outside_is : outside ≡ is_outside field (within line (start, index))
    pub left : delimiter_after field line start ≡ first_index (ends_at field line start) index (length line - index)

  module _
      {start index : ℕ} {outside : Bool} (h : Searched start index outside) (inside : index < length line)
    where
      more : length line - index ≡ suc (length line - (index + 1))
      more = omega (arith, inside)

      -- it is here
      pub searched_here : ends_at field line start index ≡ true → delimiter_after field line start ≡ Some index
      searched_here here =
          h.left
          ∙ ap (first_index (ends_at field line start) index) more
          ∙ first_here (ends_at field line start) index (length line - (index + 1)) here

      -- it is not here, but later
      pub not_here :
          (first : ℕ) (rest : List ℕ) → field.delimiter.now ≡ first ∷ rest
          → (outside && (slice_index line index == first && starts_with nat_eq (drop (index + 1) line) rest)) ≡ false
          → ends_at field line start index ≡ false
      not_here first rest is other =
          ap (λ d. is_outside field (within line (start, index)) && is_at d line index) is
          ∙ ap (λ b. b && is_at (first ∷ rest) line index) (sym h.outside_is) ∙ other

      pub searched_later :
          {now : Bool}
          → (outside ≡ is_outside field (within line (start, index))
          → now ≡ is_outside field (within line (start, index) ++ take (index + 1 - index) (drop index line)))
          → ends_at field line start index ≡ false → Searched start (index + 1) now
      searched_later is other =
          let ordered : index - start + (index + 1 - index) ≡ index + 1 - start = omega (arith, h.after) in
          let at : start + (index - start) ≡ index = omega (arith, h.after) in
          let bytes : within line (start, index) ++ take (index + 1 - index) (drop index line)
          ≡ within line (start, index + 1) =
          ap (λ n. within line (start, index) ++ take (index + 1 - index) (drop n line)) (sym at)
          ∙ ap (λ l. within line (start, index) ++ take (index + 1 - index) l)
          (sym (drop-drop (index - start) start line))
          ∙ sym (take-add (index - start) (index + 1 - index) (drop start line))
          ∙ ap (λ n. take n (drop start line)) ordered in
          record {
            after = omega (arith, h.after);
            outside_is = is h.outside_is ∙ ap (is_outside field) bytes;
            left =
                h.left
                ∙ ap (first_index (ends_at field line start) index) more
                ∙ first_later (ends_at field line start) index (length line - (index + 1)) other;
          }

  -- ---- The field with an index.

  pub start_inside : (index start : ℕ) → start_of field line index ≡ Some start → start ≤ length line
  start_inside zero start is = let same : 0 ≡ start = cc in omega (arith, same)
  start_inside (suc index) start is = after (start_of field line index) is
    where
      after : (before : Option ℕ) → next_start field line before ≡ Some start → start ≤ length line
      after None is = cc
      after (Some before) is = found (delimiter_after field line before) refl is
        where
          found :
              (delimiter : Option ℕ) → delimiter_after field line before ≡ delimiter
              → option_map (λ index. index + length field.delimiter.now) delimiter ≡ Some start → start ≤ length line
          found None has is = cc
          found (Some at) has is =
              let same : at + length field.delimiter.now ≡ start = cc in
              omega (arith, same, (delimiter_inside before at has).2)

  pub bounds_inside :
      (index start : ℕ) → start_of field line index ≡ Some start → (delimiter : Option ℕ)
      → delimiter ≡ delimiter_after field line start
      → (start ≤ unwrap_or delimiter (length line)) × (unwrap_or delimiter (length line) ≤ length line)
  bounds_inside index start is None has = (start_inside index start is, omega arith)
  bounds_inside index start is (Some at) has =
      let (after, some, fits) = delimiter_inside start at (sym has) in
      (after, omega (arith, fits))

  -- one more field
  pub start_more :
      (index start at : ℕ) → start_of field line index ≡ Some start → delimiter_after field line start ≡ Some at
      → start_of field line (index + 1) ≡ Some (at + length field.delimiter.now)
  start_more index start at is has = rw add-one (rw (is, has) refl)

  -- or none
  pub start_none :
      (index start other : ℕ) → start_of field line index ≡ Some start → delimiter_after field line start ≡ None
      → index < other → start_of field line other ≡ None
  start_none index start (suc other) is has below =
      ⊎_elim (λ same. rw (← same, is, has) refl)
      (λ less. rw (start_none index start other is has less) refl)
      (eq-or-lt_of_le (omega (arith, below)))
  start_none index start zero is has below = absurd (omega (arith, below))

  module _ (index start : ℕ) (is : start_of field line index ≡ Some start) where
    pub bounds_here : bounds field line index ≡ Some (bounds_from field line start)
    bounds_here = ap (option_map (bounds_from field line)) is

    pub bounds_none :
        (other : ℕ) → delimiter_after field line start ≡ None → index < other → bounds field line other ≡ None
    bounds_none other has below =
        ap (option_map (bounds_from field line)) (start_none index start other is has below)

-- ---- The bounds of all fields.

get_before :
    {X : Type 0} (xs ys : List X) (k : ℕ) → k < length xs → slice_get (xs ++ ys) k ≡ slice_get xs k
get_before [] ys k inside = absurd (omega (arith, inside))
get_before (x ∷ xs) ys zero inside = refl
get_before (x ∷ xs) ys (suc k) inside = get_before xs ys k (omega (arith, inside))

get_last : {X : Type 0} (xs : List X) (x : X) → slice_get (xs ++ (x ∷ [])) (length xs) ≡ Some x
get_last [] x = refl
get_last (y ∷ xs) x = get_last xs x

length_more : {X : Type 0} (xs : List X) (x : X) → length (xs ++ (x ∷ [])) ≡ length xs + 1
length_more [] x = refl
length_more (y ∷ xs) x = omega (arith, length_more xs x)

-- what a list has, with one more element
get_more :
    {X : Type 0} (f : ℕ → Option X) (all : List X) (x : X)
    → ((k : ℕ) → k < length all → f k ≡ slice_get all k) → f (length all) ≡ Some x → (k : ℕ) → k ≤ length all
    → f k ≡ slice_get (all ++ (x ∷ [])) k
get_more f all x done last k inside =
    ⊎_elim (λ same. ap f same ∙ last ∙ sym (get_last all x) ∙ ap (slice_get (all ++ (x ∷ []))) (sym same))
    (λ less. done k less ∙ sym (get_before all (x ∷ []) k less)) (eq-or-lt_of_le inside)

module _ (field : Field) (line : List ℕ) where
  -- these are the bounds of the first fields, and the next one starts here
  pub record Listed (start : ℕ) (all : List (ℕ × ℕ)) : Type 0 where
    pub done : (index : ℕ) → index < length all → bounds field line index ≡ slice_get all index
    pub next : start_of field line (length all) ≡ Some start

  pub listed_none : Listed 0 []
  listed_none = record { done = λ index inside. absurd (omega (arith, inside)); next = refl }

  module _ (start : ℕ) (all : List (ℕ × ℕ)) (h : Listed start all) where
    -- a delimiter follows it
    module _ (at : ℕ) (has : delimiter_after field line start ≡ Some at) where
      pub listed_more : Listed (at + length field.delimiter.now) (all ++ ((start, at) ∷ []))
      listed_more =
          let long = length_more all (start, at) in
          let here : bounds field line (length all) ≡ Some (start, at) =
          bounds_here field line (length all) start h.next ∙ ap (λ d. Some (start, unwrap_or d (length line))) has in
          record {
            done = λ index inside.
                get_more (bounds field line) all (start, at) h.done here index (omega (arith, inside, long));
            next = ap (start_of field line) long ∙ start_more field line (length all) start at h.next has;
          }

    -- it is the last one
    pub listed_all :
        delimiter_after field line start ≡ None → (index : ℕ)
        → bounds field line index ≡ slice_get (all ++ ((start, length line) ∷ [])) index
    listed_all has index =
        let long = length_more all (start, length line) in
        let here : bounds field line (length all) ≡ Some (start, length line) =
        bounds_here field line (length all) start h.next ∙ ap (λ d. Some (start, unwrap_or d (length line))) has in
        ⊎_elim (λ inside. get_more (bounds field line) all (start, length line) h.done here index inside)
        (λ past. bounds_none field line (length all) start h.next index has past
        ∙ sym (slice_get_past (all ++ ((start, length line) ∷ [])) index (omega (arith, long, past))))
        (le_or_lt index (length all))
