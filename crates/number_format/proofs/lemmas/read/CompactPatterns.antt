-- The patterns of compact notation, by the indexes of their keys.
use Rattle.std.proofs.{Common.{◌≡◌, ℕ, zero, suc, ◌+◌, ◌-◌, ◌*◌, ◌/◌, ◌<◌, ◌≤◌, Bool, true, false, List, [], ◌∷◌, ◌++◌, inl, inr, refl, sym, ◌∙◌, ap, subst, arith}, lemmas.Bool.cases_lt}
use Rattle.std.specs.{Prelude.{◌↔◌, ◌⊎◌, IsTrue, pos}, List.Contains}
use Rattle.locale_data.specs.declared.compact.CompactStyle.{CompactStyle}
use Rattle.number_format.specs.{declared.{format.formatter.NumberFormatter.NumberFormatter, read.{compact.keys.CompactKey.CompactKey, pattern.NumberPattern.NumberPattern, pattern_name.PatternName.PatternName}}, AffixedTexts.{name_of, AreToldApart, HasClash}, CompactReading.{has_number_at, word_pattern, whole_text, key_at, AreKeysApart, AreWordPatterns, AreAlike, AreFirstPatterns, AreWordsNamed, HasCompactExponents, HasMeaningOf, HasNoDigit, HasNumberOr, HasOneMeaning, HasWordNumbers, IsIndexApart, IsPatternOf, IsSameBefore, RepeatsAnother}}
use Rattle.number_format.proofs.lemmas.read.CompactKeys.{index_of, same_in_row}

-- ---- A loop over indexes that passes over those that repeat another.

module _ (Q : ℕ → Type 0) where
  abbrev pub AllBelow : ℕ → Type 0
  AllBelow n = (i : ℕ) → i < n → Q i

  pub one_more : (n : ℕ) → AllBelow n → Q n → AllBelow (n + 1)
  one_more n all here i below = elim (cases_lt i n) [
    | inl h ↦ all i h
    | inr h ↦ subst Q (omega (arith, h, below)) here
  ]

  pub fails_at : (n end : ℕ) (b : Bool) → n < end → IsTrue b ↔ Q n → b ≡ false → IsTrue false ↔ AllBelow end
  fails_at n end b below test fails =
      (λ t. absurd (cc), λ all. let t = test.1 (all n below) in absurd (cc))

  -- 216 more, each of which follows from the one 216 before it
  pub row_again : (n : ℕ) → 216 ≤ n → ((i : ℕ) → n ≤ i → i < n + 216 → Q (i - 216) → Q i) → AllBelow n
      → AllBelow (n + 216)
  row_again n from step all i below = elim (cases_lt i n) [
    | inl h ↦ all i h
    | inr h ↦ step i (omega (arith, h)) below (all (i - 216) (omega (arith, h, below, from)))
  ]

  pub all_of : (n end : ℕ) → end ≤ n → AllBelow n → AllBelow end
  all_of n end long all i below = all i (omega (arith, long, below))

-- ---- A list with one element more.

contains_last : (xs : List NumberPattern) (x : NumberPattern) → Contains (xs ++ x ∷ []) x
contains_last [] x = (0, omega arith, refl)
contains_last (y ∷ ys) x = let c = contains_last ys x in (suc c.0, omega (arith, c.1), c.2)

contains_before : (xs : List NumberPattern) (x y : NumberPattern) → Contains xs y → Contains (xs ++ x ∷ []) y
contains_before [] x y (k, below, e) = absurd (omega (arith, below))
contains_before (z ∷ zs) x y (zero, below, e) = (0, omega arith, e)
contains_before (z ∷ zs) x y (suc k, below, e) =
    let c = contains_before zs x y (k, omega (arith, below), e) in (suc c.0, omega (arith, c.1), c.2)

of_either : (xs : List NumberPattern) (x y : NumberPattern) → Contains (xs ++ x ∷ []) y → Contains xs y ⊎ (y ≡ x)
of_either [] x y (zero, below, e) = inr (sym e)
of_either [] x y (suc k, below, e) = absurd (omega (arith, below))
of_either (z ∷ zs) x y (zero, below, e) = inl (0, omega arith, e)
of_either (z ∷ zs) x y (suc k, below, e) = elim (of_either zs x y (k, omega (arith, below), e)) [
  | inl c ↦ inl (suc c.0, omega (arith, c.1), c.2)
  | inr same ↦ inr same
]

-- ---- What holds of each index holds of each key.

both_hold : {P : Type 0} (a b : Bool) → ¬ (a ≡ true → b ≡ true → P) → (a ≡ true) × (b ≡ true) × ¬ P
both_hold true true fails = (refl, refl, λ p. fails (λ x y. p))
both_hold true false fails = absurd (fails (λ x y. absurd (cc)))
both_hold false b fails = absurd (fails (λ x y. absurd (cc)))

module _ (f : NumberFormatter) (style : CompactStyle) where
  in_row : (row : ℕ) → 216 ≤ row * 216 → IsSameBefore f style (key_at (row * 216)).magnitude → (i : ℕ) → row * 216 ≤ i
      → i < row * 216 + 216 → AreAlike f style (key_at (i - 216)) (key_at i)
  in_row row from same i least below =
      let magnitude : (row * 216) / 216 ≡ i / 216 = omega (arith, least, below) in
      same_in_row f style i (omega (arith, from, least))
      (subst (λ n. IsSameBefore f style (pos (n + 2))) magnitude same)

  -- keys with the same texts
  number_alike : (k l : CompactKey) → AreAlike f style k l → HasNumberOr f style k → HasNumberOr f style l
  number_alike k l alike has none =
      let whole = has (alike.has_number ∙ none) in record {
        one = alike.one whole.one;
        no_digit = subst (λ p. HasNoDigit f.style.symbols (whole_text p)) alike.pattern whole.no_digit;
        meaning = subst (HasOneMeaning f style) alike.pattern whole.meaning;
      }

  apart_left : (k l m : CompactKey) → AreAlike f style k l → AreKeysApart f style k m → AreKeysApart f style l m
  apart_left k l m alike apart has other =
      subst (λ p. AreToldApart f.style.symbols p (word_pattern f style m)) alike.pattern
      (apart (alike.has_number ∙ has) other)

  apart_right : (k l m : CompactKey) → AreAlike f style l m → AreKeysApart f style k l → AreKeysApart f style k m
  apart_right k l m alike apart has other =
      subst (AreToldApart f.style.symbols (word_pattern f style k)) alike.pattern
      (apart has (alike.has_number ∙ other))

  abbrev pub HasNumberAt : ℕ → Type 0
  HasNumberAt i = HasNumberOr f style (key_at i)

  pub number_again : (i n : ℕ) → i ≤ n → AllBelow HasNumberAt n → RepeatsAnother f style i → HasNumberAt i
  number_again i n within all (j, below, alike) =
      number_alike (key_at j) (key_at i) alike (all j (omega (arith, within, below)))

  abbrev pub IsToldFrom : CompactKey → ℕ → Type 0
  IsToldFrom k j = AreKeysApart f style k (key_at j)

  pub told_again : (k : CompactKey) (i n : ℕ) → i ≤ n → AllBelow (IsToldFrom k) n → RepeatsAnother f style i
      → IsToldFrom k i
  told_again k i n within all (j, below, alike) =
      apart_right k (key_at j) (key_at i) alike (all j (omega (arith, within, below)))

  pub apart_again : (i n : ℕ) → i ≤ n → AllBelow (IsIndexApart f style) n → RepeatsAnother f style i
      → IsIndexApart f style i
  apart_again i n within all (j, below, alike) = λ l h.
      apart_left (key_at j) (key_at i) (key_at l) alike (all j (omega (arith, within, below)) l h)

  -- two keys that are not told apart have the number
  pub clash_of : (k l : CompactKey) (n m : PatternName) → n ≡ name_of (word_pattern f style k)
      → m ≡ name_of (word_pattern f style l) → ¬ AreKeysApart f style k l
      → HasClash f.style.symbols (IsPatternOf f style true) (n, m)
  clash_of k l n m name other apart =
      let both = both_hold (has_number_at f style k) (has_number_at f style l) apart in (
        word_pattern f style k,
        record { key = k; has = both.0; is = refl },
        (word_pattern f style l, record { key = l; has = both.1; is = refl }, λ i. (name i, other i), both.2),
      )

  -- a magnitude with the texts of the one before it
  pub numbers_again : (row : ℕ) → 216 ≤ row * 216 → IsSameBefore f style (key_at (row * 216)).magnitude
      → AllBelow HasNumberAt (row * 216) → AllBelow HasNumberAt (row * 216 + 216)
  numbers_again row from same =
      row_again HasNumberAt (row * 216) from
      (λ i least below. number_alike (key_at (i - 216)) (key_at i) (in_row row from same i least below))

  -- ---- Patterns with the number, or without it.

  module _ (b : Bool) where
    abbrev HasPattern : List NumberPattern → ℕ → Type 0
    HasPattern patterns i =
        has_number_at f style (key_at i) ≡ b → Contains patterns (word_pattern f style (key_at i))

    pattern_alike : (patterns : List NumberPattern) (i j : ℕ) → AreAlike f style (key_at j) (key_at i)
        → HasPattern patterns j → HasPattern patterns i
    pattern_alike patterns i j alike has is =
        subst (Contains patterns) alike.pattern (has (alike.has_number ∙ is))

    pub no_patterns : AreFirstPatterns f style b 0 []
    no_patterns = record {
      all = λ i below. absurd (omega (arith, below));
      only = λ p has. absurd (omega (arith, has.1));
    }

    pub pattern_again : (n : ℕ) (patterns : List NumberPattern) → AreFirstPatterns f style b n patterns
        → RepeatsAnother f style n → AreFirstPatterns f style b (n + 1) patterns
    pattern_again n patterns are (j, below, alike) = record {
      all = one_more (HasPattern patterns) n are.all (pattern_alike patterns n j alike (are.all j below));
      only = are.only;
    }

    -- the pattern is none of these
    pub pattern_other : (n : ℕ) (patterns : List NumberPattern) → AreFirstPatterns f style b n patterns
        → ¬ (has_number_at f style (key_at n) ≡ b) → AreFirstPatterns f style b (n + 1) patterns
    pattern_other n patterns are other = record {
      all = one_more (HasPattern patterns) n are.all (λ is. absurd (other is));
      only = are.only;
    }

    pub row_patterns : (row : ℕ) (patterns : List NumberPattern) → 216 ≤ row * 216
        → IsSameBefore f style (key_at (row * 216)).magnitude → AreFirstPatterns f style b (row * 216) patterns
        → AreFirstPatterns f style b (row * 216 + 216) patterns
    row_patterns row patterns from same are = record {
      all = row_again (HasPattern patterns) (row * 216) from
          (λ i least below. pattern_alike patterns i (i - 216) (in_row row from same i least below)) are.all;
      only = are.only;
    }

    pub pattern_more : (n : ℕ) (patterns : List NumberPattern) (p : NumberPattern)
        → AreFirstPatterns f style b n patterns → has_number_at f style (key_at n) ≡ b
        → p ≡ word_pattern f style (key_at n) → AreFirstPatterns f style b (n + 1) (patterns ++ p ∷ [])
    pattern_more n patterns p are has is = record {
      all = one_more (HasPattern (patterns ++ p ∷ [])) n
          (λ i below own. contains_before patterns p _ (are.all i below own))
          (λ own. subst (Contains (patterns ++ p ∷ [])) is (contains_last patterns p));
      only = λ q listed. elim (of_either patterns p q listed) [
        | inl before ↦ are.only q before
        | inr same ↦ record { key = key_at n; has = has; is = same ∙ is }
      ];
    }

  module _ (exponents : HasCompactExponents f.notation) where
    pub each_number : AllBelow HasNumberAt 3888 ↔ HasWordNumbers f style
    each_number = (
      λ all k. let i = index_of f style exponents k in number_alike (key_at i.0) k i.2 (all i.0 i.1),
      λ has i below. has (key_at i),
    )

    pub each_apart : AllBelow (IsIndexApart f style) 3888 → AreWordsNamed f style
    each_apart all k l =
        let i = index_of f style exponents k in
        let j = index_of f style exponents l in
        apart_right k (key_at j.0) l j.2 (apart_left (key_at i.0) k (key_at j.0) i.2 (all i.0 i.1 j.0 j.1))

    -- the whole text of a pattern has one meaning
    pub one_meaning : (p : NumberPattern) → AllBelow (λ i. HasMeaningOf f style p (key_at i)) 3888
        ↔ HasOneMeaning f style p
    one_meaning p = (
      λ all k is.
          let i = index_of f style exponents k in
          let at = all i.0 i.1 (record {
            none = i.2.has_number ∙ is.none;
            same = is.same ∙ ap whole_text (sym i.2.pattern);
          }) in (
            at.0 ∙ ap (λ (q : NumberPattern). q.sign) i.2.pattern,
            at.1 ∙ ap (λ (q : NumberPattern). q.exponent) i.2.pattern,
          ),
      λ has i below. has (key_at i),
    )

    -- ---- A list of all patterns.

    pub are_patterns : (b : Bool) (n : ℕ) (patterns : List NumberPattern) → 3888 ≤ n
        → AreFirstPatterns f style b n patterns → AreWordPatterns f style b patterns
    are_patterns b n patterns long are = record {
      all = λ k has.
          let i = index_of f style exponents k in
          subst (Contains patterns) i.2.pattern (are.all i.0 (omega (arith, long, i.1)) (i.2.has_number ∙ has));
      only = are.only;
    }
