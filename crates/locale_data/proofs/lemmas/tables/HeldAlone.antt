-- By rules that ask for a number no other number is of their category.
use Rattle.std.proofs.{Common.{◌≡◌, ℕ, zero, suc, ◌%◌, ◌^◌, ◌<◌, ◌≤◌, ◌≤ℤ◌, ◌==◌, ◌&&◌, ◌||◌, inl, inr, Bool, true, false, cond, List, [], ◌∷◌, refl, sym, ◌∙◌, ap, subst, arith, Option, Some, None, pos}, lemmas.{Bool.{and_parts, cases_lt, Decides.nat_tests}, Int.{ints, clamps}}}
use Rattle.std.specs.{Prelude.{find, nat_le, if◌then◌else◌, ◌↔◌, IsTrue, IsSomeAnd, is_none, not}, Int.int_gap, List.{list_any, list_all}, Option.{option_map, option_map_or}}
use Rattle.decimal_digits.specs.Number.{greatest, last, offset, weight}
use Rattle.decimal_unsigned.specs.{Unsigned.{Unsigned, IsValue}, Edits.trimmed_end}
use Rattle.fixed_decimal.proofs.Calling.{gap_is, offset_is}
use Rattle.plural_rules.specs.{declared.rules.{Operand.{Operand, TheVariants.{N, I, V}}, PluralCategory.{PluralCategory, TheVariants.{Zero, One, Two, Few, Many, Other}}, Range.Range}, Operands.plain, Rules.{RelationValue, RuleValue, category_of, holds, is_met, operand_value, is_integer}, RulesGrammar.Grammar}
use Rattle.plural_rules.specs.Operands as of
use Rattle.plural_rules.proofs.lemmas.parse.ParserComplete.{grammar-unique}
use Rattle.locale_data.specs.{declared.{tables.rows.plurals.RuleSet.RuleSet, plurals.PluralRulesId.PluralRulesId}, Plurals.{are_alone, ask_for, asks_for, category_is, is_equation, is_just, operand_is, set_at, text_of, rules_text_at, HoldsAlone, IsCategoryAt}, PluralRows.rules_in}
use Rattle.locale_data.proofs.lemmas.tables.RulesTexts.{rules_of_set}

-- ---- The last digit of a number.

-- the greatest number that passes a test is no less than another one
at_least : (test : ℕ → Bool) (n k : ℕ) → k < n → test k ≡ true → k ≤ greatest test n
unfolding greatest
at_least test zero k below is = absurd (omega (arith, below))
at_least test (suc m) k below is = go (test m) refl (λ less. at_least test m k less is)
  where
    go : (b : Bool) → test m ≡ b → (k < m → k ≤ greatest test m) → k ≤ cond b m (greatest test m)
    go true top later = omega (arith, below)
    go false top later = elim (cases_lt k m) [
      | inl less ↦ later less
      | inr least ↦
          let same : k ≡ m = omega (arith, below, least) in
          absurd (let e = sym is ∙ ap test same ∙ top in cc)
    ]

-- an integer has its last digit at the magnitude 0 or above
last_of_integer : (n : ℕ) → n % weight (pos 0) ≡ 0 → pos 0 ≤ℤ last n
unfolding last
last_of_integer zero whole = omega (arith, ints)
last_of_integer (suc n) whole =
    let test : (suc n % 10 ^ offset (pos 0) == 0) ≡ true = (λ i. whole i == 0) in
    let k = at_least (λ k. suc n % 10 ^ k == 0) 65536 (offset (pos 0)) (omega (arith, ints, offset_is (pos 0))) test in
    omega (arith, ints, k, offset_is (pos 0))

-- ---- What it is to ask for it.

abbrev AloneBy : PluralCategory → ℕ → List ℕ → Type 0
AloneBy category n text = (rules : List RuleValue) × Grammar text rules × (are_alone category n rules ≡ true)

-- ---- Categories.

not_true : (b : Bool) → not b ≡ true → b ≡ false
not_true false is = refl
not_true true is = absurd (cc)

-- a category is itself
is_category : (c own : PluralCategory) → own ≡ c → category_is c own ≡ true
is_category c own e = ap (category_is c) e ∙ same c
  where
    same : (c : PluralCategory) → category_is c c ≡ true
    same Zero = refl
    same One = refl
    same Two = refl
    same Few = refl
    same Many = refl
    same Other = refl

-- ---- Relations.

same_operand : (wanted o : Operand) → operand_is wanted o ≡ true → o ≡ wanted
same_operand N N is = refl
same_operand I I is = refl
same_operand V V is = refl
same_operand wanted o is = absurd (cc)

just : (n low high k : ℕ) → (low == n && high == n) ≡ true → ((nat_le low k && nat_le k high) || false) ≡ true → k ≡ n
just n low high k ends is = grind (arith, nat_tests)

module _ (v : Unsigned) (valid : IsValue v) where
  -- ---- The operand of an equation that holds.

  module _ (wanted : Operand) (n : ℕ) where
    abbrev IsValueOf : Type 0
    IsValueOf = (is_integer (plain v) wanted ≡ true) × (operand_value (plain v) wanted ≡ n)

    by_parts : (o : Operand) (m : Option ℕ) (e : Bool) (ranges : List Range) → o ≡ wanted → is_none m ≡ true → e ≡ true
        → is_just n ranges ≡ true
        → holds (plain v) (record { operand = o; modulus = m; is_equal = e; ranges = ranges }) ≡ true → IsValueOf
    by_parts o None true (r ∷ []) own none equal ends is =
        let parts = and_parts _ _ is in (
          ap (is_integer (plain v)) (sym own) ∙ parts.0,
          ap (operand_value (plain v)) (sym own)
              ∙ just n r.low r.high (operand_value (plain v) o) ends parts.1,
        )
    by_parts o (Some m) e ranges own none equal ends is = absurd (cc)
    by_parts o None false ranges own none equal ends is = absurd (cc)
    by_parts o None true [] own none equal ends is = absurd (cc)
    by_parts o None true (r ∷ s ∷ ranges) own none equal ends is = absurd (cc)

    value_of : (r : RelationValue) → is_equation wanted n r ≡ true → holds (plain v) r ≡ true → IsValueOf
    value_of r is all =
        let a = and_parts _ _ is in
        let b = and_parts _ _ a.1 in
        let c = and_parts _ _ b.1 in
        by_parts r.operand r.modulus r.is_equal r.ranges (same_operand wanted r.operand a.0) b.0 c.0 c.1 all

    value_in : (relations : List RelationValue) → list_any (is_equation wanted n) relations ≡ true
        → list_all (holds (plain v)) relations ≡ true → IsValueOf
    value_in [] any all = absurd (cc)
    value_in (r ∷ relations) any all =
        go (is_equation wanted n r) refl any (λ more. value_in relations more (and_parts _ _ all).1)
      where
        go : (b : Bool) → is_equation wanted n r ≡ b → (b || list_any (is_equation wanted n) relations) ≡ true
            → (list_any (is_equation wanted n) relations ≡ true → IsValueOf) → IsValueOf
        go true is any later = value_of r is (and_parts _ _ all).0
        go false is any later = later any

  -- ---- A number that the relations ask for.

  module _ (n : ℕ) where
    -- the number is n, as 2 is `2` and `2.0`
    abbrev pub IsNumber : Type 0
    IsNumber = (of.i v == n && of.w v == 0) ≡ true

    number : of.i v ≡ n → of.w v ≡ 0 → IsNumber
    number i w = grind (arith, nat_tests, i, w)

    -- without fraction digits there are none that are not 0
    no_fraction : of.v v ≡ 0 → of.w v ≡ 0
    no_fraction none =
        let lo : v.lo ≡ pos 0 = omega (arith, ints, gap_is, none, valid.lo_in) in
        let last = last_of_integer v.number (ap (λ m. v.number % weight m) (sym lo) ∙ valid.whole) in
        let trimmed : (trimmed_end v).lo ≡ pos 0 = omega (arith, ints, clamps, last) in
        ap (λ z. int_gap z (pos 0)) trimmed

    asked : (relations : List RelationValue) → list_all (holds (plain v)) relations ≡ true
        → ask_for n relations ≡ true → IsNumber
    asked relations all ask = go (list_any (is_equation N n) relations) refl ask
      where
        go : (b : Bool) → list_any (is_equation N n) relations ≡ b
            → (b || (list_any (is_equation I n) relations && list_any (is_equation V 0) relations)) ≡ true → IsNumber
        go true any ask =
            let is = value_in N n relations any all in
            let w : of.w v ≡ 0 = grind (arith, nat_tests, is.0) in
            number is.1 w
        go false any ask =
            let both = and_parts _ _ ask in
            number (value_in I n relations both.0 all).1
            (no_fraction (value_in V 0 relations both.1 all).1)

    met : (alternatives : List (List RelationValue)) → list_any (list_all (holds (plain v))) alternatives ≡ true
        → list_all (ask_for n) alternatives ≡ true → IsNumber
    met [] any ask = absurd (cc)
    met (relations ∷ more) any ask =
        go (list_all (holds (plain v)) relations) refl any (λ is. met more is (and_parts _ _ ask).1)
      where
        go : (b : Bool) → list_all (holds (plain v)) relations ≡ b
            → (b || list_any (list_all (holds (plain v))) more) ≡ true
            → (list_any (list_all (holds (plain v))) more ≡ true → IsNumber) → IsNumber
        go true all any later = asked relations all (and_parts _ _ ask).0
        go false all any later = later any

    module _ (category : PluralCategory) (named : category_is Other category ≡ false) where
      of_rules : (rules : List RuleValue) → category_of rules (plain v) ≡ category
          → list_all (asks_for category n) rules ≡ true → IsNumber
      of_rules [] is ask = absurd (let e = ap (category_is Other) is ∙ named in cc)
      of_rules (r ∷ rules) is ask =
          go (is_met (plain v) r) refl is (λ is. of_rules rules is (and_parts _ _ ask).1)
        where
          go : (b : Bool) → is_met (plain v) r ≡ b
              → option_map_or (λ (x : RuleValue). x.category) (cond b (Some r) (find (is_met (plain v)) rules)) Other
              ≡ category
              → (category_of rules (plain v) ≡ category → IsNumber) → IsNumber
          go true is own later =
              met r.alternatives is
              (sym (λ i. if is_category category r.category own i then list_all (ask_for n) r.alternatives else true)
              ∙ (and_parts _ _ ask).0)
          go false is own later = later own

    -- a category that holds n alone has no other number
    pub held_is_number : (id : PluralRulesId) (category : PluralCategory) → HoldsAlone id category n
        → IsCategoryAt id (plain v) category → IsNumber
    held_is_number id category alone is = by (rules_text_at id) alone is
      where
        by : (o : Option (List ℕ)) → IsSomeAnd o (AloneBy category n)
            → IsSomeAnd o (λ text. (rules : List RuleValue) × Grammar text rules
            × (category ≡ category_of rules (plain v)))
            → IsNumber
        by None alone is = absurd alone
        by (Some text) (rules, grammar, ask) (others, again, is) =
            let parts = and_parts _ _ ask in
            of_rules category (not_true (category_is Other category) parts.0) rules
            (ap (λ x. category_of x (plain v)) (grammar-unique grammar again) ∙ sym is) parts.1

-- ---- By rows.

module _ (id : PluralRulesId) (category : PluralCategory) (n : ℕ) where
  abbrev IsAloneIn : Option RuleSet → Type 0
  IsAloneIn set = IsSomeAnd (option_map text_of set) (AloneBy category n)

  pub alone_by_rows : (set : RuleSet) (b : Bool) → set_at id ≡ Some set
      → b ≡ are_alone category n (rules_in set.rules) → IsTrue b ↔ HoldsAlone id category n
  alone_by_rows set b at is = (
    λ t. subst IsAloneIn (sym at) (rules_in set.rules, (rules_of_set id set at).0, sym is ∙ t),
    λ has.
        let found = subst IsAloneIn at has in
        is ∙ ap (are_alone category n) (sym (grammar-unique found.1 (rules_of_set id set at).0)) ∙ found.2,
  )

  pub none_alone : set_at id ≡ None → ¬ HoldsAlone id category n
  none_alone at has = absurd (subst IsAloneIn at has)
