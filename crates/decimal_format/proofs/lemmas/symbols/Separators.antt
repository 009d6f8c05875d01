-- Where the next separator is, and how many there are.
use Rattle.std.proofs.{Common.{◌≡◌, ℕ, zero, suc, ◌+◌, ◌-◌, ◌*◌, ◌/◌, ◌%◌, ◌<◌, ◌≤◌, inl, inr, Bool, true, false, refl, sym, ◌∙◌, ap, arith, rules}, Math.Nat.{mod-add-div', add-mul-mod_self_right, add-mul-div_right, mod-eq_of_lt, mod-lt, mod_self, mul-mod_left, div_self, div-eq_of_lt, zero-div, zero-mod}, lemmas.{Int.ints, Bool.{cases_lt, Decides.nat_tests}}}
use Rattle.std.specs.Prelude.{if◌then◌else◌, ◌==◌, ◌&&◌, nat_lt, nat_le, ℤ, pos, ◌≤ℤ◌}
use Rattle.decimal_format.specs.{declared.grouping.{GroupingSizes.GroupingSizes, GroupingStrategy.GroupingStrategy}, Grouping.{reaches, is_grouped, secondary_size, ends_group, separates}, Parts.separators_below}

-- ---- Quotients and remainders.
-- subtracting less than the remainder leaves the rest of the remainder
mod-sub_less : (x d k : ℕ) → 0 < d → k < x % d → (x - k) % d ≡ x % d - k
mod-sub_less x d k some h = grind (arith, mod-add-div', mod-lt, add-mul-mod_self_right, mod-eq_of_lt)

-- the next quotient is one more at a multiple of the divisor
div-add_one : (x d : ℕ) → 0 < d → (x + 1) / d ≡ x / d + (if (x + 1) % d == 0 then 1 else 0)
div-add_one x d some = elim (cases_lt (x % d + 1) d) [
  | inl less ↦
      let split : x + 1 ≡ (x % d + 1) + x / d * d = omega (arith, mod-add-div' x d) in
      let quotient : (x + 1) / d ≡ x / d = search (rules, arith, add-mul-div_right, div-eq_of_lt) in
      let rest : (x + 1) % d ≡ x % d + 1 = search (rules, arith, add-mul-mod_self_right, mod-eq_of_lt) in
      grind (arith, nat_tests, quotient, rest)
  | inr last ↦
      let split : x + 1 ≡ d + x / d * d = omega (arith, mod-add-div' x d, mod-lt x some) in
      let quotient : (x + 1) / d ≡ x / d + 1 = search (rules, arith, add-mul-div_right, div_self) in
      let rest : (x + 1) % d ≡ 0 = ap (λ y. y % d) split ∙ add-mul-mod_self_right d (x / d) d ∙ mod_self d in
      grind (arith, nat_tests, quotient, rest)
]

-- ---- Ends of groups.
module _ (sizes : GroupingSizes) where
  -- groups are not empty
  secondary_some : 0 < sizes.primary → 0 < secondary_size sizes
  secondary_some some = grind (arith, nat_tests)

  module _ (m : ℕ) (some : 0 < sizes.primary) (least : sizes.primary ≤ m) where
    abbrev rest : ℕ
    rest = (m - sizes.primary) % secondary_size sizes

    -- no group ends less than a remainder below a magnitude
    pub ends_none : (k : ℕ) → k < rest → ends_group sizes (m - k) ≡ false
    ends_none k h =
        let d = secondary_size sizes in
        let x = m - sizes.primary in
        let order : m - k - sizes.primary ≡ x - k = omega arith in
        let test : ((m - k - sizes.primary) % d == 0) ≡ false =
        search (rules, arith, nat_tests, mod-sub_less, secondary_some) in
        ap (λ b. nat_lt 0 sizes.primary && (nat_le sizes.primary (m - k) && b)) test
        ∙ ends_false (nat_lt 0 sizes.primary) (nat_le sizes.primary (m - k))
      where
        ends_false : (a b : Bool) → (a && (b && false)) ≡ false
        ends_false a b = grind arith

    -- a group ends at the remainder below a magnitude
    pub ends_last : ends_group sizes (m - rest) ≡ true
    ends_last =
        let d = secondary_size sizes in
        let x = m - sizes.primary in
        let split : x ≡ x % d + x / d * d = omega (arith, mod-add-div' x d) in
        let order : m - x % d - sizes.primary ≡ x / d * d = omega (arith, split, least) in
        let reached : nat_le sizes.primary (m - x % d) ≡ true = search (rules, arith, nat_tests) in
        let first : nat_lt 0 sizes.primary ≡ true = grind (arith, nat_tests, some) in
        let test : ((m - x % d - sizes.primary) % d == 0) ≡ true = search (rules, arith, mul-mod_left) in
        (λ i. first i && (reached i && test i))

module _ (strategy : GroupingStrategy) (sizes : GroupingSizes) (hi : ℤ) where
  reaches_least : (least : ℕ) → 1 ≤ least → reaches sizes least hi ≡ true → pos sizes.primary ≤ℤ hi
  reaches_least least some h = grind (arith, ints, h, some)

  -- a value that is grouped reaches the primary size
  pub grouped_least : (g : GroupingStrategy) → is_grouped g sizes hi ≡ true → pos sizes.primary ≤ℤ hi
  grouped_least g h = grind (arith, ints, reaches_least)

  -- ---- All magnitudes.
  pub separators_below-suc : (n : ℕ) → separators_below strategy sizes hi (suc n)
      ≡ separators_below strategy sizes hi n + (if separates strategy sizes hi (pos n) then 1 else 0)
  unfolding separators_below
  separators_below-suc n = refl

  pub separators_below-zero : separators_below strategy sizes hi 0 ≡ 0
  unfolding separators_below
  separators_below-zero = refl

  -- there is none below a magnitude if there is none at each
  none_below : (n : ℕ) → ((m : ℕ) → m < n → separates strategy sizes hi (pos m) ≡ false)
      → separators_below strategy sizes hi n ≡ 0
  none_below zero h = separators_below-zero
  none_below (suc n) h = grind (arith, separators_below-suc, none_below n)

  -- a value that is not grouped has none
  pub count-none : (n : ℕ) → (is_grouped strategy sizes hi && nat_lt 0 sizes.primary) ≡ false
      → separators_below strategy sizes hi n ≡ 0
  count-none n h = grind (arith, none_below)

  -- a value that is grouped has one after the primary size and after each secondary size above
  pub count-some : 0 < sizes.primary → is_grouped strategy sizes hi ≡ true → (x : ℕ)
      → separators_below strategy sizes hi (sizes.primary + x + 1) ≡ x / secondary_size sizes + 1
  count-some some grouped = go
    where
      first : nat_lt 0 sizes.primary ≡ true
      first = grind (arith, nat_tests, some)

      -- the test at and above the primary size
      here : (x : ℕ) → separates strategy sizes hi (pos (sizes.primary + x)) ≡ (x % secondary_size sizes == 0)
      here x =
          let order : sizes.primary + x - sizes.primary ≡ x = omega arith in
          let reached : nat_le sizes.primary (sizes.primary + x) ≡ true = grind (arith, nat_tests) in
          (λ i. grouped i && (first i && (reached i && (order i % secondary_size sizes == 0))))

      below : (m : ℕ) → m < sizes.primary → separates strategy sizes hi (pos m) ≡ false
      below m h =
          let short : nat_le sizes.primary m ≡ false = grind (arith, nat_tests, h) in
          (λ i. grouped i && (first i && (short i && ((m - sizes.primary) % secondary_size sizes == 0))))

      next : (n : ℕ) → separators_below strategy sizes hi (n + 1)
          ≡ separators_below strategy sizes hi n + (if separates strategy sizes hi (pos n) then 1 else 0)
      next n = let e : n + 1 ≡ suc n = omega arith in ap (separators_below strategy sizes hi) e ∙ separators_below-suc n

      go : (x : ℕ) → separators_below strategy sizes hi (sizes.primary + x + 1) ≡ x / secondary_size sizes + 1
      go zero =
          let start : sizes.primary + zero ≡ sizes.primary = omega arith in
          let none : separators_below strategy sizes hi (sizes.primary + zero) ≡ 0 =
          ap (separators_below strategy sizes hi) start ∙ none_below sizes.primary below in
          let test : (zero % secondary_size sizes == 0) ≡ true = ap (λ y. y == 0) (zero-mod (secondary_size sizes)) in
          next (sizes.primary + zero)
          ∙ (λ i. none i + (if (here zero ∙ test) i then 1 else 0))
          ∙ ap (λ y. y + 1) (sym (zero-div (secondary_size sizes)))
      go (suc x) =
          let order : sizes.primary + suc x ≡ sizes.primary + x + 1 = omega arith in
          let step : suc x ≡ x + 1 = omega arith in
          next (sizes.primary + suc x)
          ∙ (λ i. (ap (separators_below strategy sizes hi) order ∙ go x) i + (if here (suc x) i then 1 else 0))
          ∙ ap (λ y. x / secondary_size sizes + 1 + (if y % secondary_size sizes == 0 then 1 else 0)) step
          ∙ (let e : x / secondary_size sizes + 1 + (if (x + 1) % secondary_size sizes == 0 then 1 else 0)
          ≡ (x + 1) / secondary_size sizes + 1 = search (rules, arith, div-add_one, secondary_some) in e)
          ∙ ap (λ y. y / secondary_size sizes + 1) (sym step)
