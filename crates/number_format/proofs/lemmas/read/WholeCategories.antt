-- The plural category of the number that compact notation divides.
use Rattle.std.proofs.{Common.{◌≡◌, ℕ, ◌+◌, ◌*◌, ◌/◌, ◌%◌, ◌^◌, ◌<◌, ◌==◌, ◌&&◌, Bool, true, false, List, inl, inr, refl, sym, ◌∙◌, ap, subst, arith, mod-eq_of_lt}, Math.Nat.{div-lt_iff_lt-mul}, lemmas.{Bool.{cases_lt, Decides.nat_tests}, Int.{ints, clamps}}}
use Rattle.std.specs.{Prelude.{◌⊎◌, Option, Some, None, IsSomeAnd, option_and_then, if◌then◌else◌, not, ℤ, pos, unsigned_abs, ◌+ℤ◌, ◌-ℤ◌, ◌≤ℤ◌, int_lt, find}, Int.{int_max, int_min}, List.{list_any, list_all}, Option.option_map_or}
use Rattle.decimal_digits.specs.Number.{first, last, weight, offset, number_limit, lowest_magnitude}
use Rattle.decimal_unsigned.specs.{Unsigned.{Unsigned, IsValue}}
use Rattle.fixed_decimal.specs.Decimal.{Decimal}
use Rattle.fixed_decimal.proofs.Calling.{below_limit, first_le, ten_pos, powers}
use Rattle.plural_rules.specs.{Operands.{Operands, plain}, Rules.{RelationValue, RuleValue, by_modulus, category_of, in_range, is_integer, operand_value}, RulesGrammar.Grammar, declared.rules.{Operand.{Operand, TheVariants.{N, I, V, W, F, T, C}}, PluralCategory.{PluralCategory, TheVariants.Other}}}
use Rattle.plural_rules.specs.Operands as of
use Rattle.locale_data.specs.{Plurals.{HoldsAlone, IsCategoryAt, rules_text_at}, declared.plurals.PluralRulesId.PluralRulesId}
use Rattle.locale_data.proofs.lemmas.tables.HeldAlone.{held_is_number}
use Rattle.number_format.specs.{declared.{digits.options.{DigitOptions.DigitOptions, TrailingZeros.{TrailingZeros, TheVariants.{Auto, StripIfInteger}}}, notation.Notation.{Notation, TheVariants.Standard}}, CompactReading.lone_number, Scaled.{HasNoIncrement, ScaledValue, Settled, base_exponent, exponent_at, exponent_from_0, raised, scaled, scaled_value, settled, settled_with, whole_exponent, written}, ShownDigits.{Rounded, padded, rounded_at, rounded_whole, rounded_within, shown, shown_whole, stripped}}
use Rattle.number_format.proofs.lemmas.{digits.{Applied.{stripped_number}, Roundings.order}, notation.Scales.{exponent_low, once_or_twice, settles, within_or_none}, read.ShownValues.{chosen, whole_is_value}}

-- ---- Leading zeros.

-- they do not change the operands
module _ (v : Unsigned) (hi : ℤ) where
  abbrev wide : Unsigned
  wide = record v { hi = hi }

  same_operand : (o : Operand) → operand_value (plain wide) o ≡ operand_value (plain v) o
  same_operand N = refl
  same_operand I = refl
  same_operand V = refl
  same_operand W = refl
  same_operand F = refl
  same_operand T = refl
  same_operand C = refl

  same_integer : (o : Operand) → is_integer (plain wide) o ≡ is_integer (plain v) o
  same_integer N = refl
  same_integer I = refl
  same_integer V = refl
  same_integer W = refl
  same_integer F = refl
  same_integer T = refl
  same_integer C = refl

  same_rules : ◌≡◌ {A = List RuleValue → PluralCategory} (λ rules. category_of rules (plain wide))
      (λ rules. category_of rules (plain v))
  same_rules = λ i rules. option_map_or (λ (r : RuleValue). r.category)
      (find (λ (r : RuleValue). list_any (list_all (λ (x : RelationValue).
      let equals = same_integer x.operand i
      && list_any (in_range (by_modulus x.modulus (same_operand x.operand i))) x.ranges in
      if x.is_equal then equals else not equals)) r.alternatives) rules) Other

  -- nor the category
  same_category : (id : PluralRulesId) (c : PluralCategory) → IsCategoryAt id (plain wide) c
      → IsCategoryAt id (plain v) c
  same_category id c is =
      subst (λ (by : List RuleValue → PluralCategory). IsSomeAnd (rules_text_at id)
      (λ text. (rules : List RuleValue) × Grammar text rules × (c ≡ by rules))) same_rules is

stripped_wide : (zeros : TrailingZeros) (v : Unsigned) (hi : ℤ)
    → stripped zeros (record v { hi = hi }) ≡ record (stripped zeros v) { hi = hi }
stripped_wide Auto v hi = refl
stripped_wide StripIfInteger v hi = go (int_lt (last v.number) (pos 0))
  where
    go : (b : Bool) → (if b then record v { hi = hi } else record v { hi = hi; lo = pos 0 })
        ≡ record (if b then v else record v { lo = pos 0 }) { hi = hi }
    go true = refl
    go false = refl

whole_number_is : (o : DigitOptions) (r : ℕ) (end : ℤ) → (shown_whole o r end).number ≡ r
whole_number_is o r end =
    stripped_number o.trailing_zeros (record {
      number = r;
      hi = int_max (pos 0) (first r);
      lo = int_min (int_min (int_max end lowest_magnitude) (pos 0)) (last r);
    })

-- all digits of a rounded number are those that are shown, but for leading zeros
whole_is_shown : (o : DigitOptions) (r : ℕ) (end : ℤ) → o.integer.max ≡ 32768 → r < number_limit
    → shown_whole o r end ≡ record (shown o r end) { hi = int_max (pos 0) (first r) }
whole_is_shown o r end all few =
    let number : (padded o r end).number ≡ r = ap (λ m. r % weight (pos m)) all ∙ mod-eq_of_lt few in
    sym (λ i. stripped o.trailing_zeros (record {
      number = number i;
      hi = int_max (pos 0) (first r);
      lo = int_min (int_min (int_max end lowest_magnitude) (pos 0)) (last (number i));
    }))
    ∙ stripped_wide o.trailing_zeros (padded o r end) (int_max (pos 0) (first r))

-- ---- The number before the division.

exponent_high : (n : Notation) (m : ℤ) → 0 < exponent_from_0 n m → pos 1 ≤ℤ m
exponent_high n m more = elim (order m (pos 1)) [
  | inl low ↦ absurd (omega (arith, more, exponent_low n m (omega (arith, ints, low))))
  | inr high ↦ high
]

module _ (n : Notation) (o : DigitOptions) (all : o.integer.max ≡ 32768) (none : HasNoIncrement o.precision)
    (w : Decimal) (valid : IsValue w.absolute) (s : Settled)
    (is : settled n o w.sign w.absolute.number ≡ Some s) where
  abbrev m : ℕ
  m = w.absolute.number

  few : m < number_limit
  few = below_limit w.absolute (pos 0) valid

  abbrev whole : Option Rounded → Unsigned
  whole r = option_map_or (λ (r : Rounded). shown_whole o r.number r.last_shown) r w.absolute

  abbrev own : ℕ
  own = whole_exponent n m

  -- the first of the two roundings
  abbrev once : Rounded
  once = rounded_at o w.sign own m

  within_is : rounded_within o w.sign own m ≡ Some once
  within_is = elim (within_or_none n o w.sign m s own m) [
    | inl beyond ↦ absurd (let e = is in grind (arith, e, beyond))
    | inr within ↦ within.0
  ]

  -- without a power of ten it is that of the whole number
  undivided_is : own ≡ 0 → whole (rounded_within o w.sign 0 m) ≡ shown_whole o once.number once.last_shown
  undivided_is nothing =
      ap (λ e. whole (rounded_within o w.sign e m)) (sym nothing) ∙ ap whole within_is

  -- what is not divided has the category of what is shown
  pub undivided : s.exponent ≡ 0 → (id : PluralRulesId) (c : PluralCategory)
      → IsCategoryAt id (plain (rounded_whole o w)) c
      → IsCategoryAt id (plain (shown o (s.number / 10 ^ s.exponent) s.last_shown)) c
  undivided nothing id c of_whole = elim (once_or_twice n o w.sign m s is).2 [
    | inr twice ↦ absurd (omega (arith, nothing, ap (λ (x : Settled). x.exponent) twice.0, twice.1))
    | inl first_time ↦
        let number = ap (λ (x : Settled). x.number) first_time.0 in
        let end = ap (λ (x : Settled). x.last_shown) first_time.0 in
        let own_zero : own ≡ 0 = sym (ap (λ (x : Settled). x.exponent) first_time.0) ∙ nothing in
        let same : s.number / 10 ^ 0 ≡ s.number = grind arith in
        let divided : s.number / 10 ^ s.exponent ≡ once.number = ap (λ e. s.number / 10 ^ e) nothing ∙ same ∙ number in
        let less = (once_or_twice n o w.sign m s is).0 in
        let wide = undivided_is own_zero ∙ whole_is_shown o once.number once.last_shown all less in
        subst (λ a. IsCategoryAt id (plain a) c) (λ i. shown o (sym divided i) (sym end i))
        (same_category (shown o once.number once.last_shown) (int_max (pos 0) (first once.number)) id c
        (subst (λ a. IsCategoryAt id (plain a) c) wide of_whole))
  ]

  -- a number that is divided is 10 or more
  kept_high : (r : Option Rounded) → rounded_within o w.sign 0 m ≡ r → pos 1 ≤ℤ first m
      → pos 1 ≤ℤ first (whole r).number
  kept_high None e high = high
  kept_high (Some r) e high =
      let standard : settled Standard o w.sign m ≡ Some (settled_with 0 r) =
      ap (option_and_then (λ r. Some (settled_with 0 r))) e in
      let law = settles Standard o w.sign m none tt few (settled_with 0 r) standard (first m) refl in
      let same = ap first (whole_number_is o r.number r.last_shown) in
      omega (arith, ints, high, law.least (omega (arith, ints, high)), same)

  divided_high : 0 < s.exponent → pos 1 ≤ℤ first (rounded_whole o w).number
  divided_high more = elim (cases_lt 0 own) [
    | inl some ↦ kept_high (rounded_within o w.sign 0 m) refl (exponent_high n (first m) some)
    | inr least ↦
        let nothing : own ≡ 0 = omega (arith, least) in
        elim (once_or_twice n o w.sign m s is).2 [
          | inl first_time ↦ absurd (omega (arith, more, nothing, ap (λ (x : Settled). x.exponent) first_time.0))
          | inr twice ↦
              let moved = int_min (first m +ℤ pos 1) (first once.number) in
              let high = exponent_high n moved (omega (arith, twice.1)) in
              let number = ap (λ (x : Unsigned). first x.number) (undivided_is nothing)
              ∙ ap first (whole_number_is o once.number once.last_shown) in
              omega (arith, ints, clamps, high, number)
        ]
  ]

  whole_value : IsValue (rounded_whole o w)
  whole_value = go (rounded_within o w.sign 0 m) (within_or_none n o w.sign m s 0 m)
    where
      go : (r : Option Rounded)
          → (r ≡ None) ⊎ ((r ≡ Some (rounded_at o w.sign 0 m)) × ((rounded_at o w.sign 0 m).number < number_limit))
          → IsValue (whole r)
      go r (inl beyond) = subst (λ x. IsValue (whole x)) (sym beyond) valid
      go r (inr within) =
          let x = rounded_at o w.sign 0 m in
          subst (λ x. IsValue (whole x)) (sym within.0) (whole_is_value o x.number x.last_shown within.1)

  -- so it is neither 1 nor 2
  not_small : 0 < s.exponent → (k : ℕ) → k < 10
      → (of.i (rounded_whole o w) == k && of.w (rounded_whole o w) == 0) ≡ true → ⊥
  not_small more k small number =
      let v = rounded_whole o w in
      let i : v.number / weight (pos 0) < 10 = grind (arith, nat_tests, number) in
      let less = (div-lt_iff_lt-mul (ten_pos (offset (pos 0)))).0 i in
      let up = powers (offset (pos 0)) 1 (offset (pos 0) + 1) refl in
      let low = first_le v.number (pos 0) (omega (arith, less, up)) (omega (arith, ints)) (omega (arith, ints)) in
      omega (arith, ints, low, divided_high more)

  pub not_alone : 0 < s.exponent → (id : PluralRulesId) (c : PluralCategory)
      → IsCategoryAt id (plain (rounded_whole o w)) c → ¬ IsSomeAnd (lone_number c) (HoldsAlone id c)
  not_alone more id PluralCategory.One is alone =
      not_small more 1 (omega arith) (held_is_number (rounded_whole o w) whole_value 1 id PluralCategory.One alone is)
  not_alone more id PluralCategory.Two is alone =
      not_small more 2 (omega arith) (held_is_number (rounded_whole o w) whole_value 2 id PluralCategory.Two alone is)
  not_alone more id PluralCategory.Zero is alone = alone
  not_alone more id PluralCategory.Few is alone = alone
  not_alone more id PluralCategory.Many is alone = alone
  not_alone more id PluralCategory.Other is alone = alone

-- ---- The number that is shown.

-- the category that a whole number has beside what is shown of it
abbrev pub IsBeside : PluralRulesId → ScaledValue → PluralCategory → Type 0
IsBeside id x c =
    ((x.exponent ≡ pos 0) × IsCategoryAt id (plain x.significand.absolute) c)
    ⊎ ((pos 1 ≤ℤ x.exponent) × ¬ IsSomeAnd (lone_number c) (HoldsAlone id c))

pub whole_category : (n : Notation) → ((m : ℤ) → pos 0 ≤ℤ exponent_at n m) → (o : DigitOptions)
    → o.integer.max ≡ 32768 → HasNoIncrement o.precision → (w : Decimal) → IsValue w.absolute → (x : ScaledValue)
    → scaled n o w ≡ Some x → (id : PluralRulesId) (c : PluralCategory)
    → IsCategoryAt id (plain (rounded_whole o w)) c → IsBeside id x c
whole_category n low o all none w valid x e id c of_whole =
    go (settled n o w.sign (raised n w.absolute.number)) refl e
  where
    base : base_exponent n w.absolute.number ≡ pos 0
    base = omega (arith, ints, clamps, low (first w.absolute.number))

    raised_is : raised n w.absolute.number ≡ w.absolute.number
    raised_is = ap (λ z. w.absolute.number * 10 ^ unsigned_abs z) base
        ∙ (let same : w.absolute.number * 10 ^ 0 ≡ w.absolute.number = omega arith in same)

    by : (s : Settled) → settled n o w.sign w.absolute.number ≡ Some s → (x : ScaledValue)
        → x.significand.absolute ≡ shown o (s.number / 10 ^ s.exponent) s.last_shown → x.exponent ≡ pos s.exponent
        → IsBeside id x c
    by s is x shown_is exponent = elim (cases_lt 0 s.exponent) [
      | inl more ↦ inr (omega (arith, ints, exponent, more), not_alone n o all none w valid s is more id c of_whole)
      | inr least ↦
          let nothing : s.exponent ≡ 0 = omega (arith, least) in
          inl (
            exponent ∙ ap pos nothing,
            subst (λ a. IsCategoryAt id (plain a) c) (sym shown_is)
                (undivided n o all none w valid s is nothing id c of_whole),
          )
    ]

    go : (t : Option Settled) → settled n o w.sign (raised n w.absolute.number) ≡ t
        → option_and_then (written o w.sign (base_exponent n w.absolute.number)) t ≡ Some x → IsBeside id x c
    go None is e = absurd (cc)
    go (Some s) is e =
        let same = chosen (int_lt (last s.number -ℤ pos s.exponent) lowest_magnitude) (scaled_value (record {
          sign = w.sign;
          absolute = shown o (s.number / 10 ^ s.exponent) s.last_shown;
        }) (base_exponent n w.absolute.number +ℤ pos s.exponent)) x e in
        by s (ap (settled n o w.sign) (sym raised_is) ∙ is) x
        (sym (ap (λ (y : ScaledValue). y.significand.absolute) same))
        (sym (ap (λ (y : ScaledValue). y.exponent) same) ∙ ap (λ z. z +ℤ pos s.exponent) base
        ∙ omega (arith, ints))
