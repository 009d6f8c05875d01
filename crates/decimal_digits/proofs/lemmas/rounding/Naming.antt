-- The remainder forms give the multiples that the modes name among all, and a mode names one alone.
use Rattle.std.proofs.{Common.{ℕ, ◌≡◌, ◌+◌, ◌*◌, ◌/◌, ◌%◌, ◌<◌, ◌≤◌, ◌⊎◌, ◌==◌, true, inl, inr, sym, ◌∙◌, ap, subst, arith, ℤ, pos, negsuc, ◌≤ℤ◌, rules, nat_lt, ◌*ℤ◌}, Math.Nat.{mul-le-mul_right, div-add-mod', mod-lt}, lemmas.{Bool.Decides.nat_tests, Bool.{cases_lt, cases_eq, cases_order, cond_both, ltb-true, ltb-false, eqb-true, eqb-false}, Grind.common_steps, Int.{clamps, ints}}}
use Rattle.decimal_digits.specs.{Rounding.{Chooses, Named, distance, IsNearest, AllTies, below, above, rounded_number}, declared.rounding.UnsignedRoundingMode.UnsignedRoundingMode, declared.rounding.UnsignedRoundingMode.TheVariants.{Expand, Trunc, HalfExpand, HalfTrunc, HalfEven}}

-- multiples of u are at least u apart
apart : (u q : ℕ) (k : ℤ) → ((k *ℤ pos u) ≤ℤ pos (q * u)) ⊎ (pos (q * u + u) ≤ℤ (k *ℤ pos u))
apart u q (pos k) = search (rules, arith, ints, clamps, nat_tests, cases_lt, mul-le-mul_right)
apart u q (negsuc k) = inl (omega (arith, ints))

-- ---- q units and r over
module _ (u q r : ℕ) (l : r < u) where
  trunc_below : Chooses Trunc u (q * u + r) q
  trunc_below = (omega (arith, ints), λ k h. elim (apart u q k) [ inl a ↦ a | inr a ↦ absurd (omega (arith, ints)) ])

  expand_above : 0 < r → Chooses Expand u (q * u + r) (q + 1)
  expand_above p = grind (arith, ints, clamps, nat_tests, common_steps, apart)

  -- the nearest multiple is at most half a unit away
  near_below : 2 * r ≤ u → IsNearest u (pos (q * u + r)) (pos (q * u))
  near_below h k = elim (apart u q k) [ inl a ↦ omega (arith, ints) | inr a ↦ omega (arith, ints) ]

  near_above : u ≤ 2 * r → IsNearest u (pos (q * u + r)) (pos ((q + 1) * u))
  near_above h k = elim (apart u q k) [ inl a ↦ omega (arith, ints) | inr a ↦ omega (arith, ints) ]

  -- of the nearest multiples the one below is the least and the one above the greatest
  least_near : 2 * r ≤ u → AllTies u (pos (q * u + r)) (pos (q * u)) (λ other. pos (q * u) ≤ℤ other)
  least_near h k e = elim (apart u q k) [ inl a ↦ omega (arith, ints) | inr a ↦ omega (arith, ints) ]

  greatest_near : u ≤ 2 * r
      → AllTies u (pos (q * u + r)) (pos ((q + 1) * u)) (λ other. other ≤ℤ pos ((q + 1) * u))
  greatest_near h k e = elim (apart u (q + 1) k) [ inl a ↦ a | inr a ↦ absurd (omega (arith, ints)) ]

  -- and unless it is half a unit away there is no other nearest multiple
  one_below : 2 * r < u → AllTies u (pos (q * u + r)) (pos (q * u)) (λ other. other ≡ pos (q * u))
  one_below h k e = elim (apart u q k) [ inl a ↦ omega (arith, ints) | inr a ↦ absurd (omega (arith, ints)) ]

  one_above : u < 2 * r → AllTies u (pos (q * u + r)) (pos ((q + 1) * u)) (λ other. other ≡ pos ((q + 1) * u))
  one_above h k e = elim (apart u q k) [ inl a ↦ absurd (omega (arith, ints)) | inr a ↦ omega (arith, ints) ]

-- ---- the remainder forms
module _ (mode : UnsignedRoundingMode) (u n : ℕ) where
  named_below : Chooses mode u (n / u * u + n % u) (n / u) → Named mode u n (below u n)
  named_below c = (n / u, omega (arith, div-add-mod' n u), subst (λ v. Chooses mode u v (n / u)) (div-add-mod' n u) c)

  named_above : 0 < n % u → Chooses mode u (n / u * u + n % u) (n / u + 1) → Named mode u n (above u n)
  named_above p c = grind (arith, div-add-mod')

expand_named : (u n : ℕ) → n % u < u → Named Expand u n (above u n)
expand_named u n l = elim (cases_eq (n % u) 0) [
  | inl z ↦
      let e : (n % u == 0) ≡ true = grind (arith, nat_tests) in
      let whole : n ≡ n / u * u = omega (arith, div-add-mod' n u) in
      (n / u, rw e whole, (omega (arith, ints), λ k h. omega (arith, ints)))
  | inr z ↦ named_above Expand u n (omega arith) (expand_above u (n / u) (n % u) l (omega arith))
]

-- the remainder form is a number that the mode names
pub rounded_number_is_named : (mode : UnsignedRoundingMode) (u n : ℕ) → 0 < u → Named mode u n (rounded_number mode u n)
unfolding rounded_number
rounded_number_is_named Trunc u n p = named_below Trunc u n (trunc_below u (n / u) (n % u) (mod-lt n p))
rounded_number_is_named Expand u n p = expand_named u n (mod-lt n p)
rounded_number_is_named HalfExpand u n p =
    let q = n / u in let r = n % u in let l = mod-lt n p in
    cond_both (nat_lt (2 * r) u) (below u n) (above u n) (Named HalfExpand u n)
    (λ t.
    let h = ltb-true _ _ t in
    named_below HalfExpand u n
    (near_below u q r l (omega arith), λ k e. omega (arith, ints, one_below u q r l h k e)))
    (λ t.
    let h = ltb-false _ _ t in
    named_above HalfExpand u n (omega arith) (near_above u q r l h, greatest_near u q r l h))
rounded_number_is_named HalfTrunc u n p =
    let q = n / u in let r = n % u in let l = mod-lt n p in
    cond_both (nat_lt u (2 * r)) (above u n) (below u n) (Named HalfTrunc u n)
    (λ t.
    let h = ltb-true _ _ t in
    named_above HalfTrunc u n (omega arith)
    (near_above u q r l (omega arith), λ k e. omega (arith, ints, one_above u q r l h k e)))
    (λ t. let h = ltb-false _ _ t in named_below HalfTrunc u n (near_below u q r l h, least_near u q r l h))
rounded_number_is_named HalfEven u n p =
    let q = n / u in let r = n % u in let l = mod-lt n p in
    cond_both (nat_lt (2 * r) u) (below u n) _ (Named HalfEven u n)
    (λ t.
    let h = ltb-true _ _ t in
    named_below HalfEven u n
    (near_below u q r l (omega arith), λ k e other. absurd (other (one_below u q r l h k e))))
    (λ t. let h = ltb-false _ _ t in
    cond_both (nat_lt u (2 * r)) (above u n) _ (Named HalfEven u n)
    (λ s.
    let g = ltb-true _ _ s in
    named_above HalfEven u n (omega arith)
    (near_above u q r l h, λ k e other. absurd (other (one_above u q r l g k e))))
    (λ s. let g = ltb-false _ _ s in
    cond_both (q % 2 == 0) (below u n) (above u n) (Named HalfEven u n)
    (λ even. named_below HalfEven u n (near_below u q r l g, λ k e other. eqb-true _ _ even))
    (λ odd.
    let o = eqb-false _ _ odd in
    named_above HalfEven u n (omega arith) (near_above u q r l h, λ k e other. omega arith))))

-- ---- a mode names one number
-- of two even multiples at the same distance the one between them is nearer
no_middle : (u n q k : ℕ) → 0 < u → q % 2 ≡ 0 → k % 2 ≡ 0 → q < k
    → IsNearest u (pos n) (pos (q * u)) → distance (pos n) (pos (q * u)) ≡ distance (pos n) (pos (k * u))
    → ⊥
no_middle u n q k p even even' lt near same =
    let far : (q + 2) * u ≤ k * u = mul-le-mul_right u (let two : q + 2 ≤ k = omega arith in two) in
    omega (arith, ints, near (pos (q + 1)))

same_even : (u n q k : ℕ) → 0 < u → Chooses HalfEven u n q → Chooses HalfEven u n k → q * u ≡ k * u
same_even u n q k p (near, even) (near', even') =
    let same : distance (pos n) (pos (k * u)) ≡ distance (pos n) (pos (q * u)) =
    omega (arith, ints, near (pos k), near' (pos q)) in
    elim (cases_eq (k * u) (q * u)) [
      | inl e ↦ sym e
      | inr ne ↦ elim (cases_order q k) [
        | inl e ↦ ap (λ v. v * u) e
        | inr o ↦ elim o [
          | inl lt ↦
              absurd (no_middle u n q k p (even (pos k) same (λ e. ne (cc)))
              (even' (pos q) (sym same) (λ e. ne (cc))) lt near (sym same))
          | inr gt ↦
              absurd (no_middle u n k q p (even' (pos q) (sym same) (λ e. ne (cc)))
              (even (pos k) same (λ e. ne (cc))) gt near' same)
        ]
      ]
    ]

same_chosen : (mode : UnsignedRoundingMode) (u n q k : ℕ) → 0 < u → Chooses mode u n q → Chooses mode u n k
    → q * u ≡ k * u
same_chosen Trunc u n q k p (a, b) (a', b') = omega (arith, ints, b (pos k) a', b' (pos q) a)
same_chosen Expand u n q k p (a, b) (a', b') = omega (arith, ints, b (pos k) a', b' (pos q) a)
same_chosen HalfEven u n q k p c d = same_even u n q k p c d
same_chosen mode u n q k p (near, tie) (near', tie') =
    let same : distance (pos n) (pos (k * u)) ≡ distance (pos n) (pos (q * u)) =
    omega (arith, ints, near (pos k), near' (pos q)) in
    omega (arith, ints, tie (pos k) same, tie' (pos q) (sym same))

-- whatever a mode names is the remainder form
pub named_is : (mode : UnsignedRoundingMode) (u n m : ℕ) → 0 < u → Named mode u n m → m ≡ rounded_number mode u n
named_is mode u n m p (q, e, c) =
    let (k, f, d) = rounded_number_is_named mode u n p in e ∙ same_chosen mode u n q k p c d ∙ sym f
