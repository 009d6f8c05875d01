-- Laws of rounding, on numbers alone.
use Rattle.std.proofs.{Common.{ℕ, ◌≡◌, ◌*◌, ◌<◌, ◌≤◌, inl, inr, refl, sym, ◌∙◌, ap, subst, arith, pos}, Math.Nat.{mul_assoc, zero-mul}, lemmas.{Bool.cases_eq, Int.ints}}
use Rattle.decimal_digits.proofs.lemmas.rounding.Naming.{rounded_number_is_named, named_is}
use Rattle.decimal_digits.specs.{Rounding.{Chooses, Named, rounded_number}, declared.rounding.UnsignedRoundingMode.UnsignedRoundingMode, declared.rounding.UnsignedRoundingMode.TheVariants.{Expand, Trunc, HalfExpand, HalfTrunc, HalfEven}}

-- ---- A multiple stays.
chooses_self : (mode : UnsignedRoundingMode) (u k : ℕ) → Chooses mode u (k * u) k
chooses_self Trunc u k = (omega (arith, ints), λ j h. h)
chooses_self Expand u k = (omega (arith, ints), λ j h. h)
chooses_self HalfExpand u k = (λ j. omega (arith, ints), λ j h. omega (arith, ints))
chooses_self HalfTrunc u k = (λ j. omega (arith, ints), λ j h. omega (arith, ints))
chooses_self HalfEven u k = (λ j. omega (arith, ints), λ j h other. absurd (other (omega (arith, ints))))

-- a multiple of the unit is rounded to itself
pub rounded_number-multiple : (mode : UnsignedRoundingMode) (u k : ℕ) → 0 < u → rounded_number mode u (k * u) ≡ k * u
rounded_number-multiple mode u k p = sym (named_is mode u (k * u) (k * u) p (k, refl, chooses_self mode u k))

-- 0 is rounded to 0
pub rounded_number-zero : (mode : UnsignedRoundingMode) (u : ℕ) → 0 < u → rounded_number mode u 0 ≡ 0
rounded_number-zero mode u p =
    subst (λ z. rounded_number mode u z ≡ z) (zero-mul u) (rounded_number-multiple mode u 0 p)

-- the same rounding again
pub rounded_number-idempotent : (mode : UnsignedRoundingMode) (u n : ℕ) → 0 < u
    → rounded_number mode u (rounded_number mode u n) ≡ rounded_number mode u n
rounded_number-idempotent mode u n p =
    let (q, e, c) = rounded_number_is_named mode u n p in
    ap (rounded_number mode u) e ∙ rounded_number-multiple mode u q p ∙ sym e

-- ---- Two units, of which one is a multiple of the other.
module _ (u t n : ℕ) (p : 0 < u) (pt : 0 < t * u) where
  -- the coarser unit after the finer one
  pub trunc-coarser : rounded_number Trunc (t * u) (rounded_number Trunc u n) ≡ rounded_number Trunc (t * u) n
  trunc-coarser =
      let (q, e, (low, great)) = rounded_number_is_named Trunc u n p in
      let (k, f, (low', great')) = rounded_number_is_named Trunc (t * u) n pt in
      let assoc = mul_assoc k t u in
      let fine = great (pos (k * t)) (omega (arith, ints)) in
      sym (named_is Trunc (t * u) (rounded_number Trunc u n) _ pt
      (k, f, (omega (arith, ints, e), λ j h. great' j (omega (arith, ints, e)))))

  -- the coarser unit after the finer one, away from zero
  pub expand-coarser : rounded_number Expand (t * u) (rounded_number Expand u n) ≡ rounded_number Expand (t * u) n
  expand-coarser =
      let (q, e, (high, least)) = rounded_number_is_named Expand u n p in
      let (k, f, (high', least')) = rounded_number_is_named Expand (t * u) n pt in
      let assoc = mul_assoc k t u in
      let fine = least (pos (k * t)) (omega (arith, ints)) in
      sym (named_is Expand (t * u) (rounded_number Expand u n) _ pt
      (k, f, (omega (arith, ints, e), λ j h. least' j (omega (arith, ints, e)))))

  -- the finer unit after the coarser one
  pub rounded_number-finer : (mode : UnsignedRoundingMode)
      → rounded_number mode u (rounded_number mode (t * u) n) ≡ rounded_number mode (t * u) n
  rounded_number-finer mode =
      let (k, f, c) = rounded_number_is_named mode (t * u) n pt in
      let e : rounded_number mode (t * u) n ≡ k * t * u = f ∙ sym (mul_assoc k t u) in
      ap (rounded_number mode u) e ∙ rounded_number-multiple mode u (k * t) p ∙ sym e

-- ---- Order.
-- the multiple below is at most the number
pub trunc_le : (u n : ℕ) → 0 < u → rounded_number Trunc u n ≤ n
trunc_le u n p = let (q, e, (low, great)) = rounded_number_is_named Trunc u n p in omega (arith, ints, e)

-- the multiple above is at least the number
pub le_expand : (u n : ℕ) → 0 < u → n ≤ rounded_number Expand u n
le_expand u n p = let (q, e, (high, least)) = rounded_number_is_named Expand u n p in omega (arith, ints, e)

monotone_named : (mode : UnsignedRoundingMode) (u n m a b : ℕ) → n < m → Named mode u n a → Named mode u m b → a ≤ b
monotone_named Trunc u n m a b l (q, e, (low, great)) (k, f, (low', great')) =
    omega (arith, ints, great' (pos q) (omega (arith, ints)))
monotone_named Expand u n m a b l (q, e, (high, least)) (k, f, (high', least')) =
    omega (arith, ints, least (pos k) (omega (arith, ints)))
monotone_named mode u n m a b l (q, e, (near, tie)) (k, f, (near', tie')) =
    omega (arith, ints, near (pos k), near' (pos q))

-- a greater number is rounded to no less
pub rounded_number-monotone : (mode : UnsignedRoundingMode) (u n m : ℕ) → 0 < u → n ≤ m
    → rounded_number mode u n ≤ rounded_number mode u m
rounded_number-monotone mode u n m p l = elim (cases_eq n m) [
  | inl e ↦ omega (arith, ap (rounded_number mode u) e)
  | inr ne ↦
      monotone_named mode u n m _ _ (omega arith) (rounded_number_is_named mode u n p)
      (rounded_number_is_named mode u m p)
]
