-- Laws of concatenation.
use Rattle.std.proofs.{Common.{◌≡◌, ℕ, ◌+◌, ◌-◌, ◌%◌, ◌<◌, ◌≤◌, false, nat_lt, ◌||◌, refl, ◌∙◌, ap, arith, inl, inr, ℤ, pos, ◌+ℤ◌, ◌-ℤ◌, ◌≤ℤ◌, rules}, lemmas.{Bool.Decides.nat_tests, Bool.cases_lt, Int.{ints, clamps}}}
use Rattle.std.specs.Int.{int_max, int_min}
use Rattle.decimal_digits.proofs.lemmas.{digits.Rules.steps, ops.Offsets.offset_is}
use Rattle.decimal_digits.specs.Number.{offset, weight, first, last}
use Rattle.decimal_unsigned.proofs.lemmas.{decimal.FirstLast.{Extent, extent, first_of, last_of, first_sum, last_sum, first_le, parts_sum, parts_apart}, shift.Concatenations.{zero_overlaps, overlaps_zero, disjoint, not_overlapping}}
use Rattle.decimal_unsigned.specs.{Concatenation.{overlaps, concatenated_end}, ConcatenationLaws.ConcatenationIsAssociative, Edits.with_max_position, Unsigned.{Unsigned, IsValue}}

-- a value other than 0 has a first and a last digit
pub extent_of : (v : Unsigned) → IsValue v → 0 < v.number → Extent v.number
extent_of v h p = extent (offset v.hi + 1) v.number p h.below (omega (arith, ints, offset_is v.hi, h.hi_in))

module _ (u v : Unsigned) (p : IsValue u) (q : IsValue v) (f : overlaps u v ≡ false) where
  apart_at : (m : 0 < u.number) (n : 0 < v.number) → (extent_of v q n).top < (extent_of u p m).bottom
  apart_at m n =
      let a = disjoint u v m n f in
      let b = last_of (extent_of u p m) in
      let t = first_of (extent_of v q n) in
      omega (arith, ints, a, b, t)

  last_joined : 0 < v.number → last (u.number + v.number) ≡ last v.number
  last_joined n = elim (cases_lt 0 u.number) [
    | inl m ↦ last_sum (extent_of u p m) (extent_of v q n) (apart_at m n)
    | inr m ↦ ap last (let e : u.number + v.number ≡ v.number = omega arith in e)
  ]

  first_joined : 0 < u.number → first (u.number + v.number) ≡ first u.number
  first_joined m = elim (cases_lt 0 v.number) [
    | inl n ↦ first_sum (extent_of u p m) (extent_of v q n) (apart_at m n)
    | inr n ↦ ap first (let e : u.number + v.number ≡ u.number = omega arith in e)
  ]

some_in_sum : (m n : ℕ) → 0 < m → nat_lt 0 (m + n) ≡ nat_lt 0 m
some_in_sum m n h = grind (arith, nat_tests)

more_in_sum : (m n : ℕ) → 0 < n → nat_lt 0 (m + n) ≡ nat_lt 0 n
more_in_sum m n h = grind (arith, nat_tests)

-- a concatenation has the last digit of its second value, so it overlaps a further value exactly if that does
front_absorbed : (u v w : Unsigned) → IsValue u → IsValue v → 0 < v.number → overlaps u v ≡ false
    → overlaps (concatenated_end u v) w ≡ overlaps v w
unfolding overlaps
front_absorbed u v w p q n f = rw (more_in_sum u.number v.number n, last_joined u v p q f n) refl

-- and the first digit of its first value
back_absorbed : (u v w : Unsigned) → IsValue v → IsValue w → 0 < v.number → overlaps v w ≡ false
    → overlaps u (concatenated_end v w) ≡ overlaps u v
unfolding overlaps
back_absorbed u v w p q n f = rw (some_in_sum v.number w.number n, first_joined v w p q f n) refl

module _ (u v w : Unsigned) (p : IsValue u) (q : IsValue v) (r : IsValue w) where
  overlaps_associative : (overlaps u v || overlaps (concatenated_end u v) w)
      ≡ (overlaps v w || overlaps u (concatenated_end v w))
  unfolding overlaps
  overlaps_associative =
      search (rules, arith, ints, clamps, nat_tests, overlaps_zero, zero_overlaps, back_absorbed, front_absorbed)

  concatenated_end-assoc : concatenated_end (concatenated_end u v) w ≡ concatenated_end u (concatenated_end v w)
  concatenated_end-assoc = grind (arith, ints, clamps)

  -- concatenation of three values is associative
  pub concatenation_is_associative : ConcatenationIsAssociative u v w
  concatenation_is_associative = grind (arith, overlaps_associative, concatenated_end-assoc)

-- ---- the part at and above a position, and the part below it
module _ (v t : Unsigned) (p : ℤ) (valid : IsValue v) (e : t.number ≡ v.number - v.number % weight p) where
  high : offset v.hi + 1 ≤ 65536
  high = omega (arith, ints, offset_is v.hi, valid.hi_in)

  -- the two parts do not overlap
  pub parts_join : overlaps t (with_max_position v p) ≡ false
  parts_join = search (rules, arith, not_overlapping, with_max_position, parts_apart, offset, high)

  -- together they have the number
  pub parts_number : (concatenated_end t (with_max_position v p)).number ≡ v.number
  parts_number = ap (λ n. n + v.number % weight p) e ∙ parts_sum v.number (offset p) (offset v.hi + 1) valid.below high

  -- and their ranges, if the position is in the range or at one of its ends
  pub parts_value : t.hi ≡ int_max (int_max v.hi (p -ℤ pos 1)) (first t.number) → t.lo ≡ int_min p (pos 0)
      → v.lo ≤ℤ p → p ≤ℤ (v.hi +ℤ pos 1)
      → concatenated_end t (with_max_position v p) ≡ v
  parts_value hi lo above below =
      let f : first t.number ≤ℤ v.hi = grind (arith, first_le) in
      grind (steps, parts_number)
