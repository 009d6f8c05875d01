-- Laws of trims, and of the parts of a value at a position.
use Rattle.std.proofs.{Common.{◌≡◌, ℕ, ◌-◌, ◌*◌, ◌%◌, ◌<◌, ◌≤◌, length, sym, ◌∙◌, ap, subst, arith, inl, inr, None, ℤ, pos, ◌≤ℤ◌, rules}, Math.Nat.pow-le-pow_right, lemmas.{Bool.cases_lt, Int.{ints, clamps}, Option.none-some}}
use Rattle.std.specs.{Int.{int_max, int_min}, Option.unwrap_or}
use Rattle.decimal_digits.proofs.lemmas.{digits.Rules.steps, ops.Offsets.{offset_is, gap_is}, rounding.Ends.{no_more_zeros, last_zero}}
use Rattle.decimal_digits.specs.{Number.{offset, weight, first, last, number_limit}, Rounding.{unit_at, rounded_number}, declared.rounding.RoundingIncrement.RoundingIncrement, declared.rounding.RoundingIncrement.TheVariants.MultiplesOf1, declared.rounding.UnsignedRoundingMode.TheVariants.Trunc}
use Rattle.decimal_unsigned.proofs.lemmas.{decimal.FirstLast.{last_of, first_le}, laws.ConcatenationLaws.{extent_of, parts_join, parts_number, parts_value}, shift.Roundings.trunc_makes, text.Lengths.{length-text_whole, length-text_dotted}}
use Rattle.decimal_unsigned.specs.{Edits.{with_max_position, trimmed_start, trimmed_end}, Rounded.{rounded, with_number, rounding}, Text.text, Unsigned.{Unsigned, IsValue, IsLeastHi, IsGreatestLo}, ValueLaws.{trunced, SplitsAt, trimmed, TrimmedIsNormalForm, IsShortest}}

-- ---- Trims.

-- the value after both trims, by the number alone
bare : ℕ → Unsigned
bare n = record { number = n; hi = int_max (first n) (pos 0); lo = int_min (last n) (pos 0) }

-- equal numbers are equal after both trims, and the other way round
pub trimmed_is_normal_form : (v w : Unsigned) → TrimmedIsNormalForm v w
unfolding bare
trimmed_is_normal_form v w = (λ e. ap bare e, λ e. ap (λ (x : Unsigned). x.number) e)

module _ (w : Unsigned) (valid : IsValue w) where
  -- a value shows its first digit and its last one
  first_in : first w.number ≤ℤ w.hi
  first_in = first_le w.number w.hi valid.below valid.hi_in.0 valid.hi_in.1

  last_in : w.lo ≤ℤ last w.number
  last_in = elim (cases_lt 0 w.number) [
    | inl some ↦
        let e = extent_of w valid some in
        elim (cases_lt e.bottom (offset w.lo)) [
          | inl h ↦ grind (arith, ints, clamps, no_more_zeros)
          | inr h ↦ omega (arith, ints, last_of e, h, offset_is w.lo, valid.lo_in)
        ]
    | inr none ↦ grind (arith, ints, clamps, last_zero)
  ]

-- trimming leading zeros makes the greatest magnitude the least possible
pub least_hi : (v : Unsigned) → IsLeastHi (trimmed_start v)
least_hi v w valid e = grind (steps, first_in)

-- trimming trailing zeros makes the least magnitude the greatest possible
pub greatest_lo : (v : Unsigned) → IsGreatestLo (trimmed_end v)
greatest_lo v w valid e = grind (steps, last_in)

-- a value whose range is within another's has no longer a text
shorter : (v w : Unsigned) → pos 0 ≤ℤ v.hi → v.lo ≤ℤ pos 0 → v.hi ≤ℤ w.hi → w.lo ≤ℤ v.lo
    → length (text v) ≤ length (text w)
shorter v w h l up down = grind (arith, ints, length-text_whole, length-text_dotted, gap_is)

-- after both trims no value of the number has a shorter text
pub shortest : (v : Unsigned) → IsShortest (trimmed v)
shortest v w valid e =
    let f : first v.number ≤ℤ w.hi = subst (λ n. first n ≤ℤ w.hi) e (first_in w valid) in
    let l : w.lo ≤ℤ last v.number = subst (λ n. w.lo ≤ℤ last n) e (last_in w valid) in
    shorter (trimmed v) w (omega (arith, ints, clamps)) (omega (arith, ints, clamps))
    (omega (arith, ints, clamps, valid.hi_in)) (omega (arith, ints, clamps, valid.lo_in))

-- ---- The parts of a value at a position.
module _ (v : Unsigned) (p : ℤ) (valid : IsValue v) where
  -- a value is below 10 to the 32768
  pub below_limit : v.number < number_limit
  below_limit = search (rules, arith, offset, offset_is, number_limit, pow-le-pow_right)

  -- a rounding toward zero always succeeds
  pub trunc_succeeds : (increment : RoundingIncrement) → rounded v (rounding p Trunc increment) ≡ None → ⊥
  trunc_succeeds increment e = none-some _ (sym e ∙ trunc_makes v p increment below_limit)

  -- it leaves the number without its part below the position
  truncated_number : rounded_number Trunc (unit_at MultiplesOf1 p) v.number ≡ v.number - v.number % weight p
  unfolding rounded_number
  truncated_number = ap (λ u. v.number - v.number % u) (let e : 1 * weight p ≡ weight p = omega arith in e)

  trunced_is : trunced v p ≡ with_number v p (v.number - v.number % weight p)
  trunced_is =
      ap (λ o. unwrap_or o v) (trunc_makes v p MultiplesOf1 below_limit) ∙ ap (with_number v p) truncated_number

  -- the truncated value and the part below the position make the value
  pub splits : SplitsAt v p (trunced v p) (with_max_position v p)
  splits = grind (steps, trunced_is, parts_join, parts_number, parts_value)
