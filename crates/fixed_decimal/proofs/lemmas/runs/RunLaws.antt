-- Laws of sequences of roundings, and of runs.
use Rattle.std.proofs.{Common.{◌≡◌, ℕ, ◌+◌, ◌<◌, List, [], ◌∷◌, sym, ◌∙◌, ap, arith, rules, Option, Some, None, Err, ℤ, map, option_map, option_and_then, if◌then◌else◌}, lemmas.{Int.{ints, clamps}, List.Elements.{All-head, All-tail, All-cons}}}
use Rattle.std.specs.{Int.int_max, List.{All, fold}, Option.unwrap_or}
use Rattle.decimal_digits.proofs.lemmas.rounding.{Remainders.unit_pos, RoundingLaws.trunc_le}
use Rattle.decimal_digits.specs.{Number.number_limit, Rounding.{unit_at, rounded_number}, declared.rounding.RoundingIncrement.TheVariants.MultiplesOf1, declared.rounding.UnsignedRoundingMode.UnsignedRoundingMode, declared.rounding.UnsignedRoundingMode.TheVariants.{Expand, Trunc}}
use Rattle.decimal_unsigned.proofs.lemmas.{laws.ValueLaws.below_limit, shift.Roundings.trunc_makes}
use Rattle.decimal_unsigned.specs.{Rounded.{rounding_by_1, reaches_limit}, Unsigned.{IsValue, Unsigned as Absolute}, ValueLaws.number_if_any}
use Rattle.fixed_decimal.proofs.lemmas.signed_decimal.SignedRoundings.{trunc_is_some}
use Rattle.fixed_decimal.specs.{Decimal.{Decimal, with_absolute}, DecimalText.and_then, Outcome.{limit_exceeded, or_limit_exceeded, after_calls}, RunLaws.{rounding_at, ResultHasNumber, RoundsOnce}, SignedRounding.{IsPosition, trunced, TruncationsCompose, expanded, sign_and_number, ExpansionsCompose}}
use Rattle.decimal_unsigned.specs.Rounded as unsigned
use Rattle.decimal_unsigned.specs.ValueLaws as unsigned_laws
use Rattle.decimal_unsigned.proofs.lemmas.shift.RoundingLaws as unsigned_proofs

-- ---- Two roundings of a decimal, by those of its absolute value.

numbered : (v : Decimal) (made : Option Absolute)
    → sign_and_number (with_absolute v made) ≡ option_map (λ n. (v.sign, n)) (number_if_any made)
numbered v made = grind arith

-- expansions compose
pub expansions_compose : (v : Decimal) (p q : ℤ) → IsPosition p → IsPosition q → ExpansionsCompose v p q
expansions_compose v p q low low' =
    twice (unsigned_laws.expanded v.absolute p)
    ∙ ap (option_map (λ n. (v.sign, n))) (unsigned_proofs.expansions_compose v.absolute p low q low')
    ∙ sym (numbered v (unsigned_laws.expanded v.absolute (int_max p q)))
  where
    twice : (made : Option Absolute)
        → sign_and_number (option_and_then (λ w. expanded w q) (with_absolute v made))
        ≡ option_map (λ n. (v.sign, n)) (number_if_any (option_and_then (λ a. unsigned_laws.expanded a q) made))
    twice made = grind (arith, numbered)

trunced_is : (v : Decimal) (p : ℤ) → trunced v p ≡ record v { absolute = unsigned_laws.trunced v.absolute p }
trunced_is v p = grind arith

-- truncations compose
pub truncations_compose : (v : Decimal) (p q : ℤ) → IsValue v.absolute → IsPosition p → IsPosition q
    → TruncationsCompose v p q
truncations_compose v p q valid low low' =
    let laws = unsigned_proofs.truncations_compose v.absolute p low valid in
    let twice : trunced (trunced v p) q
    ≡ record v { absolute = unsigned_laws.trunced (unsigned_laws.trunced v.absolute p) q } =
    ap (λ w. trunced w q) (trunced_is v p)
    ∙ trunced_is (record v { absolute = unsigned_laws.trunced v.absolute p }) q in
    let at_q = trunced_is v q in
    let at_greater = trunced_is v (int_max p q) in
    let number = laws.number q low' in
    record { above = λ h. let same = laws.above q h in grind arith; number = grind arith }

-- ---- Sequences of roundings, by their numbers alone.
module _ (mode : UnsignedRoundingMode) where
  -- the number that results from a rounding of a number at a position, or none
  number_after : ℤ → ℕ → Option ℕ
  number_after q n =
      let m = rounded_number mode (unit_at MultiplesOf1 q) n in
      if reaches_limit m then None else Some m

  by_number : (a : Absolute) (q : ℤ)
      → number_if_any (unsigned.rounded a (rounding_by_1 q mode)) ≡ number_after q a.number
  unfolding number_after
  by_number a q = grind arith

  -- the number that results from a sequence of roundings, or none
  numbers_after : List ℤ → ℕ → Option ℕ
  numbers_after [] n = Some n
  numbers_after (q ∷ qs) n = option_and_then (numbers_after qs) (number_after q n)

  -- the calls of these roundings result in a decimal of this number
  come_to : (w v : Decimal) (qs : List ℤ) (at : ℕ) (made : Option Absolute) → w.sign ≡ v.sign
      → numbers_after qs w.absolute.number ≡ number_if_any made
      → ResultHasNumber (after_calls at w (map (rounding_at mode) qs)) (with_absolute v made)
  unfolding numbers_after
  come_to w v [] at made s e = grind arith
  come_to w v (q ∷ qs) at made s e =
      elim (unsigned.rounded w.absolute (rounding_by_1 q mode)) as
      (λ o. option_and_then (numbers_after qs) (number_if_any o) ≡ number_if_any made
      → ResultHasNumber
      (and_then (or_limit_exceeded at (with_absolute w o))
      (λ u. after_calls (at + 1) u (map (rounding_at mode) qs)))
      (with_absolute v made)) [
        | Some a ↦ λ n. come_to (record w { absolute = a }) v qs (at + 1) made s n
        | None ↦ nowhere made
      ] (ap (option_and_then (numbers_after qs)) (by_number w.absolute q) ∙ e)
    where
      nowhere : (made : Option Absolute) → None ≡ number_if_any made
          → ResultHasNumber (Err (limit_exceeded at)) (with_absolute v made)
      nowhere made n = grind arith

  -- a rounding at p and then at q is one rounding at the greater position
  Absorbs : ℕ → Type 0
  Absorbs n =
      (p q : ℤ) → IsPosition p → IsPosition q
      → option_and_then (number_after q) (number_after p n) ≡ number_after (int_max p q) n

  once : (n : ℕ) → Absorbs n → (p : ℤ) (qs : List ℤ) → All IsPosition (p ∷ qs)
      → numbers_after (p ∷ qs) n ≡ number_after (fold int_max p qs) n
  unfolding numbers_after Absorbs
  once n absorbs p [] all = unit (number_after p n)
    where
      unit : (o : Option ℕ) → option_and_then Some o ≡ o
      unit o = grind arith
  once n absorbs p (q ∷ qs) all =
      let rest = All-tail IsPosition p (q ∷ qs) all in
      let low = All-head IsPosition p (q ∷ qs) all in
      let low' = All-head IsPosition q qs rest in
      let greater : IsPosition (int_max p q) = omega (arith, ints, clamps) in
      regroup (number_after p n)
      ∙ ap (option_and_then (numbers_after qs)) (absorbs p q low low')
      ∙ once n absorbs (int_max p q) qs (All-cons IsPosition (int_max p q) qs greater (All-tail IsPosition q qs rest))
    where
      regroup : (o : Option ℕ)
          → option_and_then (numbers_after (q ∷ qs)) o
          ≡ option_and_then (numbers_after qs) (option_and_then (number_after q) o)
      regroup o = grind arith

  rounds_once : ((v : Decimal) → IsValue v.absolute → Absorbs v.absolute.number) → RoundsOnce mode
  rounds_once absorbs v p others valid all at = search (rules, arith, ints, clamps, come_to, once, by_number)

-- a sequence of roundings toward zero is one rounding at the greatest position
pub truncations_are_one : RoundsOnce Trunc
unfolding Absorbs
truncations_are_one = rounds_once Trunc (λ v valid p q low low'.
    let a = v.absolute in
    let t = unsigned_laws.trunced a p in
    let h = below_limit a p valid in
    let n : t.number ≡ rounded_number Trunc (unit_at MultiplesOf1 p) a.number =
    ap (λ o. (unwrap_or o a).number) (trunc_makes a p MultiplesOf1 h) in
    let k : t.number < number_limit = grind (arith, ints, clamps, trunc_le, unit_pos) in
    ap (option_and_then (number_after Trunc q)) (after_trunc a p h)
    ∙ after_trunc t q k
    ∙ ap Some ((unsigned_proofs.truncations_compose a p low valid).number q low')
    ∙ sym (after_trunc a (int_max p q) h))
  where
    after_trunc : (a : Absolute) (p : ℤ) → a.number < number_limit
        → number_after Trunc p a.number ≡ Some (unsigned_laws.trunced a p).number
    after_trunc a p h =
        let e = trunc_makes a p MultiplesOf1 h in
        sym (by_number Trunc a p) ∙ ap number_if_any e ∙ ap (λ o. Some (unwrap_or o a).number) (sym e)

-- a sequence of roundings away from zero is one rounding at the greatest position
pub expansions_are_one : RoundsOnce Expand
unfolding Absorbs
expansions_are_one = rounds_once Expand (λ v valid p q low low'.
    after_both v.absolute p q
    ∙ unsigned_proofs.expansions_compose v.absolute p low q low'
    ∙ by_number Expand v.absolute (int_max p q))
  where
    after_both : (a : Absolute) (p q : ℤ)
        → option_and_then (number_after Expand q) (number_after Expand p a.number)
        ≡ number_if_any (option_and_then (λ b. unsigned_laws.expanded b q) (unsigned_laws.expanded a p))
    after_both a p q =
        sym (ap (option_and_then (number_after Expand q)) (by_number Expand a p))
        ∙ go (unsigned_laws.expanded a p)
      where
        go : (o : Option Absolute)
            → option_and_then (number_after Expand q) (number_if_any o)
            ≡ number_if_any (option_and_then (λ b. unsigned_laws.expanded b q) o)
        go o = grind (arith, by_number)

-- several roundings are one, and none toward zero exceeds the limit
pub ruleset roundings_compose = (truncations_are_one, trunc_is_some, expansions_are_one)
