-- Rounding of decimals by the rounding of their absolute values.
use Rattle.std.proofs.{Common.{ℕ, ◌≡◌, ◌≤◌, refl, ap, subst, arith, Option, Result, ℤ, IsOk, IsSome, ◌≤ℤ◌}, lemmas.Int.{ints, to_z-of_z}}
use Rattle.std.specs.{Option.unwrap_or, Result.is_ok}
use Rattle.decimal_digits.proofs.lemmas.rounding.Remainders.{unit_pos}
use Rattle.decimal_digits.specs.{declared.rounding.RoundError.RoundError, declared.rounding.RoundingIncrement.RoundingIncrement, declared.rounding.RoundingIncrement.TheVariants.MultiplesOf1, declared.rounding.UnsignedRoundingMode.TheVariants.Trunc}
use Rattle.decimal_unsigned.proofs.lemmas.{laws.ValueLaws.below_limit, shift.{RoundingLaws.{new_number, new_number-zero, new_number-monotone}, Roundings.{trunc_makes, ok_unless_none}}}
use Rattle.decimal_unsigned.specs.{Rounded.{rounding_by_1, Rounding, rounding, unit_of, UpdatesInPlace}, Unsigned.{IsValue, Unsigned as Absolute}}
use Rattle.fixed_decimal.proofs.lemmas.signed_decimal.SignedNaming.{named-signed, same_unsigned}
use Rattle.fixed_decimal.specs.{Decimal.{Decimal, signed, signed_number, with_absolute}, SignedRounding.{mode_at, unsigned_rounding, mirrored, IsOpposite, rounded, after_rounding, IsRounded, RoundsInPlace, RoundingCommutesWithNegation, RoundingIsMonotone}, declared.rounding.SignedRoundingMode.SignedRoundingMode, declared.rounding.SignedRoundingMode.TheVariants.Unsigned, declared.variations.Sign.Sign, declared.variations.Sign.TheVariants.{None, Positive}}
use Rattle.std.specs.declared.option.Option.TheVariants as option
use Rattle.decimal_unsigned.specs.Rounded as unsigned

-- a rounding of a decimal is that of its absolute value by the unsigned mode for its sign
pub is_rounded :
    (v : Decimal) (r : Rounding SignedRoundingMode) (new : Option Absolute)
    → unsigned.IsRounded v.absolute (unsigned_rounding r v.sign) new
    → IsRounded v r (with_absolute v new)
is_rounded v r new absolute =
    let (m, named, e) = absolute.named in
    record {
      valid = absolute.valid;
      value = ap (with_absolute v) absolute.value;
      named = (m, named-signed r.mode v.sign (unit_of r) v.absolute.number m named, ap (with_absolute v) e);
    }

-- a rounding of the absolute value in place is a rounding of the decimal in place
pub rounds : {A : Type 0} (held : ℕ) (v : Decimal) (p : ℤ) (mode : SignedRoundingMode) (increment : RoundingIncrement)
    (new : Absolute) (answer : Result A RoundError)
    → unsigned.RoundsInPlace held v.absolute (rounding p (mode_at mode v.sign) increment) new answer
    → RoundsInPlace held v (rounding p mode increment) (record { sign = v.sign; absolute = new }) answer
rounds held v p mode increment new answer a =
    let some = is_rounded v (rounding p mode increment) (option.Some new) in
    let none = is_rounded v (rounding p mode increment) option.None in
    grind arith

-- a rounding by 1 fails only for the limit
pub updates_by_1 : {A B E : Type 0} (held : ℕ) (v : Decimal) (p : ℤ) (mode : SignedRoundingMode) (new : Decimal)
    (r : Result A RoundError) (s : Result B E) → is_ok s ≡ is_ok r
    → RoundsInPlace held v (rounding_by_1 p mode) new r
    → UpdatesInPlace (IsRounded v (rounding_by_1 p mode)) v new s
updates_by_1 held v p mode new r s e a = grind arith

-- if a rounding results in a decimal, the absolute value after the rounding is that of the decimal
pub absolute_after : (v new : Decimal) (made : Option Absolute) → with_absolute v made ≡ option.Some new
    → unwrap_or made v.absolute ≡ new.absolute
absolute_after v new made e = grind arith

-- ---- Toward zero.

-- a decimal is rounded toward zero to a decimal
pub trunc_is_some : (v : Decimal) (p : ℤ) → IsValue v.absolute → IsSome (rounded v (rounding_by_1 p (Unsigned Trunc)))
trunc_is_some v p valid = rw (trunc_makes v.absolute p MultiplesOf1 (below_limit v.absolute p valid)) refl

-- so a rounding toward zero succeeds
pub trunc_is_ok : {A E : Type 0} (answer : Result A E) (v new : Decimal) (p : ℤ)
    → UpdatesInPlace (IsRounded v (rounding_by_1 p (Unsigned Trunc))) v new answer → IsOk answer
trunc_is_ok answer v new p a =
    ok_unless_none (IsRounded v (rounding_by_1 p (Unsigned Trunc))) v new answer a
    (λ none. let k = subst IsSome none.value (trunc_is_some v p none.valid) in cc)

-- ---- Up and down exchanged.
-- with the opposite sign the mirrored mode is the same unsigned mode
mirrored_same : (sign other : Sign) (mode : SignedRoundingMode) → IsOpposite sign other
    → mode_at (mirrored mode) other ≡ mode_at mode sign
mirrored_same sign other mode o = grind arith

-- a value and its negative round alike, by mirrored modes
pub rounding_commutes_with_negation : (v : Decimal) (r : Rounding SignedRoundingMode)
    → RoundingCommutesWithNegation v r
rounding_commutes_with_negation v r other o = grind (arith, mirrored_same)

-- ---- Order.
module _ (r : Rounding SignedRoundingMode) where
  -- the absolute value after a rounding, for a sign
  by_sign : Sign → ℕ → ℕ
  by_sign sign n = new_number (mode_at r.mode sign) (unit_of r) n

  by_sign-zero : (sign : Sign) → by_sign sign 0 ≡ 0
  unfolding by_sign
  by_sign-zero sign = new_number-zero (mode_at r.mode sign) (unit_of r) (unit_pos r.increment r.position)

  by_sign-monotone : (sign : Sign) (n m : ℕ) → n ≤ m → by_sign sign n ≤ by_sign sign m
  unfolding by_sign
  by_sign-monotone sign = new_number-monotone (mode_at r.mode sign) (unit_of r) (unit_pos r.increment r.position)

  by_sign-positive : (n : ℕ) → by_sign Positive n ≡ by_sign None n
  unfolding by_sign
  by_sign-positive n = ap (λ k. new_number k (unit_of r) n) (same_unsigned r.mode)

  monotone : (a b : Sign) (n m : ℕ) → signed a n ≤ℤ signed b m → signed a (by_sign a n) ≤ℤ signed b (by_sign b m)
  monotone a b n m l = grind (arith, ints, by_sign-monotone, by_sign-positive, by_sign-zero)

  -- the number after a rounding is this absolute value with the sign
  number-after_rounding : (v : Decimal)
      → signed_number (after_rounding v r) ≡ signed v.sign (by_sign v.sign v.absolute.number)
  unfolding by_sign
  number-after_rounding v = grind arith

  -- after a rounding the greater of two decimals is still no less than the other
  pub rounding_is_monotone : (v w : Decimal) → RoundingIsMonotone v w r
  rounding_is_monotone v w l = grind (arith, ints, number-after_rounding, monotone)

-- for `grind`: the result of a rounding at a position
pub ruleset answering = (to_z-of_z, rounds, updates_by_1)
