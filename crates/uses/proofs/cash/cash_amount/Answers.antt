use Rattle.std.proofs.{Common.{◌≡◌, ℕ, ◌*◌, sym, ◌∙◌, ap, subst, arith}, lemmas.Int.{ints, clamps}}
use Rattle.std.specs.Prelude.{Some, negsuc}
use Rattle.decimal_digits.specs.{Number.{weight, first}, Rounding.Named, declared.rounding.{RoundingIncrement.TheVariants.MultiplesOf5, UnsignedRoundingMode.TheVariants.HalfEven}}
use Rattle.decimal_unsigned.specs.{Unsigned.{Unsigned, integer_value}, Edits.multiplied, Rounded.{rounding, IsRounded}}
use Rattle.fixed_decimal.proofs.Calling.{integer_down, rounded_to-some}
use Rattle.uses.specs.Cash.{IsCash}
use Rattle.uses.proofs.cash.cash_amount.Goals as goal

-- the hundredths of cents rounded to a multiple of 5 at -2 satisfy IsCash
rounded_cash : (hundredths : ℕ) (old new : Unsigned) → old ≡ multiplied (integer_value hundredths) (negsuc 3)
    → IsRounded old (rounding (negsuc 1) HalfEven MultiplesOf5) (Some new) → IsCash hundredths new
rounded_cash hundredths old new e r =
    let is = rounded_to-some old new (negsuc 1) r.named.0 r.named.2 in
    let number : old.number ≡ hundredths * weight (negsuc 3) =
    ap (λ (v : Unsigned). v.number) e ∙ integer_down hundredths 3 (omega arith) in
    record {
      nearest =
          subst (Named HalfEven (5 * weight (negsuc 1)) (hundredths * weight (negsuc 3)))
          (ap (λ (v : Unsigned). v.number) is)
          (subst (λ n. Named HalfEven (5 * weight (negsuc 1)) n r.named.0) number r.named.1);
      decimals = sym (ap (λ (v : Unsigned). v.lo) is);
      front =
          omega (
            arith,
            ints,
            clamps,
            ap (λ (v : Unsigned). v.hi) is,
            ap (λ (v : Unsigned). v.hi) e,
            ap (λ (v : Unsigned). first v.number) is,
          );
    }

pub returns-clause-cash : goal.returns-clause-cash
returns-clause-cash c =
    let moved : c.multiply_pow10.new.self ≡ multiplied c.in_ok-amount.amount (negsuc 3) =
    rw c.unwrap.ensures at c.multiply_pow10.ensures.moved in
    rounded_cash (c.args.cents * c.args.percent) c.multiply_pow10.new.self c.round_with_mode_and_increment.new.self
    (moved ∙ ap (λ v. multiplied v (negsuc 3)) c.in_ok-amount.ensures.value)
    (rw c.unwrap-2.ensures at c.round_with_mode_and_increment.ensures.rounds)
