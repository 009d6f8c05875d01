use Rattle.std.proofs.{Common.{◌≤◌, sym, ap, subst}, Math.Nat.mod-eq_of_lt}
use Rattle.std.specs.Prelude.{pos}
use Rattle.decimal_digits.specs.Number.{size}
use Rattle.decimal_unsigned.specs.Unsigned.{Unsigned}
use Rattle.fixed_decimal.proofs.Calling.{below_limit}
use Rattle.number_format.proofs.lemmas.digits.Applied.{size_of_remainder}
use Rattle.number_format.proofs.digits.options.DigitOptions.cut_integer_digits.Goals as goal

pub returns-then-self-clause-number : goal.returns-then-self-clause-number
returns-then-self-clause-number g c =
    rw c.if-self.true (sym (mod-eq_of_lt (below_limit c.args.value.now (pos 0) c.magnitude_range-range.ensures.valid)))

pub returns-clause-size : goal.returns-clause-size
returns-clause-size g c =
    let cut = ap (λ (v : Unsigned). v.number) c.set_max_position.ensures.value in
    subst (λ m. size m ≤ size c.args.value.now.number) (sym cut)
    (size_of_remainder _ _ (below_limit c.args.value.now (pos 0) c.magnitude_range-range.ensures.valid))
