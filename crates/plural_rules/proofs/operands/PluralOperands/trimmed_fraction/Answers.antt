use Rattle.std.proofs.{Common.{refl, arith}, lemmas.Int.{ints, clamps}}
use Rattle.decimal_unsigned.specs.Edits.{trimmed_end}
use Rattle.plural_rules.proofs.operands.PluralOperands.trimmed_fraction.Goals as goal

pub returns : goal.returns
returns g c =
    c.fraction_digits.ensures.digits (trimmed_end c.args.self.now.value) refl (omega (arith, ints, clamps))
    c.w.ensures.value
