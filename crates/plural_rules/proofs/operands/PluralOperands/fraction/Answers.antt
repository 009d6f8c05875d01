use Rattle.std.proofs.Common.{refl}
use Rattle.plural_rules.proofs.operands.PluralOperands.fraction.Goals as goal

pub returns : goal.returns
returns g c =
    c.fraction_digits.ensures.digits c.args.self.now.value refl c.fraction_digits.ensures.shown c.v.ensures.value
