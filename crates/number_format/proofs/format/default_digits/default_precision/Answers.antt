use Rattle.number_format.proofs.lemmas.digits.DefaultsResolve.{fraction_is_range}
use Rattle.number_format.proofs.format.default_digits.default_precision.Goals as goal

pub returns-then-increment-eq1 : goal.returns-then-increment-eq1
returns-then-increment-eq1 c =
    fraction_is_range c.args.increment c.args.defaults.now c.if-defaults.false c.if-increment-eq1.true
