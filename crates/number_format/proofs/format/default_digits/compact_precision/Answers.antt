use Rattle.std.proofs.Common.{refl}
use Rattle.number_format.proofs.lemmas.digits.DefaultsResolve.{compact_is_both}
use Rattle.number_format.proofs.format.default_digits.compact_precision.Goals as goal

pub returns : goal.returns
returns c n d compact = compact_is_both n d _ (refl, refl, refl) compact
