use Rattle.std.proofs.{Common.{sym, subst, arith}, Output.has_written_styled_append, lemmas.Grind.common_steps}
use Rattle.std.specs.Str.{IsUtf8}
use Rattle.fixed_decimal.proofs.lemmas.integer.CompactTexts.{exponent_utf8}
use Rattle.fixed_decimal.proofs.compact.CompactDecimalDisplay.fmt.Goals as goal

pub from_utf8_unchecked-requires : goal.from_utf8_unchecked-requires
from_utf8_unchecked-requires g c =
    subst IsUtf8 (sym c.exponent_text-length.ensures.text) (exponent_utf8 c.self.inside.exponent (omega arith))

pub returns : goal.returns
returns g c = grind (arith, has_written_styled_append, common_steps)
