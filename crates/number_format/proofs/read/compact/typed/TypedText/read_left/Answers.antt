use Rattle.std.proofs.Common.{◌∙◌, ap}
use Rattle.number_format.specs.AffixedTexts.{shifted}
use Rattle.number_format.proofs.lemmas.read.TypedTexts.{kept_power}
use Rattle.number_format.proofs.read.compact.typed.TypedText.read_left.Goals as goal

pub returns : goal.returns
returns g c =
    let read = c.read_typed-read.result in
    let power = kept_power c.power.result c.power.ensures.range.0 c.power.ensures.range.1 in
    (read, c.read_typed-read.ensures, c.shifted.ensures ∙ ap (λ z. shifted z read) (power ∙ c.power.ensures.value))
