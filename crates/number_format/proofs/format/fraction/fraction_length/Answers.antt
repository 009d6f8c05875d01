use Rattle.std.proofs.Common.{◌∙◌, ap, length, arith}
use Rattle.number_format.proofs.lemmas.format.Fractions.{length-split}
use Rattle.number_format.proofs.format.fraction.fraction_length.Goals as goal

pub overflow_sub-result : goal.overflow_sub-result
overflow_sub-result c =
    let f = c.args.digits.now in
    let split = length-split f.symbols f.strategy f.value c.requires in
    let zero = ap length (c.encode_utf8-zero.ensures.value ∙ c.digit.ensures) in
    omega (arith, split, zero, c.writeable_length_hint.ensures.value)

pub returns-clause-value : goal.returns-clause-value
returns-clause-value c =
    let f = c.args.digits.now in
    let split = length-split f.symbols f.strategy f.value c.requires in
    let zero = ap length (c.encode_utf8-zero.ensures.value ∙ c.digit.ensures) in
    omega (arith, split, zero, c.writeable_length_hint.ensures.value)
