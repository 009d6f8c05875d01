use Rattle.std.proofs.{Common.{arith, ◌∙◌}, lemmas.Grind.common_steps}
use Rattle.decimal_digits.proofs.lemmas.digits.Words.{leading_pads}
use Rattle.decimal_digits.proofs.digits.packed.PackedDigitsDigitStore.from_padded_bcd.Goals as goal

pub invariant_of-result-clause-padded : goal.invariant_of-result-clause-padded
invariant_of-result-clause-padded c =
    rw (c.from_buf-bytes.ensures.items ∙ c.to_be_bytes.ensures)
    (leading_pads c.args.number c.args.len c.requires.packed c.requires.padded).padded

pub returns-clause-ok : goal.returns-clause-ok
returns-clause-ok c = grind (arith, leading_pads, common_steps)
