use Rattle.std.proofs.{Common.{arith, refl}, lemmas.Grind.common_steps}
use Rattle.decimal_unsigned.proofs.lemmas.parse.PlainTexts.{group_found, group_number}
use Rattle.decimal_unsigned.proofs.decimal.parse.words.read_group.Goals as goal

pub returns-then-flag_bytes-eq0-clause-digits : goal.returns-then-flag_bytes-eq0-clause-digits
returns-then-flag_bytes-eq0-clause-digits c = grind (arith, group_found, common_steps)

pub returns-then-flag_bytes-eq0-clause-number : goal.returns-then-flag_bytes-eq0-clause-number
returns-then-flag_bytes-eq0-clause-number c =
    group_number c.args.bytes.now c.from_be_bytes-values.result _ c.told-bytes c.fits-bytes
    c.from_be_bytes-values.ensures refl (c.flag_bytes.ensures c.if-flag_bytes-eq0.true) c.pack_bytes.ensures
