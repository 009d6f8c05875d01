use Rattle.decimal_digits.specs.Nibbles.{wide_leading_bytes}
use Rattle.decimal_digits.proofs.digits.DigitStore.from_wide_bcd.Goals as goal

pub unpack-requires-clause-packed : goal.unpack-requires-clause-packed
unfolding wide_leading_bytes
unpack-requires-clause-packed g c = rw c.to_be_bytes.ensures c.requires.packed

pub from_digits-requires : goal.from_digits-requires
unfolding wide_leading_bytes
from_digits-requires g c =
    let digits = rw c.to_be_bytes.ensures at c.unpack.ensures.digits in rw digits c.requires.packed.decimal

pub returns-clause-ok : goal.returns-clause-ok
unfolding wide_leading_bytes
returns-clause-ok g c =
    let digits = rw c.to_be_bytes.ensures at c.unpack.ensures.digits in rw digits at c.from_digits.ensures.ok
