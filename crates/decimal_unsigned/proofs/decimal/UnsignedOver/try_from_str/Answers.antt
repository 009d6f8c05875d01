use Rattle.std.proofs.Common.{sym}
use Rattle.decimal_unsigned.proofs.decimal.UnsignedOver.try_from_str.Goals as goal

pub returns : goal.returns
returns g c = rw (sym c.as_bytes.ensures.value) c.try_from_utf8.ensures
