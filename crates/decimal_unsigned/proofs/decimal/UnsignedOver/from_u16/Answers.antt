use Rattle.std.proofs.{Common.arith, lemmas.Int.Digits.length-digits_of-le}
use Rattle.decimal_unsigned.proofs.decimal.UnsignedOver.from_u16.Goals as goal

pub unwrap-requires : goal.unwrap-requires
unwrap-requires g c =
    c.from_integer.ensures.fits
    (omega (arith, length-digits_of-le 10 5 c.args.integer (omega arith) (omega arith), g.met.D.DigitStore.fits_u16))
