use Rattle.decimal_unsigned.proofs.lemmas.parse.PlainTexts.{flags_clear}
use Rattle.decimal_unsigned.proofs.decimal.parse.words.flag_bytes.Goals as goal

pub returns : goal.returns
returns c = flags_clear c.args.bytes c.ranges.bytes.fits
