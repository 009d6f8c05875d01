use Rattle.decimal_unsigned.proofs.lemmas.parse.FewDigits.{parsed}
use Rattle.decimal_unsigned.proofs.decimal.UnsignedOver.try_from_utf8.Goals as goal

pub returns-in-Some : goal.returns-in-Some
returns-in-Some g c = parsed g.D.DigitStore.L c.args.text.now _ c.in-Some.ensures

pub returns : goal.returns
returns g c = parsed g.D.DigitStore.L c.args.text.now _ c.scan_from.ensures
