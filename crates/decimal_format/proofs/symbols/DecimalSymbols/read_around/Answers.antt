use Rattle.std.proofs.Common.{◌≡◌, Ok, Err}
use Rattle.fixed_decimal.specs.declared.variations.Sign.TheVariants.{None}
use Rattle.decimal_format.specs.Readable.{BeginsWithDigit}
use Rattle.decimal_format.proofs.lemmas.reader.Around.{plain_read, two_signs, signed_read}
use Rattle.decimal_format.proofs.symbols.DecimalSymbols.read_around.Goals as goal

pub returns-in-None : goal.returns-in-None
returns-in-None g c =
    let plain : c.args.alternative.now.sign ≡ None = cc in
    plain_read c.args.self.now c.requires c.args.alternative.now (g.T.Input.bytes c.args.text)
    (g.T.Input.bytes c.in-Some.middle) c.in-Some.ensures plain g.D.DigitStore.L c.read_groups.result
    c.read_groups.ensures

pub returns-in-None-next_digit : goal.returns-in-None-next_digit
returns-in-None-next_digit g c =
    two_signs c.args.self.now c.requires c.args.alternative.now (g.T.Input.bytes c.args.text)
    (g.T.Input.bytes c.in-Some.middle) c.in-Some.ensures c.in_default-sign.not-None g.D.DigitStore.L
    (λ b. c.in-None-next_digit.ensures b.digit b.following b.is_digit b.is)

pub returns-in-Ok : goal.returns-in-Ok
returns-in-Ok g c =
    let begins : BeginsWithDigit c.args.self.now (g.T.Input.bytes c.in-Some.middle) = record {
      digit = c.in_default-next_digit.field-0.0;
      following = g.T.Input.bytes c.in_default-next_digit.field-0.1;
      is_digit = c.in_default-next_digit.ensures.0;
      is = c.in_default-next_digit.ensures.1;
    } in
    rw c.with_sign.ensures
    (signed_read c.args.self.now c.requires c.args.alternative.now (g.T.Input.bytes c.args.text)
    (g.T.Input.bytes c.in-Some.middle) c.in-Some.ensures c.in_default-sign.not-None begins g.D.DigitStore.L
    (Ok c.in-Ok.value) c.in-Ok.ensures)

pub returns-in-Err : goal.returns-in-Err
returns-in-Err g c =
    let begins : BeginsWithDigit c.args.self.now (g.T.Input.bytes c.in-Some.middle) = record {
      digit = c.in_default-next_digit.field-0.0;
      following = g.T.Input.bytes c.in_default-next_digit.field-0.1;
      is_digit = c.in_default-next_digit.ensures.0;
      is = c.in_default-next_digit.ensures.1;
    } in
    signed_read c.args.self.now c.requires c.args.alternative.now (g.T.Input.bytes c.args.text)
    (g.T.Input.bytes c.in-Some.middle) c.in-Some.ensures c.in_default-sign.not-None begins g.D.DigitStore.L
    (Err c.in-Err.error) c.in-Err.ensures
