use Rattle.std.proofs.{Common.{◌≡◌, lit<, lit≤, refl, ◌∙◌, ap, subst, arith}, lemmas.Int.ints}
use Rattle.std.specs.{Prelude.{◌*◌, OnOk, OnErr, codes, pos, negsuc}, Io.KnownBytes.Appends}
use Rattle.decimal_digits.specs.{Number.weight, AppendsPrefix.AppendsPrefix}
use Rattle.decimal_unsigned.specs.{Unsigned.integer_value, Edits.multiplied, Text.text}
use Rattle.fixed_decimal.proofs.Calling.{first_of_integer, integer_down, text_of_literal}
use Rattle.uses.proofs.price.write_shipping_fee.Goals as goal

-- the fee is 490 hundredths, with the range from 0 to -2
fee_is : multiplied (integer_value 490) (negsuc 1)
    ≡ record { number = 490 * weight (negsuc 1); hi = pos 0; lo = negsuc 1 }
fee_is =
    let top = first_of_integer 490 2 (lit≤ tt) (lit< tt) (lit< tt) in
    let number = integer_down 490 1 (lit< tt) in
    rw (top, number) refl

-- its text
fee_text : text (multiplied (integer_value 490) (negsuc 1)) ≡ codes "4.90"
fee_text = ap text fee_is ∙ text_of_literal 490 (pos 0) (negsuc 1) (omega (arith, ints)) (omega (arith, ints))

pub returns : goal.returns
returns g c =
    let moved = rw c.unwrap.ensures at c.multiply_pow10.ensures.moved in
    let fee = moved ∙ ap (λ v. multiplied v (negsuc 1)) c.from_u16-fee.ensures.value in
    let shown = ap text fee ∙ fee_text in
    let old = g.W.Sink.contents c.args.sink.now in
    let new = g.W.Sink.contents c.write_to.new.sink in
    record {
      written = subst (λ t. OnOk c.write_to.result (Appends old new t)) shown c.write_to.ensures.ok;
      prefix = subst (λ t. OnErr c.write_to.result (AppendsPrefix old new t)) shown c.write_to.ensures.err;
      failed = c.write_to.ensures.failed;
    }
