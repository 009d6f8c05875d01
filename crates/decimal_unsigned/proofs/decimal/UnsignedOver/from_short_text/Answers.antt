use Rattle.std.proofs.Common.{Result, Ok, Err, ◌∙◌, ap, sym, IfOk, IfSome}
use Rattle.std.specs.Result.{result_ok}
use Rattle.decimal_unsigned.proofs.lemmas.parse.BcdValues.{plain_bcd, plain_digits, plain_read}
use Rattle.decimal_unsigned.proofs.decimal.UnsignedOver.from_short_text.Goals as goal

some_of_ok : {A E : Type 0} (r : Result A E) (P Q : A → Type 0) → IfOk r P → ((v : A) → P v → Q v)
    → IfSome (result_ok r) Q
some_of_ok (Ok v) P Q h f = f v h
some_of_ok (Err e) P Q h f = tt

pub from_bcd_digits-requires-clause-digits : goal.from_bcd_digits-requires-clause-digits
from_bcd_digits-requires-clause-digits g c = (
  plain_digits c.args.text.now c.in_ok-plain.plain c.in_ok-plain.ensures.plain,
  plain_bcd c.args.text.now c.in_ok-plain.plain c.in_ok-plain.ensures.plain,
)

pub returns : goal.returns
returns g c =
    let text = c.args.text.now in
    let p = c.in_ok-plain.plain in
    let bcd = plain_bcd text p c.in_ok-plain.ensures.plain in
    rw c.ok.ensures.value
    (some_of_ok c.from_bcd_digits.result _ _ c.from_bcd_digits.ensures.value
    (λ v h. plain_read text p c.in_ok-plain.ensures.plain ∙ ap Ok (sym (h _ bcd))))
