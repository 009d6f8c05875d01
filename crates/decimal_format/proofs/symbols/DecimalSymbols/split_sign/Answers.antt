use Rattle.std.proofs.{Common.{◌++◌, sym, ◌∙◌, ap, append-nil, arith}, lemmas.List.append_cancel_right}
use Rattle.fixed_decimal.specs.declared.variations.Sign.TheVariants.{None}
use Rattle.decimal_format.specs.{Readable.BeginsWithDigit, Symbols.sign_affixes}
use Rattle.decimal_format.proofs.lemmas.{symbols.AsciiDigits.digit_text-ascii, reader.Scans.{begins-append, sign-unique}}
use Rattle.decimal_format.proofs.symbols.DecimalSymbols.split_sign.Goals as goal

pub returns-in-Some-clause-unique : goal.returns-in-Some-clause-unique
returns-in-Some-clause-unique g c = λ sign number begins e.
    let s = c.args.self.now in
    let d = c.in-Some.field-0-0 in
    let following = g.T.Input.bytes c.in-Some.field-0-1 in
    let ascii = c.has_ascii_digits.ensures c.if-has_ascii_digits.true in
    let first : BeginsWithDigit s (g.T.Input.bytes c.args.text) = record {
      digit = d;
      following = following;
      is_digit = c.in-Some.ensures.0;
      is =
          c.in-Some.ensures.1
          ∙ ap (λ l. l ++ following) (sym (digit_text-ascii s d ascii c.in-Some.ensures.0));
    } in
    let suffix = (sign_affixes s sign).suffix in
    let u = sign-unique s c.requires None sign (g.T.Input.bytes c.args.text) (number ++ suffix) (λ _. first)
    (λ _. begins-append s number suffix begins) e in
    (u.0, u.1 ∙ ap (λ x. number ++ (sign_affixes s x).suffix) (sym u.0) ∙ append-nil number)

pub returns-clause-unique : goal.returns-clause-unique
returns-clause-unique g c = grind (arith, begins-append, append_cancel_right)
