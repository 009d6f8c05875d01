use Rattle.std.proofs.Common.{sym, ◌∙◌, arith}
use Rattle.decimal_digits.proofs.lemmas.digits.Words.{length-word_nibbles, word_nibble}
use Rattle.decimal_unsigned.proofs.lemmas.text.Pieces.{short_text_is}
use Rattle.decimal_unsigned.proofs.decimal.UnsignedOver.short_text.Goals as goal

pub returns : goal.returns
returns g c =
    let word = c.leading_bcd.result in
    short_text_is c.args.self.now c.dot.ensures.valid c.dot.result c.dot.ensures.value c.requires _
    (length-word_nibbles word) (λ k l. sym (word_nibble word k (omega arith) l) ∙ c.leading_bcd.ensures k l)
    c.dotted_text.result c.dotted_text.ensures
