use Rattle.std.proofs.{Common.{drop, sym, ap, arith}, lemmas.List.drop_all}
use Rattle.decimal_digits.proofs.lemmas.digits.{Nibbles.nibble_rules, Words.bcd_of_word}
use Rattle.decimal_digits.specs.Nibbles.{bcd_number, padded}
use Rattle.decimal_digits.proofs.digits.DigitStore.bcd_at.Goals as goal

pub returns-then-len-start : goal.returns-then-len-start
unfolding bcd_number padded
returns-then-len-start g c =
    sym (ap bcd_number (drop_all c.args.start (g.Self.DigitStore.digits c.args.self.now) (omega arith)))

pub returns : goal.returns
returns g c =
    bcd_of_word c.pack_word.result (drop c.args.start (g.Self.DigitStore.digits c.args.self.now)) c.pack_word.type_inv
    (λ k h. grind (arith, nibble_rules))
