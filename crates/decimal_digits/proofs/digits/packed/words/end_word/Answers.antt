use Rattle.std.proofs.{Common.{◌≡◌, ◌+◌, ◌-◌, ◌*◌, ◌++◌, length, drop, replicate, ◌∙◌, ap, arith}, lemmas.List.{drop-drop, get_or-drop}}
use Rattle.decimal_digits.proofs.lemmas.digits.{Nibbles.nibble_rules, Words.{word_of_bytes, nibbles_drop}}
use Rattle.decimal_digits.specs.Nibbles.{nibbles}
use Rattle.decimal_digits.proofs.digits.packed.words.end_word.Goals as goal

pub returns-in-Some : goal.returns-in-Some
returns-in-Some c =
    let bs = c.args.bytes.now in
    let n = length bs - 8 in
    let last : c.in-Some.end.now ≡ drop n bs = c.in-Some.ensures.cases.1.same in
    let word =
    word_of_bytes c.in-Some.end.now c.from_be_bytes.result (grind (arith, nibble_rules, ap length last))
    (λ i. rw (last, get_or-drop) (c.type_inv.bytes (n + i)).fits) c.from_be_bytes.ensures
    ∙ ap nibbles last ∙ nibbles_drop n bs in
    let k = 16 - 2 * c.args.count in
    let at : 2 * n + k ≡ 2 * (length bs - c.args.count) = omega arith in
    c.cut_nibbles.ensures
    ∙ ap (λ l. drop k l ++ replicate k 0) word
    ∙ ap (λ l. l ++ replicate k 0) (drop-drop k (2 * n) (nibbles bs) ∙ ap (λ j. drop j (nibbles bs)) at)
