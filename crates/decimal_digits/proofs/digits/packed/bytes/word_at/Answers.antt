use Rattle.std.proofs.{Common.{◌≡◌, ◌+◌, ◌*◌, ◌/◌, drop, get_or, sym, ◌∙◌, ap, arith}, lemmas.{Grind.common_steps, List.{drop_all, take_rest, get_or-drop, get_or-take}}}
use Rattle.decimal_digits.proofs.lemmas.digits.{Nibbles.nibble_rules, Packing.digit_at, Words.{bcd_of_word, front_at, nibbles_drop}}
use Rattle.decimal_digits.specs.{Nibbles.{digits_in, nibbles, bcd_number, padded}, Packing.{padding}}
use Rattle.decimal_digits.proofs.digits.packed.bytes.word_at.Goals as goal

pub returns-then-start-eq0 : goal.returns-then-start-eq0
returns-then-start-eq0 c =
    rw c.if-start-eq0.true
    (bcd_of_word c.front_word.result (digits_in c.args.bytes.now c.args.len) c.front_word.type_inv
    (λ k h. front_at _ _ _ k c.requires.padded c.front_word.ensures h))

pub returns-then-len-start : goal.returns-then-len-start
unfolding bcd_number padded
returns-then-len-start c = grind (arith, drop_all, common_steps)

pub returns-then-rest-lt8 : goal.returns-then-rest-lt8
returns-then-rest-lt8 c =
    let p = c.requires.padded in
    let word = rw take_rest at c.end_word.ensures in
    bcd_of_word c.end_word.result (drop c.args.start (digits_in c.args.bytes.now c.args.len)) c.end_word.type_inv
    (λ k h.
    grind (arith, ap (λ l. get_or l k 0) word, digit_at _ _ p (c.args.start + k), p.count, padding, nibble_rules))

pub returns : goal.returns
returns c =
    let bs = c.args.bytes.now in
    let len = c.args.len in
    let start = c.args.start in
    let p = c.requires.padded in
    let word = rw take_rest at c.front_word-2.ensures in
    let at : 2 * (start / 2) ≡ start = omega (arith, c.requires.block) in
    bcd_of_word c.front_word-2.result (drop start (digits_in bs len)) c.front_word-2.type_inv (λ k h.
    ap (λ l. get_or l k 0) word
    ∙ get_or-take 16 (nibbles (drop (start / 2) bs)) k 0 h
    ∙ ap (λ l. get_or l k 0) (nibbles_drop (start / 2) bs)
    ∙ get_or-drop (2 * (start / 2)) (nibbles bs) k 0
    ∙ ap (λ j. get_or (nibbles bs) (j + k) 0) at
    ∙ sym (get_or-drop start (digits_in bs len) k 0 ∙ digit_at bs len p (start + k)))
