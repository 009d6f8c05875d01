use Rattle.std.proofs.Common.{◌≡◌, ℕ, ◌<◌, length, get_or, take, ◌∙◌, ap, arith}
use Rattle.decimal_digits.proofs.lemmas.digits.{Nibbles.nibble_rules, Words.{word_of_bytes, nibbles_take}}
use Rattle.decimal_digits.specs.Nibbles.{nibbles}
use Rattle.decimal_digits.proofs.digits.packed.words.front_word.Goals as goal

pub returns-in-Some : goal.returns-in-Some
returns-in-Some c =
    let front = c.in-Some.front.now in
    let first : front ≡ take 8 c.args.bytes.now = c.in-Some.ensures.cases.same in
    let small : (i : ℕ) → get_or front i 0 < 256 = λ i.
    let byte = (c.type_inv.bytes i).fits in
    let same : get_or front i 0 ≡ get_or (take 8 c.args.bytes.now) i 0 = ap (λ l. get_or l i 0) first in
    grind (arith, nibble_rules) in
    let eight : length front ≡ 8 = grind (arith, nibble_rules, ap length first, c.requires) in
    word_of_bytes front c.from_be_bytes.result eight small c.from_be_bytes.ensures
    ∙ ap nibbles first ∙ nibbles_take 8 c.args.bytes.now
