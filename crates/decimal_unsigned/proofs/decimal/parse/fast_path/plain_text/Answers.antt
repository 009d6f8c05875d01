use Rattle.std.proofs.{Common.{◌≡◌, ◌-◌, ◌<◌, length, get_or, drop, arith}, lemmas.{Grind.elements, List.{length-take, length-drop, drop_all}}}
use Rattle.decimal_unsigned.proofs.lemmas.parse.BcdValues.{plain_whole, plain_point, after_byte}
use Rattle.decimal_unsigned.proofs.decimal.parse.fast_path.plain_text.Goals as goal

pub returns-in-empty-clause-plain : goal.returns-in-empty-clause-plain
returns-in-empty-clause-plain g c =
    let text = c.args.text.now in
    let whole = c.count_digits-whole.result.0 in
    plain_whole text whole _ g.W.BcdWord.digits c.requires.narrow (omega (arith, c.requires.held))
    (omega (arith, c.requires.held)) c.count_digits-whole.ensures.count
    (rw c.zero.ensures at c.count_digits-whole.ensures.number) c.if-whole-gt0.true
    (drop_all whole text (omega (arith, c.in-empty.len_below, length-drop whole text)))

-- the decimal point is in the text
in_text : (g : _) (c : goal.Else-fraction-rest g) → c.count_digits-whole.result.0 < length c.args.text.now
in_text g c =
    let text = c.args.text.now in
    let whole = c.count_digits-whole.result.0 in
    omega (arith, c.in-46.len_at_least, length-take (length text - whole) (drop whole text), length-drop whole text)

pub returns-else-fraction-rest-clause-plain : goal.returns-else-fraction-rest-clause-plain
returns-else-fraction-rest-clause-plain g c =
    let text = c.args.text.now in
    let whole = c.count_digits-whole.result.0 in
    let fraction = c.count_digits-fraction in
    let byte : get_or text whole 0 ≡ 46 = grind (arith, elements) in
    plain_point text whole _ g.W.BcdWord.digits c.requires.narrow (omega (arith, c.requires.held))
    (omega (arith, c.requires.held)) c.count_digits-whole.ensures.count
    (rw c.zero.ensures at c.count_digits-whole.ensures.number) _ fraction.result.0 _ (in_text g c) byte
    (after_byte text whole)
    fraction.ensures.count (omega arith)
    c.if-fraction-rest.false fraction.ensures.number
