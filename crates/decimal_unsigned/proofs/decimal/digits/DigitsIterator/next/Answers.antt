use Rattle.std.proofs.{Common.{length, sym, ◌∙◌, ap, arith, rules}, lemmas.Grind.common_steps}
use Rattle.decimal_unsigned.proofs.lemmas.text.ShownDigits.{none_left, refilled, word_next}
use Rattle.decimal_unsigned.proofs.decimal.digits.DigitsIterator.next.Goals as goal

pub returns-then-self-gt0-clause-steps : goal.returns-then-self-gt0-clause-steps
returns-then-self-gt0-clause-steps g c = grind (arith, word_next, common_steps)

pub returns-then-self-gt0-clause-goes : goal.returns-then-self-gt0-clause-goes
returns-then-self-gt0-clause-goes g c = let l = ap length (returns-then-self-gt0-clause-steps g c) in search rules

pub returns-then-self-eq0-clause-steps : goal.returns-then-self-eq0-clause-steps
returns-then-self-eq0-clause-steps g c = grind (arith, none_left, common_steps)

pub returns-clause-steps : goal.returns-clause-steps
returns-clause-steps g c =
    let s = c.self.inside in
    sym c.self.view_is
    ∙ refilled s.ready s.word c.bcd_at-word.result c.min-count.result s.index s.rest
    (g.D.DigitStore.digits s.store.now) (g.met.D.DigitStore.are_digits s.store.now)
    (omega (arith, c.if-self-gt0.false)) (omega (arith, c.if-self-eq0.false)) c.bcd_at-word.ensures
    c.bcd_at-word.type_inv c.min-count.ensures

pub returns-clause-goes : goal.returns-clause-goes
returns-clause-goes g c = let l = ap length (returns-clause-steps g c) in search rules
