use Rattle.std.proofs.{Common.{[], ◌++◌, length-append, inl, inr, arith}, lemmas.{Bool.cases_lt, Result.IfOk-weaker}}
use Rattle.decimal_digits.specs.Number.{size}
use Rattle.decimal_unsigned.specs.DigitValues.{value_of_first}
use Rattle.fixed_decimal.proofs.Calling.{on_err}
use Rattle.decimal_format.proofs.lemmas.reader.{Bcd.{below_append, short_word}, Values.{holds_none, holds_part, on_err_unless, size_more}}
use Rattle.decimal_format.proofs.symbols.DecimalSymbols.absolute.Goals as goal

-- ---- Up to sixteen digits.
pub overflow_add-number : goal.overflow_add-number
overflow_add-number g c =
    let d = c.requires.digits in
    record { fits = omega (arith, (short_word d.2.bcd d.3.bcd c.if-whole-fraction-le-WORD.true).1) }

pub from_bcd_digits-requires-clause-digits : goal.from_bcd_digits-requires-clause-digits
from_bcd_digits-requires-clause-digits g c =
    let d = c.requires.digits in
    (d.0 ++ d.1, (short_word d.2.bcd d.3.bcd c.if-whole-fraction-le-WORD.true).0)

pub returns-then-whole-fraction-le-WORD-clause-ok : goal.returns-then-whole-fraction-le-WORD-clause-ok
returns-then-whole-fraction-le-WORD-clause-ok g c =
    IfOk-weaker c.from_bcd_digits.result _ _
    (λ v value ds es p q. value (ds ++ es) (short_word p.bcd q.bcd c.if-whole-fraction-le-WORD.true).0)
    c.from_bcd_digits.ensures.value

pub returns-then-whole-fraction-le-WORD-clause-memory : goal.returns-then-whole-fraction-le-WORD-clause-memory
returns-then-whole-fraction-le-WORD-clause-memory g c = on_err_unless c.from_bcd_digits.result _ (λ fails ds es p q.
    elim (cases_lt g.D.DigitStore.L (size (value_of_first c.args.whole.now.count (ds ++ es)).number)) [
      | inl h ↦ h
      | inr few ↦
          let word = (short_word p.bcd q.bcd c.if-whole-fraction-le-WORD.true).0 in
          absurd (fails (c.from_bcd_digits.ensures.succeeds (ds ++ es) word few))
    ])

pub returns-in_err-append_digits-clause-memory : goal.returns-in_err-append_digits-clause-memory
returns-in_err-append_digits-clause-memory g c = on_err c.from_residual.result _ (λ ds es p q.
    let limits = c.requires.in_limits in
    let some = c.in_err-append_digits.ensures.memory [] ds (holds_none c.zero_with_digits-value.ensures) p in
    let more = size_more c.args.whole.now.count ds es (below_append ds es p.bcd.digits q.bcd.digits) limits.0
    (omega (arith, length-append ds es, p.bcd.count, q.bcd.count, limits.1)) in
    omega (arith, some, more))

pub append_digits-requires-2-clause-digits : goal.append_digits-requires-2-clause-digits
append_digits-requires-2-clause-digits g c =
    let d = c.requires.digits in
    let whole = c.in_ok-append_digits.ensures.ok [] d.0 (holds_none c.zero_with_digits-value.ensures) d.2 in
    (d.0, d.1, holds_part d.2.bcd whole, d.3)

pub returns-in_err-append_digits-2-clause-memory : goal.returns-in_err-append_digits-2-clause-memory
returns-in_err-append_digits-2-clause-memory g c = on_err c.from_residual-in_err-append_digits-2.result _ (λ ds es p q.
    let whole = c.in_ok-append_digits.ensures.ok [] ds (holds_none c.zero_with_digits-value.ensures) p in
    c.in_err-append_digits-2.ensures.memory ds es (holds_part p.bcd whole) q)

pub returns-clause-ok : goal.returns-clause-ok
returns-clause-ok g c = λ ds es p q.
    let whole = c.in_ok-append_digits.ensures.ok [] ds (holds_none c.zero_with_digits-value.ensures) p in
    c.in_ok-append_digits-2.ensures.ok ds es (holds_part p.bcd whole) q
