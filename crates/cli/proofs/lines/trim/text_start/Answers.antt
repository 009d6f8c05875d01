use Rattle.std.proofs.{Common.{◌≡◌, ◌<◌, ℕ, true, false, length, get_or, sym, ◌∙◌, arith}, lemmas.List.Sums.prefix_len_is}
use Rattle.cli.specs.Trim.{is_blank}
use Rattle.cli.proofs.lines.trim.text_start.Goals as goal

pub returns-then-not-is_blank-clause-value : goal.returns-then-not-is_blank-clause-value
returns-then-not-is_blank-clause-value c =
    let other : is_blank (get_or c.args.bytes.now c.loop-at.at 0) ≡ false =
    sym c.is_blank.ensures ∙ c.if-not-is_blank.true in
    sym (prefix_len_is is_blank c.args.bytes.now c.loop-at.at 0 (omega arith) c.loop-at.invariant (λ _. other))

pub returns-clause-value : goal.returns-clause-value
returns-clause-value c =
    let blank : (k : ℕ) → k < length c.args.bytes.now → is_blank (get_or c.args.bytes.now k 0) ≡ true =
    λ k l. c.loop-at.invariant k (omega (arith, l, c.loop-at-test.false)) in
    sym (prefix_len_is is_blank c.args.bytes.now (length c.args.bytes.now) 0 (omega arith) blank
    (λ l. absurd (omega (arith, l))))
