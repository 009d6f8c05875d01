use Rattle.std.proofs.{Common.{◌≡◌, ◌-◌, ◌<◌, ◌≤◌, ℕ, true, false, length, get_or, sym, ◌∙◌, arith}, lemmas.List.Sums.suffix_len_is}
use Rattle.std.specs.List.{suffix_len}
use Rattle.cli.specs.Trim.{is_blank}
use Rattle.cli.proofs.lines.trim.text_end.Goals as goal

pub returns-then-not-is_blank-clause-value : goal.returns-then-not-is_blank-clause-value
returns-then-not-is_blank-clause-value c =
    let bytes = c.args.bytes.now in
    let other : is_blank (get_or bytes (c.loop-end.end - 1) 0) ≡ false =
    sym c.is_blank.ensures ∙ c.if-not-is_blank.true in
    let blanks : suffix_len is_blank bytes ≡ length bytes - c.loop-end.end =
    suffix_len_is is_blank bytes c.loop-end.end 0 c.loop-end.invariant.inside c.loop-end.invariant.blank (λ _. other) in
    omega (arith, blanks, c.loop-end.invariant.inside)

pub returns-clause-value : goal.returns-clause-value
returns-clause-value c =
    let bytes = c.args.bytes.now in
    let blank : (k : ℕ) → 0 ≤ k → k < length bytes → is_blank (get_or bytes k 0) ≡ true =
    λ k _ l. c.loop-end.invariant.blank k (omega (arith, c.loop-end-test.false)) l in
    let blanks : suffix_len is_blank bytes ≡ length bytes - 0 =
    suffix_len_is is_blank bytes 0 0 (omega arith) blank (λ l. absurd (omega (arith, l))) in
    omega (arith, blanks)
