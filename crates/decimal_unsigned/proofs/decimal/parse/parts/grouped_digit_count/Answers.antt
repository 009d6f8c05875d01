use Rattle.std.proofs.Common.{◌≡◌, ◌+◌, ◌-◌, ◌∙◌, sym, ap, true, take, drop, arith}
use Rattle.std.specs.Str.{all_ascii_digits}
use Rattle.decimal_unsigned.proofs.lemmas.parse.GrammarParts.{count_group}
use Rattle.decimal_unsigned.proofs.decimal.parse.parts.grouped_digit_count.Goals as goal

pub loop-count-preserved : goal.loop-count-preserved
loop-count-preserved c =
    let text = c.args.text.now in
    let i = c.loop-count.count in
    let k : (i + 16) - i ≡ 16 = omega arith in
    let digits : all_ascii_digits (take 16 (drop i text)) ≡ true =
    ap (λ n. all_ascii_digits (take n (drop i text))) (sym k) ∙ sym c.are_digits.ensures ∙ c.if-are_digits.true in
    record {
      within = omega arith;
      digits = count_group text i 16 c.loop-count-test.true digits c.loop-count.invariant.digits;
    }
