use Rattle.std.proofs.{Common.{◌∙◌, arith}, lemmas.{Str.Pattern.{strip_prefix_char, starts_char}, Bool.both_ways}}
use Rattle.conversions.proofs.{lemmas.calls.Numerals.{IsWithoutMinus, without_minus, number-none_if_long, number-none_if_plus, number-some}, parameters.number.Goals.{After-unwrap_or-digits, then-digits-gt6-via-then-digits-gt6, then-digits-gt6-via-else-digits-gt6+then-starts_with}}
use Rattle.conversions.proofs.parameters.number.Goals as goal

-- the digits are those after an optional minus
without : (c : After-unwrap_or-digits) → IsWithoutMinus c.args.word.now c.unwrap_or-digits.result.now
without c =
    rw c.unwrap_or-digits.ensures (without_minus c.strip_prefix.result c.args.word
    (strip_prefix_char 45 c.args.word.now c.strip_prefix.result c.strip_prefix.ensures.cases (omega arith)))

pub returns-then-digits-gt6 : goal.returns-then-digits-gt6
returns-then-digits-gt6 c =
    let is = without (goal.at.returns-then-digits-gt6 c).After-unwrap_or-digits in
    elim c.then-digits-gt6.branch [
      | then-digits-gt6-via-then-digits-gt6 w ↦ number-none_if_long _ c.unwrap_or-digits.result.now is (omega arith)
      | then-digits-gt6-via-else-digits-gt6+then-starts_with w ↦ number-none_if_plus _ c.unwrap_or-digits.result.now is
          ((starts_char 43 c.unwrap_or-digits.result.now w.starts_with.result w.starts_with.ensures.cases (omega arith)
          (omega arith)).0 w.if-starts_with.true)
    ]

pub returns : goal.returns
returns c =
    let is = without (goal.at.returns c).After-unwrap_or-digits in
    c.ok.ensures.value ∙ number-some c.args.word.now c.unwrap_or-digits.result.now c.parse.result is (omega arith)
    (λ e. both_ways _ c.if-starts_with.false ((starts_char 43 c.unwrap_or-digits.result.now c.starts_with.result
    c.starts_with.ensures.cases (omega arith) (omega arith)).1 e)) c.parse.ensures.value.0
