use Rattle.std.proofs.Common.{refl, sym, ◌∙◌}
use Rattle.number_format.proofs.format.formatter.NumberFormatter.has_number_or_meaning.Goals as goal

pub returns-then-has_number_in : goal.returns-then-has_number_in
returns-then-has_number_in c =
    (λ t none. absurd (let e = sym c.if-has_number_in.true ∙ c.has_number_in.ensures ∙ none in cc), λ has. refl)

pub returns-then-not-is_for_one_alone : goal.returns-then-not-is_for_one_alone
returns-then-not-is_for_one_alone c = (
  λ t. absurd (cc),
  λ has. absurd (
      let whole = has (sym c.has_number_in.ensures ∙ c.if-has_number_in.false) in
      let t = c.is_for_one_alone.ensures.1 whole.one in cc (t, c.if-not-is_for_one_alone.true)),
)

pub returns-then-not-is_without_digit : goal.returns-then-not-is_without_digit
returns-then-not-is_without_digit c = (
  λ t. absurd (cc),
  λ has. absurd (
      let whole = has (sym c.has_number_in.ensures ∙ c.if-has_number_in.false) in
      let t = c.is_without_digit.ensures.1 whole.no_digit in cc (t, c.if-not-is_without_digit.true)),
)

pub returns : goal.returns
returns c = (
  λ t none. record {
    one = c.is_for_one_alone.ensures.0 c.if-not-is_for_one_alone.false;
    no_digit = c.is_without_digit.ensures.0 c.if-not-is_without_digit.false;
    meaning = c.has_one_meaning.ensures.0 t;
  },
  λ has. c.has_one_meaning.ensures.1 (has (sym c.has_number_in.ensures ∙ c.if-has_number_in.false)).meaning,
)
