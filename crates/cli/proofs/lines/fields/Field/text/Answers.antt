use Rattle.std.proofs.Common.{◌≡◌, false, inr, ap, sym, ◌∙◌, rules}
use Rattle.std.specs.List.{list_any}
use Rattle.cli.specs.Fields.{is_quote, between_quotes}
use Rattle.cli.proofs.lemmas.lines.Quotes.{doubled_plain}
use Rattle.cli.proofs.lines.fields.Field.text.Goals as goal

pub returns-then-not-has_quote-clause-some : goal.returns-then-not-has_quote-clause-some
returns-then-not-has_quote-clause-some c =
    let none : list_any is_quote c.in-Some.inner.now ≡ false = search rules in
    inr (search rules, c.in-Some.ensures.some ∙ ap between_quotes (sym (doubled_plain c.in-Some.inner.now none)))
