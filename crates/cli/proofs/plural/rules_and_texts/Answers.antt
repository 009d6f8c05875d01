use Rattle.std.proofs.Common.{◌≡◌, ◌≢◌, ◌<◌, [], ◌∷◌, length, string_bytes, inr, refl, sym, ap, subst, ◌∙◌, arith, rules}
use Rattle.cli.specs.{Error.error_of_rules, Plural.{named_tag, RulesFail}, TextCategory.text_rules}
use Rattle.conversions.specs.NamedRules.{NamesRules, NamesNoRules}
use Rattle.conversions.proofs.lemmas.calls.Results.{err_with}
use Rattle.cli.proofs.plural.rules_and_texts.Goals as goal

pub returns-in_err-rules-clause-error : goal.returns-in_err-rules-clause-error
returns-in_err-rules-clause-error c =
    let first = c.in-Some.first.now in
    let texts = c.in-Some.texts.now in
    let error = c.in_err-rules.field-0.0 in
    let is : c.args.words.now ≡ first ∷ texts = search rules in
    let some : 0 < length texts = search rules in
    let others : texts ≢ [] = λ none. absurd (omega (arith, some, ap length none)) in
    let answers : NamesNoRules (string_bytes first) error =
    subst (λ text. NamesNoRules text error) c.as_str-word.ensures.value c.in_err-rules.ensures.err in
    err_with (RulesFail c.args.words.now) c.from_residual.result (error_of_rules error) c.from_residual.ensures.1
    (inr (first, texts, is, others, (error, refl, answers)))

pub returns-clause-found : goal.returns-clause-found
returns-clause-found c =
    let first = c.in-Some.first.now in
    let texts = c.in-Some.texts.now in
    let meaning = c.in_ok-rules.rules in
    let is : c.args.words.now ≡ first ∷ texts = search rules in
    let some : 0 < length texts = search rules in
    let others : texts ≢ [] = λ none. absurd (omega (arith, some, ap length none)) in
    let at_word = c.as_str-word.ensures.value in
    let names : NamesRules (string_bytes first) meaning = rw at_word at c.in_ok-rules.ensures.ok in
    let tag = c.named_tag.ensures ∙ ap named_tag at_word in
    (first, texts, is, others, (meaning, names, (sym (c.new.ensures ∙ ap (text_rules meaning) tag), refl)))
