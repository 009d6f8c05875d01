use Rattle.std.proofs.Common.{Result, Ok, Err, IfErr, inl, inr, sym, ap, ◌∙◌, rules}
use Rattle.std.specs.Prelude.{IfOk}
use Rattle.conversions.specs.Calls.{Names}
use Rattle.fixed_decimal_c.specs.{declared.{error.FdError.FdError, forms.FdForm.FdForm}, Words.{IsFormatWord, IsFormatForm, FormatFormFails, IsFormOr, call_word}}
use Rattle.fixed_decimal_c.proofs.lemmas.words.CallWords.{call_is}
use Rattle.fixed_decimal_c.proofs.words.parse_word.Goals as goal

form_or :
    (P : FdForm → Type 0) (Q : FdError → Type 0) (r : Result FdForm FdError) → IfOk r P → IfErr r Q → IsFormOr P Q r
form_or P Q (Ok form) holds fails = holds
form_or P Q (Err error) holds fails = fails

pub returns-then-starts_with-2 : goal.returns-then-starts_with-2
returns-then-starts_with-2 c =
    let word = c.args.word.now in
    let (same, utf8) = c.in-Ok.ensures.cases in
    let named : IsFormatWord word = search rules in
    let found = rw same at c.format_form.ensures.ok in
    let fails = rw same at c.format_form.ensures.err in
    let form = form_or (IsFormatForm word) (λ error. FormatFormFails error word) c.format_form.result found fails in
    inl (utf8, inr (inl (named, (c.format_form.result, form, c.form_word-then-starts_with-2.ensures))))

pub returns-in-Some : goal.returns-in-Some
returns-in-Some c =
    let word = c.args.word.now in
    let (same, utf8) = c.in-Ok.ensures.cases in
    let call = c.in-Some.call in
    let names : Names word call = sym (rw same at c.in-Some.ensures) in
    let is = c.call_word.ensures ∙ ap call_word c.encode_call.ensures in
    inl (utf8, inr (inr (call, names, call_is word call names, is)))
