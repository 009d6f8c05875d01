use Rattle.std.proofs.Common.{◌≡◌, ◌≢◌, ◌∙◌, [], Some, inr, sym, ap, subst, arith}
use Rattle.std.specs.Option.{option_copied}
use Rattle.conversions.specs.{Parameters.{tag_of, option_of, locale_tag, locale_option}, ReadWord.{read_option, IsNumberReader, SkeletonReaderFails, SkeletonFails, ReaderFails}}
use Rattle.conversions.proofs.lemmas.calls.Results.{err_with}
use Rattle.conversions.proofs.read_word.parse_reader.Goals as goal

pub returns-in_err-reader-2-clause-err : goal.returns-in_err-reader-2-clause-err
returns-in_err-reader-2-clause-err c =
    let residual = c.from_residual-in_err-reader-2 in
    let failed = c.in_err-reader-2 in
    let word = c.in-Some.word.now in
    let text = c.in-Some-skeleton.skeleton.now in
    let mode = c.split_mode-mode.result.0 in
    let tag : c.split_parameters.result.0.now ≡ locale_tag word =
    c.split_parameters.ensures.tag ∙ ap tag_of c.parameters.ensures in
    let option = c.split_parameters.ensures.option ∙ ap option_of c.parameters.ensures in
    let is : read_option (locale_option word) ≡ (mode, Some text) =
    ap read_option (sym option) ∙ sym c.split_mode-mode.ensures
    ∙ ap (λ s. (mode, option_copied s)) c.in-Some-skeleton.is in
    let some : text ≢ [] = grind arith in
    let named = subst (λ t. SkeletonReaderFails t text failed.field-0.0) tag failed.ensures.err in
    let fails : ReaderFails (Some word) failed.field-0.0 =
    subst (λ o. SkeletonFails word o.1 failed.field-0.0) (sym is) (inr (some, named)) in
    rw c.in-Some.is (err_with (ReaderFails (Some word)) residual.result failed.field-0.0 residual.ensures.1 fails)

pub returns-clause-some : goal.returns-clause-some
returns-clause-some c =
    let word = c.in-Some.word.now in
    let text = c.in-Some-skeleton.skeleton.now in
    let reader = c.in_ok-reader-2.reader in
    let mode = c.split_mode-mode.result.0 in
    let tag : c.split_parameters.result.0.now ≡ locale_tag word =
    c.split_parameters.ensures.tag ∙ ap tag_of c.parameters.ensures in
    let option = c.split_parameters.ensures.option ∙ ap option_of c.parameters.ensures in
    let is : read_option (locale_option word) ≡ (mode, Some text) =
    ap read_option (sym option) ∙ sym c.split_mode-mode.ensures
    ∙ ap (λ s. (mode, option_copied s)) c.in-Some-skeleton.is in
    let some : text ≢ [] = grind arith in
    rw c.in-Some.is (text, is, some, subst (λ t. IsNumberReader t text reader) tag c.in_ok-reader-2.ensures.ok)
