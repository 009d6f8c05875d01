use Rattle.std.proofs.Common.{◌≡◌, ◌∙◌, ap, subst}
use Rattle.locale_data.specs.Locales.{IsUnknown}
use Rattle.number_format.specs.FormattedRanges.{AreRangeTexts}
use Rattle.conversions.specs.{Parameters.{tag_of, locale_tag}, RangeText.system_of, ShownWord.IsShown}
use Rattle.conversions.proofs.lemmas.conversion.RangeWords.{texts_fail}
use Rattle.conversions.proofs.range_word.parse_range_formatter.Goals as goal

pub returns-in-Some-clause-ok : goal.returns-in-Some-clause-ok
returns-in-Some-clause-ok c =
    let tag : c.split_parameters.result.0.now ≡ locale_tag c.args.word.now =
    c.split_parameters.ensures.tag ∙ ap tag_of c.parameters.ensures in
    let texts = rw c.numbering_system.ensures at c.in-Some.ensures.some in (
      c.in_ok-numbers.ensures.ok,
      subst (λ t. AreRangeTexts t (system_of c.in_ok-numbers.numbers) c.in-Some.texts) tag texts,
    )

pub returns-in-None-clause-err : goal.returns-in-None-clause-err
returns-in-None-clause-err c =
    let tag : c.split_parameters.result.0.now ≡ locale_tag c.args.word.now =
    c.split_parameters.ensures.tag ∙ ap tag_of c.parameters.ensures in
    texts_fail c.args.word.now c.in_ok-numbers.numbers c.of-in-None.result c.in_ok-numbers.ensures.ok
    (subst IsUnknown tag c.in-None.ensures.none) (subst (λ t. IsShown t c.of-in-None.result) tag c.of-in-None.ensures)
