use Rattle.std.proofs.Common.{ap, ◌∙◌}
use Rattle.locale_names.specs.Texts.{text_or_nothing, text_in}
use Rattle.locale_names.proofs.texts.text_in.Goals as goal

pub returns-clause-value : goal.returns-clause-value
unfolding text_in
returns-clause-value c = c.text_or_nothing.ensures.value ∙ ap text_or_nothing c.bytes_in.ensures.value
