use Rattle.std.proofs.Common.{Some, ap, ◌∙◌}
use Rattle.locale_data.proofs.lemmas.currency_code.Letters.{code_of_code}
use Rattle.fixed_decimal_c.proofs.styles.code_bytes.Goals as goal

pub returns : goal.returns
returns c = code_of_code _ c.to_bytes.ensures.code ∙ ap Some c.to_bytes.ensures.value
