use Rattle.locale_data.proofs.lemmas.locales.UniqueRows.{locale_is_unique}
use Rattle.locale_data.proofs.laws.locale_is_unique.Goals as goal

pub returns : goal.returns
returns c = locale_is_unique
