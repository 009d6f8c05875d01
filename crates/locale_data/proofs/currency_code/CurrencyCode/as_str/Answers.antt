use Rattle.locale_data.proofs.lemmas.currency_code.Letters.{capitals_are_utf8}
use Rattle.locale_data.proofs.currency_code.CurrencyCode.as_str.Goals as goal

pub from_utf8_unchecked-requires : goal.from_utf8_unchecked-requires
from_utf8_unchecked-requires c = capitals_are_utf8 _ c.self.invariant.capitals
