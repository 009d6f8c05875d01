use Rattle.std.proofs.Common.{subst, sym}
use Rattle.std.specs.Str.{IsUtf8}
use Rattle.locale_data.proofs.lemmas.currency_code.Letters.{name_is_utf8}
use Rattle.locale_data.proofs.numbering_system.NumberingSystem.as_str.Goals as goal

pub from_utf8_unchecked-requires : goal.from_utf8_unchecked-requires
from_utf8_unchecked-requires c =
    subst IsUtf8 (sym c.unpadded.ensures) (name_is_utf8 _ c.self.invariant.name.bytes)
