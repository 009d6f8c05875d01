use Rattle.std.proofs.Common.{subst, sym}
use Rattle.std.specs.Str.{IsUtf8}
use Rattle.locale_data.proofs.lemmas.tables.TableTexts.{text-facts}
use Rattle.locale_data.proofs.texts.text_in.Goals as goal

pub from_utf8_unchecked-requires : goal.from_utf8_unchecked-requires
from_utf8_unchecked-requires c =
    subst IsUtf8 (sym c.part.ensures) (text-facts c.args.bytes.now c.args.range c.requires).utf8

pub returns-clause-short : goal.returns-clause-short
returns-clause-short c =
    rw (c.from_utf8_unchecked.ensures, c.part.ensures) (text-facts c.args.bytes.now c.args.range c.requires).short
