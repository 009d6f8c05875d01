use Rattle.std.proofs.lemmas.Bool.{and_parts}
use Rattle.locale_data.specs.{declared.tables.compact.TheConstants.COMPACT_BYTES, Texts.is_text}
use Rattle.locale_data.proofs.compact.unit_of.Goals as goal

pub compact_text-requires : goal.compact_text-requires
compact_text-requires c =
    let unit = c.args.unit.now in
    (and_parts (is_text COMPACT_BYTES unit.prefix) (is_text COMPACT_BYTES unit.suffix) c.requires).0

pub compact_text-requires-2 : goal.compact_text-requires-2
compact_text-requires-2 c =
    let unit = c.args.unit.now in
    (and_parts (is_text COMPACT_BYTES unit.prefix) (is_text COMPACT_BYTES unit.suffix) c.requires).1
