use Rattle.std.proofs.Common.{rules}
use Rattle.std.specs.Str.{IsUtf8}
use Rattle.number_format.specs.Formatters.{AreIdsOf, LacksRows}
use Rattle.fixed_decimal_c.proofs.formatter.FdFormatter.of.Goals as goal

pub returns-in-Ok-of-clause-ok : goal.returns-in-Ok-of-clause-ok
returns-in-Ok-of-clause-ok c =
    let utf8 : IsUtf8 c.args.tag.now = search rules in
    let exist : LacksRows c.in-Ok-of.ids → ⊥ = search rules in
    let ids : AreIdsOf c.args.tag.now c.args.options.now c.in-Ok-of.ids = search rules in
    (utf8, c.kept_tag-kept.ensures, (c.in-Ok-of.ids, ids, exist, c.encode.ensures, c.encode-in-Ok-of.ensures))
