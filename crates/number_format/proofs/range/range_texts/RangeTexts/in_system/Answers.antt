use Rattle.std.proofs.Common.{refl}
use Rattle.number_format.proofs.range.range_texts.RangeTexts.in_system.Goals as goal

pub returns-clause-some : goal.returns-clause-some
returns-clause-some c = record {
  tag_is = refl;
  id = c.in_ok-_id._id;
  system = c.args.system.now;
  rows = c.in_ok-_id.ensures.rows;
  system_is = refl;
  format_is = c.range_format-format.ensures;
}
