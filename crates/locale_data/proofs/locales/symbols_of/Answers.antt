use Rattle.std.proofs.Common.{lit≤}
use Rattle.locale_data.proofs.lemmas.tables.EachRow.{short_text}
use Rattle.locale_data.proofs.locales.symbols_of.Goals as goal

pub of_valid-requires : goal.of_valid-requires
of_valid-requires c = record {
  one_width = c.requires;
  decimal_in = short_text _ _ c.text-decimal.ensures;
  grouping_in = short_text _ _ c.text-grouping.ensures;
  minus_prefix_in = short_text _ _ c.text.ensures;
  minus_suffix_in = lit≤ tt;
  plus_prefix_in = short_text _ _ c.text-2.ensures;
  plus_suffix_in = lit≤ tt;
}
