use Rattle.std.proofs.Common.{ap}
use Rattle.std.specs.Option.{option_map_or}
use Rattle.locale_data.specs.declared.tables.{rows.ranges.LocaleRange.LocaleRange, ranges.TheConstants.ROOT_RANGE}
use Rattle.locale_data.proofs.range_formats.range_format.Goals as goal

pub returns-in-Some : goal.returns-in-Some
returns-in-Some c = record {
  own = c.row_in_system-own.result;
  latin = c.row_in_latin.result;
  in_system = rw (c.as_bytes.ensures.value, c.as_bytes-tag.ensures.value) at c.row_in_system-own.ensures;
  in_latin = rw c.as_bytes-tag.ensures.value at c.row_in_latin.ensures;
  value = ap (λ row. option_map_or (λ (l : LocaleRange). l.format) row ROOT_RANGE) c.in-Some.ensures;
}

pub returns-in-None : goal.returns-in-None
returns-in-None c = record {
  own = c.row_in_system-own.result;
  latin = c.row_in_latin.result;
  in_system = rw (c.as_bytes.ensures.value, c.as_bytes-tag.ensures.value) at c.row_in_system-own.ensures;
  in_latin = rw c.as_bytes-tag.ensures.value at c.row_in_latin.ensures;
  value = ap (λ row. option_map_or (λ (l : LocaleRange). l.format) row ROOT_RANGE) c.in-None.ensures;
}
