-- The tables of ranges are sorted, by computation.
use Rattle.std.proofs.Common.{◌≡◌, ℕ, Bool, true, List, Some, refl}
use Rattle.std.specs.{List.{list_all, Contains}, Str.bytes_eq, Prelude.find}
use Rattle.locale_data.specs.{declared.tables.{plural_ranges.TheConstants.RANGE_LANGUAGES, rows.ranges.{LocaleRange.LocaleRange, RangeSystem.RangeSystem}, ranges.TheConstants.{LOCALE_RANGES, RANGES_BY_SYSTEM, RANGE_SYSTEMS}}, Rows.{part, unpadded, row_named}, SortedRows.{key, is_table}, Tag.compared}
use Rattle.locale_data.proofs.lemmas.{tables.EachRow.passes, search.SortedRows.find_some}

pub range_languages_are_table : is_table (λ l. l.tag) RANGE_LANGUAGES ≡ true
unfolding key
range_languages_are_table = refl

pub ranges_are_table : is_table (λ l. l.tag) LOCALE_RANGES ≡ true
unfolding key
ranges_are_table = refl

pub range_systems_are_table : is_table (λ s. s.name) RANGE_SYSTEMS ≡ true
unfolding key
range_systems_are_table = refl

abbrev has_ranges : RangeSystem → Bool
has_ranges s = is_table (λ (l : LocaleRange). l.tag) (part RANGES_BY_SYSTEM s.rows)

systems_have_ranges : list_all has_ranges RANGE_SYSTEMS ≡ true
unfolding key
systems_have_ranges = refl

pub has_ranges_if_named : (name : List ℕ) (s : RangeSystem)
    → row_named (λ s. s.name) RANGE_SYSTEMS (compared name) ≡ Some s → has_ranges s ≡ true
has_ranges_if_named name s found =
    passes has_ranges RANGE_SYSTEMS s systems_have_ranges
    (find_some (λ s. bytes_eq (unpadded s.name) (compared name)) RANGE_SYSTEMS s found).0
