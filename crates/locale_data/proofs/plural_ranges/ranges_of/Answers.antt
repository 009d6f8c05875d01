use Rattle.std.proofs.Common.{ℕ, List, [], Option, ap, ◌∙◌}
use Rattle.std.specs.Option.{option_map_or}
use Rattle.locale_data.specs.{declared.tables.{rows.plurals.RangeLanguage.RangeLanguage, plural_ranges.TheConstants.{RANGE_CATEGORIES, RANGE_LANGUAGES}}, Rows.{part, row_named}, Tag.compared}
use Rattle.locale_data.proofs.lemmas.tables.RangeRows.{range_languages_are_table}
use Rattle.locale_data.proofs.plural_ranges.ranges_of.Goals as goal

pub row_named-requires : goal.row_named-requires
row_named-requires c = range_languages_are_table

pub returns-in-Some : goal.returns-in-Some
returns-in-Some c =
    let rows = λ (language : Option RangeLanguage). option_map_or (λ l. part RANGE_CATEGORIES l.ranges) language [] in
    let named = λ (name : List ℕ). rows (row_named (λ (l : RangeLanguage). l.tag) RANGE_LANGUAGES (compared name)) in
    c.part.ensures ∙ ap rows c.in-Some.ensures ∙ ap named c.first_subtag.ensures
