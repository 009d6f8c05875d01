-- The plural categories of ranges of numbers.
use Rattle.std.specs.{Prelude.{ℕ, ◌==◌, ◌&&◌, Bool, List, [], find}, Option.option_map_or}
use Rattle.plural_rules.specs.declared.rules.PluralCategory.{PluralCategory, TheVariants.{Zero, One, Two, Few, Many, Other}}
use Rattle.locale_data.specs.{declared.tables.{rows.plurals.{RangeCategory.RangeCategory, RangeLanguage.RangeLanguage}, plural_ranges.TheConstants.{RANGE_CATEGORIES, RANGE_LANGUAGES}}, Rows.{part, row_named}, Tag.{compared, first_subtag}}

-- the number of a category in the order of CLDR
abbrev pub order_of : PluralCategory → ℕ
order_of Zero = 0
order_of One = 1
order_of Two = 2
order_of Few = 3
order_of Many = 4
order_of Other = 5

abbrev pub is_same : PluralCategory → PluralCategory → Bool
is_same first second = order_of first == order_of second

-- a row is that of a start and an end of these categories
abbrev pub is_of : PluralCategory → PluralCategory → RangeCategory → Bool
is_of start end row = is_same row.start start && is_same row.end end

-- the rows of the language of a tag, `ru` of `ru-RU`, if it has some
abbrev pub ranges_of : List ℕ → List RangeCategory
ranges_of tag =
    option_map_or (λ language. part RANGE_CATEGORIES language.ranges)
    (row_named (λ l. l.tag) RANGE_LANGUAGES (compared (first_subtag tag))) []

-- the category of a range: that of the row of its start and its end, and `other` if no row has the two
unfoldable pub plural_range_category : List ℕ → PluralCategory → PluralCategory → PluralCategory
plural_range_category tag start end =
    option_map_or (λ row. row.category) (find (is_of start end) (ranges_of tag)) Other
