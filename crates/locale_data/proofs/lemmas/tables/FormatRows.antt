-- The tables of formats are sorted, and their indices are those of rows, by computation.
use Rattle.std.proofs.{Common.{◌≡◌, ℕ, ◌<◌, ◌&&◌, nat_lt, Bool, true, List, length, Option, Some, None, refl, ap, ◌∙◌}, lemmas.Bool.and_parts}
use Rattle.std.specs.{Prelude.unwrap_or, Str.bytes_eq, List.{list_all, Contains}, Option.option_map_or}
use Rattle.locale_data.specs.{declared.tables.{compact.TheConstants.{COMPACT_SETS, PERCENT_UNITS}, rows.formats.{FormatSystem.FormatSystem, LocaleFormats.LocaleFormats, SystemFormats.SystemFormats}, formats.TheConstants.{PATTERNS, NUMBER_SIGNS, MONEY_FORMATS, LOCALE_FORMATS, ROOT_FORMATS, FORMATS_BY_SYSTEM, FORMAT_SYSTEMS}}, Formats.{chosen, format_system, no_formats, IsRowElse, IsLatinFormats, AreOfSystem}, Rows.{part, unpadded, IsRowOf}, SortedRows.{key, is_table}, Tag.compared}
use Rattle.locale_data.proofs.lemmas.{tables.EachRow.{passes, below}, search.SortedRows.find_some}

-- ---- The tables are sorted.

pub formats_are_table : is_table (λ l. l.tag) LOCALE_FORMATS ≡ true
unfolding key
formats_are_table = refl

pub format_systems_are_table : is_table (λ s. s.name) FORMAT_SYSTEMS ≡ true
unfolding key
format_systems_are_table = refl

abbrev has_formats : FormatSystem → Bool
has_formats s = is_table (λ (l : SystemFormats). l.tag) (part FORMATS_BY_SYSTEM s.rows)

systems_have_formats : list_all has_formats FORMAT_SYSTEMS ≡ true
unfolding key
systems_have_formats = refl

pub has_formats_if_listed : (s : FormatSystem) → Contains FORMAT_SYSTEMS s → has_formats s ≡ true
has_formats_if_listed s listed = passes has_formats FORMAT_SYSTEMS s systems_have_formats listed

-- ---- The indices are those of rows.

-- an index, if there is one, is below a length
abbrev is_below : ℕ → Option ℕ → Bool
is_below n index = option_map_or (λ i. nat_lt i n) index true

chosen-below : (n : ℕ) (own root : Option ℕ) (latin : ℕ) → is_below n own ≡ true → is_below n root ≡ true
    → nat_lt latin n ≡ true → chosen own root latin < n
chosen-below n (Some i) root latin p q r = below i n p
chosen-below n None (Some i) latin p q r = below i n q
chosen-below n None None latin p q r = below latin n r

-- the indices of a row in a numbering system, and of a row in `latn`
abbrev system_fits : SystemFormats → Bool
system_fits s =
    is_below (length PATTERNS) s.percent && (is_below (length PATTERNS) s.standard
    && (is_below (length PATTERNS) s.accounting && (is_below (length NUMBER_SIGNS) s.signs
    && is_below (length COMPACT_SETS) s.compact)))

abbrev latin_fits : LocaleFormats → Bool
latin_fits l =
    nat_lt l.percent (length PATTERNS) && (nat_lt l.standard (length PATTERNS)
    && (nat_lt l.accounting (length PATTERNS) && (nat_lt l.signs (length NUMBER_SIGNS)
    && (nat_lt l.compact (length COMPACT_SETS) && (nat_lt l.unit (length PERCENT_UNITS)
    && nat_lt l.money (length MONEY_FORMATS))))))

locales_fit : list_all latin_fits LOCALE_FORMATS ≡ true
locales_fit = refl

root_fits : latin_fits ROOT_FORMATS ≡ true
root_fits = refl

roots_fit : list_all (λ s. system_fits s.root) FORMAT_SYSTEMS ≡ true
roots_fit = refl

rows_fit : list_all (λ s. list_all system_fits (part FORMATS_BY_SYSTEM s.rows)) FORMAT_SYSTEMS ≡ true
rows_fit = refl

-- what a table has for a tag passes a test that each row and the usual one pass
else-passes : {R : Type 0} (name_of : R → List ℕ) (rows : List R) (usual : R) (tag : List ℕ) (found : R) (q : R → Bool)
    → list_all q rows ≡ true → q usual ≡ true → IsRowElse name_of rows usual tag found → q found ≡ true
else-passes name_of rows usual tag found q each default is = by is.row is.listed is.value
  where
    by : (row : Option _) → IsRowOf name_of rows tag row → found ≡ unwrap_or row usual → q found ≡ true
    by None listed e = ap q e ∙ default
    by (Some row) listed e = ap q e ∙ passes q rows row each listed.0

latin-fits : (tag : List ℕ) (latin : LocaleFormats) → IsLatinFormats tag latin → latin_fits latin ≡ true
latin-fits tag latin is = else-passes _ LOCALE_FORMATS ROOT_FORMATS tag latin latin_fits locales_fit root_fits is

pub listed_system : (name : List ℕ) (s : FormatSystem) → format_system name ≡ Some s → Contains FORMAT_SYSTEMS s
listed_system name s found =
    (find_some (λ s. bytes_eq (unpadded s.name) (compared name)) FORMAT_SYSTEMS s found).0

system-fits : (name tag : List ℕ) (own root : SystemFormats) → AreOfSystem (format_system name) tag own root
    → (system_fits own ≡ true) × (system_fits root ≡ true)
system-fits name tag own root are = by (format_system name) refl are
  where
    by : (o : Option FormatSystem) → format_system name ≡ o → AreOfSystem o tag own root
        → (system_fits own ≡ true) × (system_fits root ≡ true)
    by None e (a, b) = (ap system_fits a, ap system_fits b)
    by (Some s) e (a, b) =
        let listed = listed_system name s e in
        let rows = part FORMATS_BY_SYSTEM s.rows in
        let each = passes (λ (s : FormatSystem). list_all system_fits (part FORMATS_BY_SYSTEM s.rows)) FORMAT_SYSTEMS s
        rows_fit listed in (
          else-passes _ rows no_formats tag own system_fits each refl a,
          ap system_fits b ∙ passes (λ (s : FormatSystem). system_fits s.root) FORMAT_SYSTEMS s roots_fit listed,
        )

all5 : (a b c d e : Bool) → (a && (b && (c && (d && e)))) ≡ true
    → (a ≡ true) × ((b ≡ true) × ((c ≡ true) × ((d ≡ true) × (e ≡ true))))
all5 a b c d e h =
    let p = and_parts a (b && (c && (d && e))) h in
    let q = and_parts b (c && (d && e)) p.1 in
    let r = and_parts c (d && e) q.1 in
    (p.0, (q.0, (r.0, and_parts d e r.1)))

all7 : (a b c d e f g : Bool) → (a && (b && (c && (d && (e && (f && g)))))) ≡ true
    → (a ≡ true) × ((b ≡ true) × ((c ≡ true) × ((d ≡ true) × ((e ≡ true) × ((f ≡ true) × (g ≡ true))))))
all7 a b c d e f g h =
    let p = and_parts a (b && (c && (d && (e && (f && g))))) h in
    let q = and_parts b (c && (d && (e && (f && g)))) p.1 in
    (p.0, (q.0, all5 c d e f g q.1))

system-parts : (s : SystemFormats) → system_fits s ≡ true
    → (is_below (length PATTERNS) s.percent ≡ true) × ((is_below (length PATTERNS) s.standard ≡ true)
    × ((is_below (length PATTERNS) s.accounting ≡ true) × ((is_below (length NUMBER_SIGNS) s.signs ≡ true)
    × (is_below (length COMPACT_SETS) s.compact ≡ true))))
system-parts s h =
    all5 (is_below (length PATTERNS) s.percent) (is_below (length PATTERNS) s.standard)
    (is_below (length PATTERNS) s.accounting) (is_below (length NUMBER_SIGNS) s.signs)
    (is_below (length COMPACT_SETS) s.compact) h

-- the indices of the formats of a tag
pub record AreBelow (own root : SystemFormats) (latin : LocaleFormats) : Type 0 where
  pub percent : chosen own.percent root.percent latin.percent < length PATTERNS
  pub standard : chosen own.standard root.standard latin.standard < length PATTERNS
  pub accounting : chosen own.accounting root.accounting latin.accounting < length PATTERNS
  pub signs : chosen own.signs root.signs latin.signs < length NUMBER_SIGNS
  pub compact : chosen own.compact root.compact latin.compact < length COMPACT_SETS
  pub unit : latin.unit < length PERCENT_UNITS
  pub money : latin.money < length MONEY_FORMATS

pub formats-below : (name tag : List ℕ) (own root : SystemFormats) (latin : LocaleFormats) → IsLatinFormats tag latin
    → AreOfSystem (format_system name) tag own root → AreBelow own root latin
formats-below name tag own root latin is are =
    let fits = system-fits name tag own root are in
    let o = system-parts own fits.0 in
    let r = system-parts root fits.1 in
    let l =
    all7 (nat_lt latin.percent (length PATTERNS)) (nat_lt latin.standard (length PATTERNS))
    (nat_lt latin.accounting (length PATTERNS)) (nat_lt latin.signs (length NUMBER_SIGNS))
    (nat_lt latin.compact (length COMPACT_SETS)) (nat_lt latin.unit (length PERCENT_UNITS))
    (nat_lt latin.money (length MONEY_FORMATS)) (latin-fits tag latin is) in
    record {
      percent = chosen-below (length PATTERNS) own.percent root.percent latin.percent o.0 r.0 l.0;
      standard = chosen-below (length PATTERNS) own.standard root.standard latin.standard o.1.0 r.1.0 l.1.0;
      accounting = chosen-below (length PATTERNS) own.accounting root.accounting latin.accounting o.1.1.0 r.1.1.0
          l.1.1.0;
      signs = chosen-below (length NUMBER_SIGNS) own.signs root.signs latin.signs o.1.1.1.0 r.1.1.1.0 l.1.1.1.0;
      compact = chosen-below (length COMPACT_SETS) own.compact root.compact latin.compact o.1.1.1.1 r.1.1.1.1
          l.1.1.1.1.0;
      unit = below latin.unit (length PERCENT_UNITS) l.1.1.1.1.1.0;
      money = below latin.money (length MONEY_FORMATS) l.1.1.1.1.1.1;
    }
