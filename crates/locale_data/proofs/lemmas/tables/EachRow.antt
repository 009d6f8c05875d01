-- What is true of each row of the tables, by computation, and of the texts of symbols.
use Rattle.std.proofs.{Common.{◌≡◌, ℕ, ◌<◌, ◌≤◌, ◌==◌, ◌&&◌, nat_lt, Bool, true, List, length, slice_get, Some, None, refl, sym, ◌∙◌, inl, inr, lit≤, arith}, lemmas.{Bool.{and_parts, Decides.nat_tests}, List.{Elements.All-contains, Sums.AllPass-from_list_all}, Option.{slice_get_within, slice_get_cases, get_or_from_slice_get, none-some}, Str.IsUtf8-from_is_utf8}}
use Rattle.std.specs.{Prelude.{encode_utf8, slice_index}, List.{list_all, Contains}, Str.{IsUtf8, bytes_eq, is_utf8, chars}}
use Rattle.locale_data.specs.{declared.tables.{rows.symbols.{Symbol.{Symbol, TheVariants.{Period, Comma}}, DecimalSystem.DecimalSystem, LocaleSymbols.LocaleSymbols}, symbols.TheConstants.{LOCALES, NUMBERING_SYSTEMS}, plurals.TheConstants.PLURAL_RULES}, Symbol.symbol_text, Tag.compared, Rows.unpadded, SortedRows.{key, is_table}, Locales.{own_rows, system_named, HasOneWidth}}
use Rattle.locale_data.proofs.lemmas.search.SortedRows.{find_some}

-- a test that passes for each element of a list passes for those in it
pub passes : {X : Type 0} (q : X → Bool) (xs : List X) (x : X) → list_all q xs ≡ true → Contains xs x → q x ≡ true
passes q xs x all is = All-contains (λ x. q x ≡ true) xs x (AllPass-from_list_all q xs all) is

-- an index that passes the test is below a length
pub below : (i n : ℕ) → nat_lt i n ≡ true → i < n
below i n h = grind (arith, nat_tests, h)

-- a row with an index is in the table
pub contains_at : {X : Type 0} (xs : List X) (k : ℕ) (x : X) → slice_get xs k ≡ Some x → Contains xs x
contains_at xs k x e = (k, slice_get_within xs k x e, get_or_from_slice_get xs k x x e)

pub not_past : {X : Type 0} (xs : List X) (k : ℕ) → k < length xs → slice_get xs k ≡ None → ⊥
not_past xs k inside none = elim ((slice_get_cases xs k).1) [
  | inl at ↦ none-some at.0 (sym none ∙ at.2)
  | inr past ↦ omega (arith, past.0)
]

-- ---- The digits of a numbering system.

-- the length of a digit
abbrev width : List ℕ → ℕ → ℕ
width digits d = length (encode_utf8 (slice_index digits d))

abbrev has_width : ℕ → ℕ → Bool
has_width n c = length (encode_utf8 c) == n

abbrev has_one_width : DecimalSystem → Bool
has_one_width s = (length s.digits == 10) && list_all (has_width (width s.digits 0)) s.digits

systems_have_one_width : list_all has_one_width NUMBERING_SYSTEMS ≡ true
unfolding lib.Utf8.encode
systems_have_one_width = refl

pub listed_by_name : (name : List ℕ) (s : DecimalSystem) → system_named name ≡ Some s → Contains NUMBERING_SYSTEMS s
unfolding system_named
listed_by_name name s found =
    (find_some (λ s. bytes_eq (unpadded s.name) (compared name)) NUMBERING_SYSTEMS s found).0

pub listed-width : (s : DecimalSystem) → Contains NUMBERING_SYSTEMS s → HasOneWidth s.digits
listed-width s listed = λ d few.
    let both = passes has_one_width NUMBERING_SYSTEMS s systems_have_one_width listed in
    let has = has_width (width s.digits 0) in
    let parts = and_parts (length s.digits == 10) (list_all has s.digits) both in
    let ten : length s.digits ≡ 10 = grind (arith, nat_tests, parts.0) in
    let same = AllPass-from_list_all has s.digits parts.1 d 0 (omega arith) in
    grind (arith, nat_tests, same)

-- ---- The tables are sorted.

pub locales_are_table : is_table (λ l. l.tag) LOCALES ≡ true
unfolding key
locales_are_table = refl

pub systems_are_table : is_table (λ s. s.name) NUMBERING_SYSTEMS ≡ true
unfolding key
systems_are_table = refl

-- the rows of a numbering system are sorted
abbrev has_rows : DecimalSystem → Bool
has_rows s = is_table (λ (l : LocaleSymbols). l.tag) (own_rows s)

systems_have_rows : list_all has_rows NUMBERING_SYSTEMS ≡ true
unfolding key
systems_have_rows = refl

pub has_rows_if_listed : (s : DecimalSystem) → Contains NUMBERING_SYSTEMS s → has_rows s ≡ true
has_rows_if_listed s listed = passes has_rows NUMBERING_SYSTEMS s systems_have_rows listed

pub languages_are_table : is_table (λ l. l.tag) PLURAL_RULES ≡ true
unfolding key
languages_are_table = refl

-- ---- The default numbering system of a locale.

abbrev has_system : LocaleSymbols → Bool
has_system l = nat_lt l.system (length NUMBERING_SYSTEMS)

locales_have_systems : list_all has_system LOCALES ≡ true
locales_have_systems = refl

pub has_system_if_listed : (l : LocaleSymbols) → Contains LOCALES l → l.system < length NUMBERING_SYSTEMS
has_system_if_listed l listed = below l.system _ (passes has_system LOCALES l locales_have_systems listed)

-- the names of numbering systems are texts
abbrev has_text : DecimalSystem → Bool
has_text s = is_utf8 (unpadded s.name)

systems_have_texts : list_all has_text NUMBERING_SYSTEMS ≡ true
unfolding is_utf8 chars lib.Utf8.encode
systems_have_texts = refl

pub has_text_if_listed : (s : DecimalSystem) → Contains NUMBERING_SYSTEMS s → IsUtf8 (unpadded s.name)
has_text_if_listed s listed =
    IsUtf8-from_is_utf8 (unpadded s.name) (passes has_text NUMBERING_SYSTEMS s systems_have_texts listed)

-- ---- The texts of symbols.

pub symbol_text-short : (s : Symbol) → length (symbol_text s) ≤ 255
symbol_text-short Period = lit≤ tt
symbol_text-short Comma = lit≤ tt
symbol_text-short _ = lit≤ tt

pub short_text : (text : List ℕ) (s : Symbol) → text ≡ symbol_text s → length text ≤ 255
short_text text s e = rw e (symbol_text-short s)
