-- The ranges of compact patterns are parts of tables, and their texts are texts, by computation.
use Rattle.std.proofs.{Common.{◌≡◌, ℕ, ℤ, ◌==◌, ◌<◌, ◌&&◌, nat_lt, Bool, true, false, cond, List, [], ◌∷◌, length, Option, Some, None, refl, subst, sym, ap, ◌∙◌, ◌⊎◌, inl, inr}, lemmas.Bool.and_parts}
use Rattle.std.specs.{Prelude.{slice_get, option_and_then, not}, List.{list_all, Contains}, Option.{option_or, option_map_or}, Str.{is_utf8, chars}}
use Rattle.plural_rules.specs.declared.rules.PluralCategory.{PluralCategory}
use Rattle.plural_rules.specs.declared.rules.PluralCategory.TheVariants as category
use Rattle.locale_data.specs.{declared.{tables.{rows.{compact.{CompactPattern.CompactPattern, CompactRun.CompactRun, CompactSet.CompactSet, PercentUnit.PercentUnit}, TableRange.TableRange}, compact.TheConstants.{COMPACT_BYTES, COMPACT_EXPONENTS, COMPACT_SETS, COMPACT_RUNS, COMPACT_PATTERNS, PERCENT_UNITS}}, compact.CompactStyle.{CompactStyle, TheVariants.{Short, Long, Currency}}, number_formats.NumberFormats.NumberFormats}, Compact.{count_code, rows_of, run_at, pattern_with, pattern_for, needs_category, compact_patterns, unit_for, has_unit_texts, AreTexts, IsRun}, Rows.part}
use Rattle.locale_data.proofs.lemmas.{tables.{EachRow.{passes, below}, TableTexts.{passes_at, contains-part, rests, table_rests, is_text_by, texts-by}}, search.SortedRows.find_some}

abbrev compact_rests : List (List ℕ)
compact_rests = table_rests COMPACT_BYTES

abbrev has_affixes : List (List ℕ) → CompactPattern → Bool
has_affixes rests p = (is_text_by rests p.prefix.before && is_text_by rests p.prefix.after)
    && (is_text_by rests p.suffix.before && is_text_by rests p.suffix.after)

patterns_have_affixes : list_all (has_affixes compact_rests) COMPACT_PATTERNS ≡ true
unfolding rests is_utf8 chars lib.Utf8.encode
patterns_have_affixes = refl

has_affixes_if_listed : (p : CompactPattern) → Contains COMPACT_PATTERNS p → AreTexts p
has_affixes_if_listed p listed =
    let parts = and_parts (is_text_by compact_rests p.prefix.before && is_text_by compact_rests p.prefix.after)
    (is_text_by compact_rests p.suffix.before && is_text_by compact_rests p.suffix.after)
    (passes (has_affixes compact_rests) COMPACT_PATTERNS p patterns_have_affixes listed) in
    record {
      prefix = texts-by COMPACT_BYTES p.prefix.before p.prefix.after parts.0;
      suffix = texts-by COMPACT_BYTES p.suffix.before p.suffix.after parts.1;
    }

abbrev has_units : PercentUnit → Bool
has_units unit = has_unit_texts unit.one && has_unit_texts unit.other

percent_has_units : list_all has_units PERCENT_UNITS ≡ true
unfolding is_utf8 chars lib.Utf8.encode
percent_has_units = refl

pub has_unit_at : (i : ℕ) (unit : PercentUnit) (category : PluralCategory) → slice_get PERCENT_UNITS i ≡ Some unit
    → has_unit_texts (unit_for unit category) ≡ true
has_unit_at i unit which at =
    by which (and_parts (has_unit_texts unit.one) (has_unit_texts unit.other)
    (passes_at has_units PERCENT_UNITS i unit percent_has_units at))
  where
    by : (category : PluralCategory) → (has_unit_texts unit.one ≡ true) × (has_unit_texts unit.other ≡ true)
        → has_unit_texts (unit_for unit category) ≡ true
    by category.One has = has.0
    by category.Zero has = has.1
    by category.Two has = has.1
    by category.Few has = has.1
    by category.Many has = has.1
    by category.Other has = has.1

-- the exponents of a set are a row
abbrev have_exponents : CompactSet → Bool
have_exponents set =
    let count = length COMPACT_EXPONENTS in
    nat_lt set.short.exponents count && (nat_lt set.long.exponents count && nat_lt set.currency.exponents count)

sets_have_exponents : list_all have_exponents COMPACT_SETS ≡ true
sets_have_exponents = refl

pub has_exponents_at : (i : ℕ) (set : CompactSet) (style : CompactStyle) → slice_get COMPACT_SETS i ≡ Some set
    → (rows_of set style).exponents < length COMPACT_EXPONENTS
has_exponents_at i set style at =
    let count = length COMPACT_EXPONENTS in
    let parts = and_parts (nat_lt set.short.exponents count)
    (nat_lt set.long.exponents count && nat_lt set.currency.exponents count)
    (passes_at have_exponents COMPACT_SETS i set sets_have_exponents at) in
    let rest = and_parts (nat_lt set.long.exponents count) (nat_lt set.currency.exponents count) parts.1 in
    by style (below set.short.exponents count parts.0) (below set.long.exponents count rest.0)
    (below set.currency.exponents count rest.1)
  where
    by : (style : CompactStyle) → set.short.exponents < length COMPACT_EXPONENTS
        → set.long.exponents < length COMPACT_EXPONENTS → set.currency.exponents < length COMPACT_EXPONENTS
        → (rows_of set style).exponents < length COMPACT_EXPONENTS
    by Short short long currency = short
    by Long short long currency = long
    by Currency short long currency = currency

-- ---- What is found is a row.

or-some : {X : Type 0} (a b : Option X) (x : X) → option_or a b ≡ Some x → (a ≡ Some x) ⊎ (b ≡ Some x)
or-some None b x e = inr e
or-some (Some y) b x e = inl e

with-contains : (count : Option PluralCategory) (patterns : List CompactPattern) (p : CompactPattern)
    → pattern_with count patterns ≡ Some p → Contains patterns p
with-contains count patterns p e = (find_some (λ q. count_code q.count == count_code count) patterns p e).0

for-contains : (own : PluralCategory) (is_one : Bool) (patterns : List CompactPattern) (p : CompactPattern)
    → pattern_for own is_one patterns ≡ Some p → Contains patterns p
for-contains own is_one patterns p e =
    elim (or-some (option_or (exact is_one) (pattern_with (Some own) patterns))
    (pattern_with (Some category.Other) patterns) p e) [
      | inl f ↦ elim (or-some (exact is_one) (pattern_with (Some own) patterns) p f) [
        | inl g ↦ exactly is_one g
        | inr g ↦ with-contains (Some own) patterns p g
      ]
      | inr f ↦ with-contains (Some category.Other) patterns p f
    ]
  where
    exact : Bool → Option CompactPattern
    exact is_one = cond is_one (pattern_with None patterns) None

    exactly : (is_one : Bool) → exact is_one ≡ Some p → Contains patterns p
    exactly true e = with-contains None patterns p e
    exactly false e = cc

pub pattern_has_texts : (range : TableRange) (category : PluralCategory) (is_one : Bool) (p : CompactPattern)
    → pattern_for category is_one (part COMPACT_PATTERNS range) ≡ Some p → AreTexts p
pattern_has_texts range category is_one p e =
    has_affixes_if_listed p
    (contains-part COMPACT_PATTERNS range p (for-contains category is_one (part COMPACT_PATTERNS range) p e))

-- ---- A pattern of `Other` alone is for each number.

only_other : (p : CompactPattern) (own : PluralCategory) (is_one : Bool)
    → pattern_for own is_one (record p { count = Some category.Other } ∷ [])
    ≡ Some (record p { count = Some category.Other })
only_other p category.Zero true = refl
only_other p category.Zero false = refl
only_other p category.One true = refl
only_other p category.One false = refl
only_other p category.Two true = refl
only_other p category.Two false = refl
only_other p category.Few true = refl
only_other p category.Few false = refl
only_other p category.Many true = refl
only_other p category.Many false = refl
only_other p category.Other true = refl
only_other p category.Other false = refl

is_other : (count : Option PluralCategory) → not (count_code count == count_code (Some category.Other)) ≡ false
    → count ≡ Some category.Other
is_other (Some category.Other) e = refl
is_other None e = absurd (cc)
is_other (Some category.Zero) e = absurd (cc)
is_other (Some category.One) e = absurd (cc)
is_other (Some category.Two) e = absurd (cc)
is_other (Some category.Few) e = absurd (cc)
is_other (Some category.Many) e = absurd (cc)

none_of : (category : PluralCategory) (is_one : Bool) → pattern_for category is_one [] ≡ None
none_of category true = refl
none_of category false = refl

-- patterns that need no category have the same pattern for each number
pub same_pattern : (patterns : List CompactPattern) (a b : PluralCategory) (x y : Bool)
    → needs_category patterns ≡ false → pattern_for a x patterns ≡ pattern_for b y patterns
same_pattern [] a b x y e = none_of a x ∙ sym (none_of b y)
same_pattern (p ∷ []) a b x y e = for_each a x ∙ sym (for_each b y)
  where
    for_each : (category : PluralCategory) (is_one : Bool) → pattern_for category is_one (p ∷ []) ≡ Some p
    for_each category is_one =
        subst (λ c. pattern_for category is_one (record p { count = c } ∷ []) ≡ Some (record p { count = c }))
        (sym (is_other p.count e)) (only_other p category is_one)
same_pattern (p ∷ (q ∷ patterns)) a b x y e = absurd (cc)

pub patterns_of_run : (f : NumberFormats) (style : CompactStyle) (magnitude : ℤ) (run : Option CompactRun)
    → IsRun f style magnitude run
    → compact_patterns f style magnitude ≡ option_map_or (λ run. part COMPACT_PATTERNS run.patterns) run []
patterns_of_run f style magnitude run is =
    ap (λ set. option_map_or (λ run. part COMPACT_PATTERNS run.patterns) (option_and_then
    (λ set. run_at (part COMPACT_RUNS (rows_of set style).runs) magnitude) set) []) is.listed
    ∙ ap (λ run. option_map_or (λ run. part COMPACT_PATTERNS run.patterns) run []) (sym is.value)
