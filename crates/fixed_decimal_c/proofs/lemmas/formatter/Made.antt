-- A formatter that C keeps is the formatter of the tag and the options that it was made of.
use Rattle.std.proofs.Common.{◌≡◌, ℕ, List, Bool, Option, Result, Ok, Err, inl, inr, sym, ◌∙◌, ap, subst}
use Rattle.std.specs.Prelude.{IsSomeAnd}
use Rattle.locale_data.specs.{declared.{currency.CurrencyId.CurrencyId, format_rows.FormatRows.FormatRows, locales.LocaleId.LocaleId, plurals.{PluralRulesId.PluralRulesId, PluralRuleType.TheVariants.Cardinal}}, Currencies.LacksCurrency, Formats.{AreFormatsOf}, Locales.symbols_at, Plurals.{rules_text_at, IsRulesText}}
use Rattle.number_format.specs.{declared.{format.{ids.FormatterIds.FormatterIds, formatter.NumberFormatter.NumberFormatter}, options.NumberOptions.NumberOptions}, Formatters.{AreIdsOf, AreSymbolsOf, IsCurrencyRow, IsFormatterAt, LacksRows, system_text}, NumberStyles.AreOuterTexts}
use Rattle.fixed_decimal_c.specs.{declared.{error.FdError.FdError, format_rows.FdFormatRows.FdFormatRows, formatter.FdFormatter.FdFormatter, number_options.FdNumberOptions.FdNumberOptions}, FormatRows.AreRows, Formats.{FormatsBySkeleton, FormatsNumber}, KeptFormatters.{FormatsKept, IsFormatterIn, IsKept, IsNoFormatter, Keeps, MakesByOptions, MakesBySkeleton, ReadsKept}, NumberReadings.{ReadsBySkeleton, ReadsNumber}, NumberTexts.{HasFormatter, IsMade, IsMadeBySkeleton}}
use Rattle.fixed_decimal_c.proofs.lemmas.format_options.Unique.{same_options}

-- ---- Rows that C has are those of one formatter.

module _ (c : FdFormatRows) (a b : FormatterIds) (is : AreRows c a) (js : AreRows c b) where
  same_symbols : a.symbols ≡ b.symbols
  same_symbols =
      let one = is.symbols in
      let other = js.symbols in
      cc

  same_rules : a.rules ≡ b.rules
  same_rules =
      let one = is.rules in
      let other = js.rules in
      cc

  same_currency : a.currency ≡ b.currency
  same_currency =
      let one = is.currency in
      let other = js.currency in
      cc

  same_outer : a.outer ≡ b.outer
  same_outer =
      let one = is.outer in
      let other = js.outer in
      cc

  same_formats : (tag system : List ℕ) → AreFormatsOf tag system a.formats → AreFormatsOf tag system b.formats
  same_formats tag system are =
      let same = js.formats ∙ sym is.formats in
      record {
        latin = are.latin;
        own = are.own;
        root = are.root;
        of_latin = are.of_latin;
        of_system = are.of_system;
        percent = ap (λ (r : FormatRows). r.percent) same ∙ are.percent;
        standard = ap (λ (r : FormatRows). r.standard) same ∙ are.standard;
        accounting = ap (λ (r : FormatRows). r.accounting) same ∙ are.accounting;
        signs = ap (λ (r : FormatRows). r.signs) same ∙ are.signs;
        compact = ap (λ (r : FormatRows). r.compact) same ∙ are.compact;
        unit = ap (λ (r : FormatRows). r.unit) same ∙ are.unit;
        money = ap (λ (r : FormatRows). r.money) same ∙ are.money;
      }

  same_ids : (tag : List ℕ) (o : NumberOptions) → AreIdsOf tag o a → AreIdsOf tag o b
  same_ids tag o are = record {
    known = are.known;
    system = are.system;
    symbols = subst (AreSymbolsOf tag o.numbering_system) same_symbols are.symbols;
    system_is = ap (λ (id : LocaleId). system_text id o.numbering_system) (sym same_symbols) ∙ are.system_is;
    formats = same_formats tag are.system are.formats;
    rules = subst (λ (r : PluralRulesId). IsSomeAnd (rules_text_at r) (IsRulesText tag Cardinal)) same_rules are.rules;
    currency = subst (IsCurrencyRow tag o.style) same_currency are.currency;
    outer = subst (AreOuterTexts tag o.style o.notation) same_outer are.outer;
  }

  lacks_too : LacksRows b → LacksRows a
  lacks_too (inl none) = inl (ap symbols_at same_symbols ∙ none)
  lacks_too (inr (inl none)) = inr (inl (ap rules_text_at same_rules ∙ none))
  lacks_too (inr (inr none)) =
      inr (inr (subst (λ (id : Option CurrencyId). IsSomeAnd id LacksCurrency) (sym same_currency) none))

-- ---- Formatters.

-- what C keeps is the formatter of the tag and the options
pub kept_formatter : (tag : List ℕ) (o : NumberOptions) (c : FdFormatter) (f : NumberFormatter) → Keeps tag o c
    → IsFormatterIn c f → HasFormatter tag o f
kept_formatter tag o c f (utf8, tag_is, (ids, are, exist, rows, options)) (found, p, found_rows, found_options, at) =
    let same = same_options c.options p o found_options options in (
      utf8,
      record {
        ids = found;
        ids_are = same_ids c.rows ids found rows found_rows tag o are;
        at = subst (λ (q : NumberOptions). IsFormatterAt found q f) same at;
      },
    )

-- and there is one
pub keeps_one : (tag : List ℕ) (o : NumberOptions) (c : FdFormatter) → Keeps tag o c → IsNoFormatter c → ⊥
keeps_one tag o c (utf8, tag_is, (ids, are, exist, rows, options)) (inl none) = none ids rows
keeps_one tag o c (utf8, tag_is, (ids, are, exist, rows, options)) (inr (inl none)) = none o options
keeps_one tag o c (utf8, tag_is, (ids, are, exist, rows, options)) (inr (inr (found, found_rows, lacks))) =
    exist (lacks_too c.rows ids found rows found_rows lacks)

pub by_options : (tag : List ℕ) (options : FdNumberOptions) (c : FdFormatter) (made : Result NumberFormatter FdError)
    → MakesByOptions (Ok c) tag options → IsKept made c → IsMade made tag options
by_options tag options c (Ok f) (o, are, keeps) is = (o, are, kept_formatter tag o c f keeps is)
by_options tag options c (Err error) (o, are, keeps) (is, none) = absurd (keeps_one tag o c keeps none)

pub by_skeleton : (tag skeleton : List ℕ) (c : FdFormatter) (made : Result NumberFormatter FdError)
    → MakesBySkeleton (Ok c) tag skeleton → IsKept made c → IsMadeBySkeleton made tag skeleton
by_skeleton tag skeleton c (Ok f) (o, are, keeps) is = (o, are, kept_formatter tag o c f keeps is)
by_skeleton tag skeleton c (Err error) (o, are, keeps) (is, none) = absurd (keeps_one tag o c keeps none)

-- ---- What is written and read by a formatter that C keeps.

pub formats_by_options : (tag : List ℕ) (options : FdNumberOptions) (c : FdFormatter) (answer : Result ℕ FdError)
    (text old new : List ℕ) → MakesByOptions (Ok c) tag options → FormatsKept answer c text old new
    → FormatsNumber answer text tag options old new
formats_by_options tag options c answer text old new makes (made, is, formats) =
    (made, by_options tag options c made makes is, formats)

pub formats_by_skeleton : (tag skeleton : List ℕ) (c : FdFormatter) (answer : Result ℕ FdError) (text old new : List ℕ)
    → MakesBySkeleton (Ok c) tag skeleton → FormatsKept answer c text old new
    → FormatsBySkeleton answer text tag skeleton old new
formats_by_skeleton tag skeleton c answer text old new makes (made, is, formats) =
    (made, by_skeleton tag skeleton c made makes is, formats)

pub reads_by_options : (tag : List ℕ) (options : FdNumberOptions) (c : FdFormatter) (answer : Result ℕ FdError)
    (text : List ℕ) (lenient : Bool) (old new : List ℕ) → MakesByOptions (Ok c) tag options
    → ReadsKept answer c text lenient old new → ReadsNumber answer text tag options lenient old new
reads_by_options tag options c answer text lenient old new makes (made, is, reads) =
    (made, by_options tag options c made makes is, reads)

pub reads_by_skeleton : (tag skeleton : List ℕ) (c : FdFormatter) (answer : Result ℕ FdError) (text : List ℕ)
    (lenient : Bool) (old new : List ℕ) → MakesBySkeleton (Ok c) tag skeleton
    → ReadsKept answer c text lenient old new → ReadsBySkeleton answer text tag skeleton lenient old new
reads_by_skeleton tag skeleton c answer text lenient old new makes (made, is, reads) =
    (made, by_skeleton tag skeleton c made makes is, reads)
