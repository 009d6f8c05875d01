use Rattle.std.proofs.Common.{◌≡◌, ℕ, List, Option, None, Some, IfSome, subst, sym, inl, inr}
use Rattle.std.specs.Prelude.{IsSomeAnd}
use Rattle.locale_data.specs.{Currencies.LacksCurrency, Locales.{symbols_at, IsLocale, IsLocaleIn}, Plurals.IsRulesText, declared.{currency.CurrencyId.CurrencyId, locales.LocaleId.LocaleId, plurals.PluralRuleType.TheVariants.Cardinal}}
use Rattle.number_format.specs.Formatters.{AreSymbolsOf}
use Rattle.number_format.proofs.format.ids.FormatterIds.of.Goals as goal

symbols_exist : (tag : List ℕ) (name : Option (List ℕ)) (id : LocaleId) → AreSymbolsOf tag name id
    → symbols_at id ≡ None → ⊥
symbols_exist tag None id are none = subst (λ o. IsSomeAnd o (IsLocale tag)) none are.0
symbols_exist tag (Some name) id are none =
    subst (λ o. IsSomeAnd o (IsLocaleIn tag name)) none are

currency_exists : (row : Option CurrencyId) → IfSome row (λ id. ¬ LacksCurrency id) → IsSomeAnd row LacksCurrency → ⊥
currency_exists None exists lacks = lacks
currency_exists (Some id) exists lacks = exists lacks

pub unreachable-requires : goal.unreachable-requires
unreachable-requires c =
    symbols_exist c.args.tag.now c.args.options.now.numbering_system c.in_ok-symbols.symbols c.in_ok-symbols.ensures.ok
    c.in-None.ensures.none

pub returns-clause-ok : goal.returns-clause-ok
returns-clause-ok c = record {
  known = c.in_ok-symbols.ensures.known;
  system = c.in-Some-system_text.system.now;
  symbols = c.in_ok-symbols.ensures.ok;
  system_is = sym c.in-Some-system_text.ensures.value;
  formats = c.formats_of.ensures;
  rules = c.in-Some.ensures.found;
  currency = c.currency_row.ensures.row;
  outer = c.of.ensures;
}

pub returns-clause-exist : goal.returns-clause-exist
returns-clause-exist c = λ lacks. elim lacks [
  | inl none ↦ symbols_exist c.args.tag.now c.args.options.now.numbering_system c.in_ok-symbols.symbols
      c.in_ok-symbols.ensures.ok none
  | inr rest ↦ elim rest [
    | inl none ↦ subst (λ o. IsSomeAnd o (IsRulesText c.args.tag.now Cardinal)) none c.in-Some.ensures.found
    | inr currency ↦ currency_exists c.currency_row.result c.currency_row.ensures.exists currency
  ]
]
