-- The texts of the tables are the rules of the rows, by computation.
use Rattle.std.proofs.{Common.{◌≡◌, ℕ, ◌<◌, true, List, length, map, codes, Option, Some, None, Result, Ok, Err, slice_get, refl, ap, subst, sym, ◌∙◌}, lemmas.Option.{none-some, same_Some, slice_get-map}}
use Rattle.std.specs.{Prelude.{IsSome, IsSomeAnd}, Option.{option_map, option_and_then}}
use Rattle.plural_rules.specs.{declared.{parse.RulesError.{RulesError, TheVariants.{Syntax, Limit, Memory}}, rules.PluralCategory.PluralCategory}, Operands.Operands, Rules.{RuleValue, category_of}, RulesGrammar.{Grammar, IsCategoryByText}, RulesParseResult.{Fits, IsParseResult}, RulesReader.no_rules}
use Rattle.plural_rules.specs.declared.parse.state.State.TheVariants as state
use Rattle.plural_rules.proofs.lemmas.parse.{ParserComplete.grammar-unique, ParserSound.read-sound, RulesRun.{read, read_fits}}
use Rattle.locale_data.specs.{declared.{tables.{rows.{plurals.{LanguageRules.LanguageRules, RuleSet.RuleSet}, symbols.LocaleSymbols.LocaleSymbols}, plurals.TheConstants.{OTHER, PLURAL_RULES, PLURAL_RULES_TEXTS}, symbols.TheConstants.LOCALES}, plurals.{PluralRuleType.{PluralRuleType, TheVariants.{Cardinal, Ordinal}}, PluralRulesError.PluralRulesError, PluralRulesId.PluralRulesId}}, Rows.row_at, Plurals.{IsRulesText, IsRulesText.{of_language, of_locale}, set_of, text_of, indexed_set, set_at, rules_text_at, IsCategoryAt, IsLanguageOf, IsLocaleOf, IsRulesAt, IsRulesOf}, PluralRows.rules_in}
use Rattle.locale_data.specs.declared.plurals.PluralRulesError.TheVariants as errors
use Rattle.locale_data.proofs.lemmas.tables.{EachRow.not_past, TableTexts.{rests, table_rests, part_by, part-by}}

-- the rules of a text, or None if it is not rules or a number is too great
abbrev rules_by : List ℕ → Option (List RuleValue)
rules_by text = read true state.Category no_rules text

-- the rules of the text of a set, by the rests of the table of texts
abbrev rules_near : RuleSet → Option (List RuleValue)
rules_near set = option_and_then rules_by (part_by (table_rests PLURAL_RULES_TEXTS) set.text)

-- the rows of each language make them
languages_have_rules : (rule_type : PluralRuleType)
    → map (λ l. rules_near (set_of l rule_type)) PLURAL_RULES
    ≡ map (λ l. Some (rules_in (set_of l rule_type).rules)) PLURAL_RULES
unfolding rests
languages_have_rules Cardinal = refl
languages_have_rules Ordinal = refl

same_at : {A B : Type 0} (f g : A → B) (xs : List A) (k : ℕ) (x : A) → map f xs ≡ map g xs → slice_get xs k ≡ Some x
    → f x ≡ g x
same_at f g xs k x same at =
    same_Some (f x) (g x) (sym (slice_get-map f xs k ∙ ap (option_map f) at)
    ∙ ap (λ ys. slice_get ys k) same ∙ slice_get-map g xs k ∙ ap (option_map g) at)

abbrev HasRules : RuleSet → Type 0
HasRules set = rules_by (text_of set) ≡ Some (rules_in set.rules)

-- so the text in the table has them
has_by_rests : (set : RuleSet) → rules_near set ≡ Some (rules_in set.rules) → HasRules set
has_by_rests set is = by (part_by (table_rests PLURAL_RULES_TEXTS) set.text) refl is
  where
    by : (o : Option (List ℕ)) → part_by (table_rests PLURAL_RULES_TEXTS) set.text ≡ o
        → option_and_then rules_by o ≡ Some (rules_in set.rules) → HasRules set
    by None e is = absurd (none-some (rules_in set.rules) is)
    by (Some found) e is = ap rules_by (sym (part-by PLURAL_RULES_TEXTS set.text found e)) ∙ is

language_has_rules : (index : ℕ) (rule_type : PluralRuleType) (language : LanguageRules)
    → slice_get PLURAL_RULES index ≡ Some language → HasRules (set_of language rule_type)
language_has_rules index rule_type language at =
    has_by_rests (set_of language rule_type)
    (same_at (λ l. rules_near (set_of l rule_type)) (λ l. Some (rules_in (set_of l rule_type).rules)) PLURAL_RULES
    index language (languages_have_rules rule_type) at)

has_rules : (id : PluralRulesId) (set : RuleSet) → set_at id ≡ Some set → HasRules set
has_rules id set at = by id.language id.rule_type at
  where
    each : (index : ℕ) (rule_type : PluralRuleType) (o : Option LanguageRules) → slice_get PLURAL_RULES index ≡ o
        → option_map (λ language. set_of language rule_type) o ≡ Some set → HasRules set
    each index rule_type None at e = absurd (cc)
    each index rule_type (Some language) at e =
        subst HasRules (same_Some (set_of language rule_type) set e) (language_has_rules index rule_type language at)

    by : (o : Option ℕ) (rule_type : PluralRuleType) → indexed_set o rule_type ≡ Some set → HasRules set
    by None rule_type e = subst HasRules (same_Some OTHER set e) refl
    by (Some index) rule_type e = each index rule_type (slice_get PLURAL_RULES index) refl e

-- so the text is rules
pub rules_of_set : (id : PluralRulesId) (set : RuleSet) → set_at id ≡ Some set
    → Grammar (text_of set) (rules_in set.rules) × Fits (rules_in set.rules)
rules_of_set id set at =
    let fits = read_fits (text_of set) (rules_in set.rules) (has_rules id set at) in
    (read-sound fits.1, fits.0)

pub rules_of_id : (id : PluralRulesId) (text : List ℕ) → rules_text_at id ≡ Some text
    → (rules : List RuleValue) × Grammar text rules × Fits rules
rules_of_id id text at = by (set_at id) refl at
  where
    by : (o : Option RuleSet) → set_at id ≡ o → option_map text_of o ≡ Some text
        → (rules : List RuleValue) × Grammar text rules × Fits rules
    by None at e = absurd (cc)
    by (Some set) at e =
        let is = rules_of_set id set at in
        let same = same_Some (text_of set) text e in
        (rules_in set.rules, subst (λ t. Grammar t (rules_in set.rules)) same is.0, is.1)

-- the rows make the category
pub category_by_rows : (id : PluralRulesId) (set : RuleSet) (n : Operands) (category : PluralCategory)
    → set_at id ≡ Some set → category ≡ category_of (rules_in set.rules) n → IsCategoryAt id n category
category_by_rows id set n category at is =
    subst (λ o. IsSomeAnd (option_map text_of o) (λ text. IsCategoryByText text n category)) (sym at)
    (rules_in set.rules, (rules_of_set id set at).0, is)

-- and each number has one
pub category_exists : (id : PluralRulesId) (n : Operands) → IsSome (rules_text_at id)
    → (category : PluralCategory) × IsCategoryAt id n category
category_exists id n listed = by (set_at id) refl listed
  where
    by : (o : Option RuleSet) → set_at id ≡ o → IsSome (option_map text_of o)
        → (category : PluralCategory) × IsCategoryAt id n category
    by None at listed = absurd (cc)
    by (Some set) at listed =
        (category_of (rules_in set.rules) n, category_by_rows id set n _ at refl)

-- and parsing it fails only out of memory
pub parsing_succeeds : (id : PluralRulesId) (text : List ℕ) → rules_text_at id ≡ Some text → (e : RulesError)
    → IsParseResult text (Err e) → e ≡ Memory
parsing_succeeds id text at e fails = by e fails (rules_of_id id text at)
  where
    by : (e : RulesError) → IsParseResult text (Err e) → (rules : List RuleValue) × Grammar text rules × Fits rules
        → e ≡ Memory
    by Memory fails is = refl
    by (Syntax at) fails is = absurd (fails.rejected is.0 is.1)
    by (Limit at) fails is = absurd (fails.beyond_limits (subst Fits (grammar-unique is.1 fails.grammar) is.2))

-- the rules with the id of a tag are those of the tag
pub rules_of_tag : (tag : List ℕ) (rule_type : PluralRuleType) (id : PluralRulesId)
    → IsSomeAnd (rules_text_at id) (IsRulesText tag rule_type)
    → (result : Result (List RuleValue) PluralRulesError) → IsRulesAt id result → IsRulesOf tag rule_type result
rules_of_tag tag rule_type id of_tag (Ok found) at =
    (at.0, subst (λ o. IsSomeAnd o (IsRulesText tag rule_type)) at.1 of_tag, at.2)
rules_of_tag tag rule_type id of_tag (Err errors.UnknownLocale) at =
    absurd (subst (λ o. IsSomeAnd o (IsRulesText tag rule_type)) at of_tag)
rules_of_tag tag rule_type id of_tag (Err errors.Memory) at =
    (at.0, subst (λ o. IsSomeAnd o (IsRulesText tag rule_type)) at.1 of_tag, at.2)

-- the text of the rules of a tag's language, and of a tag that has only symbols
pub language_found : (tag : List ℕ) (rule_type : PluralRuleType) (index : ℕ)
    → IsLanguageOf tag (row_at PLURAL_RULES (Some index)) → index < length PLURAL_RULES
    → IsSomeAnd (option_map text_of (indexed_set (Some index) rule_type)) (IsRulesText tag rule_type)
language_found tag rule_type index of_tag inside = by rule_type (slice_get PLURAL_RULES index) refl of_tag
  where
    by : (rule_type : PluralRuleType) (o : Option LanguageRules) → slice_get PLURAL_RULES index ≡ o → IsLanguageOf tag o
        → IsSomeAnd (option_map text_of (option_map (λ language. set_of language rule_type) o))
        (IsRulesText tag rule_type)
    by rule_type None at of_tag = absurd (not_past PLURAL_RULES index inside at)
    by rule_type (Some language) at of_tag = of_language language of_tag refl

pub locale_found : (tag : List ℕ) (rule_type : PluralRuleType) (index : ℕ) → IsLanguageOf tag None
    → IsLocaleOf tag (row_at LOCALES (Some index)) → index < length LOCALES
    → IsRulesText tag rule_type (codes "other:")
locale_found tag rule_type index none of_tag inside = by (slice_get LOCALES index) refl of_tag
  where
    by : (o : Option LocaleSymbols) → slice_get LOCALES index ≡ o → IsLocaleOf tag o
        → IsRulesText tag rule_type (codes "other:")
    by None at of_tag = absurd (not_past LOCALES index inside at)
    by (Some locale) at of_tag = of_locale locale none of_tag refl
