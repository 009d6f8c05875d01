-- The plural rules of tags.
use Rattle.std.specs.{Prelude.{◌≡◌, ◌==◌, ◌&&◌, ◌||◌, if◌then◌else◌, ℕ, List, [], ◌∷◌, Bool, true, false, not, Option, None, is_none, Some, Result, Ok, Err, IsSomeAnd, codes, slice_get}, List.{list_any, list_all}, Option.option_map}
use Rattle.plural_rules.specs.{Operands.Operands, Rules.{RelationValue, RuleValue}, RulesGrammar.{Grammar, IsCategoryByText}, RulesParseResult.IsParseResult, declared.rules.{Operand.{Operand, TheVariants.{N, I, V}}, PluralCategory.{PluralCategory, TheVariants.{Zero, One, Two, Few, Many, Other}}, Range.Range}}
use Rattle.plural_rules.specs.declared.parse.RulesError.TheVariants as rules
use Rattle.locale_data.specs.{declared.{plurals.{PluralRulesError.{PluralRulesError, TheVariants.{UnknownLocale, Memory}}, PluralRuleType.{PluralRuleType, TheVariants.{Cardinal, Ordinal}}, PluralRulesId.PluralRulesId}, tables.{rows.{plurals.{LanguageRules.LanguageRules, RuleSet.RuleSet}, symbols.LocaleSymbols.LocaleSymbols}, plurals.TheConstants.{OTHER, PLURAL_RULES, PLURAL_RULES_TEXTS}, symbols.TheConstants.LOCALES}}, Rows.{part, IsRowOf}}

-- the rules of a language for numbers of things or for places in an order
abbrev pub set_of : LanguageRules → PluralRuleType → RuleSet
set_of language Cardinal = language.cardinal
set_of language Ordinal = language.ordinal

abbrev pub text_of : RuleSet → List ℕ
text_of set = part PLURAL_RULES_TEXTS set.text

-- the rules of the language with an index, if there is one; without a language each number is `other`
abbrev pub indexed_set : Option ℕ → PluralRuleType → Option RuleSet
indexed_set None rule_type = Some OTHER
indexed_set (Some index) rule_type = option_map (λ language. set_of language rule_type) (slice_get PLURAL_RULES index)

abbrev pub set_at : PluralRulesId → Option RuleSet
set_at id = indexed_set id.language id.rule_type

abbrev pub rules_text_at : PluralRulesId → Option (List ℕ)
rules_text_at id = option_map text_of (set_at id)

-- the language with the longest tag that is a prefix of a tag, or None
abbrev pub IsLanguageOf : List ℕ → Option LanguageRules → Type 0
IsLanguageOf = IsRowOf (λ l. l.tag) PLURAL_RULES

-- the locale with the longest tag that is a prefix of a tag, or None
abbrev pub IsLocaleOf : List ℕ → Option LocaleSymbols → Type 0
IsLocaleOf = IsRowOf (λ l. l.tag) LOCALES

-- the text is that of the rules of the tag's language, or of a tag that has symbols and no rules
pub data IsRulesText (tag : List ℕ) (rule_type : PluralRuleType) (text : List ℕ) : Type 0 where
  of_language : (language : LanguageRules) → IsLanguageOf tag (Some language)
      → text ≡ text_of (set_of language rule_type) → IsRulesText tag rule_type text
  of_locale : (locale : LocaleSymbols) → IsLanguageOf tag None → IsLocaleOf tag (Some locale)
      → text ≡ codes "other:" → IsRulesText tag rule_type text

-- a tag has neither rules nor symbols
abbrev pub HasNoRules : List ℕ → Type 0
HasNoRules tag = IsLanguageOf tag None × IsLocaleOf tag None

-- the rules by the grammar of texts, or why there are none; out of memory only for a text of rules
abbrev pub IsRulesAt : PluralRulesId → Result (List RuleValue) PluralRulesError → Type 0
IsRulesAt id (Ok found) = (text : List ℕ) × (rules_text_at id ≡ Some text) × Grammar text found
IsRulesAt id (Err UnknownLocale) = rules_text_at id ≡ None
IsRulesAt id (Err Memory) =
    (text : List ℕ) × (rules_text_at id ≡ Some text) × IsParseResult text (Err rules.Memory)

-- the category of a number by those rules
abbrev pub IsCategoryAt : PluralRulesId → Operands → PluralCategory → Type 0
IsCategoryAt id operands category =
    IsSomeAnd (rules_text_at id) (λ text. IsCategoryByText text operands category)

-- the operand is the one that is wanted, which is n, i or v
abbrev pub operand_is : Operand → Operand → Bool
operand_is N N = true
operand_is I I = true
operand_is V V = true
operand_is wanted operand = false

-- no other number is in the ranges
abbrev pub is_just : ℕ → List Range → Bool
is_just n (r ∷ []) = r.low == n && r.high == n
is_just n ranges = false

-- the relation is `operand = n`
abbrev pub is_equation : Operand → ℕ → RelationValue → Bool
is_equation operand n r = operand_is operand r.operand && (is_none r.modulus && (r.is_equal && is_just n r.ranges))

-- the relations ask for a number, as for 1: they have `n = 1`, or both `i = 1` and `v = 0`
abbrev pub ask_for : ℕ → List RelationValue → Bool
ask_for n relations =
    list_any (is_equation N n) relations
    || (list_any (is_equation I n) relations && list_any (is_equation V 0) relations)

-- the category is the one that is wanted
abbrev pub category_is : PluralCategory → PluralCategory → Bool
category_is Zero Zero = true
category_is One One = true
category_is Two Two = true
category_is Few Few = true
category_is Many Many = true
category_is Other Other = true
category_is wanted category = false

-- if the rule is that of the category, each alternative asks for the number
abbrev pub asks_for : PluralCategory → ℕ → RuleValue → Bool
asks_for category n r = if category_is category r.category then list_all (ask_for n) r.alternatives else true

-- each rule of the category asks for the number; `other` has numbers without a rule
abbrev pub are_alone : PluralCategory → ℕ → List RuleValue → Bool
are_alone category n rules = not (category_is Other category) && list_all (asks_for category n) rules

-- by the rules no other number is of the category
abbrev pub HoldsAlone : PluralRulesId → PluralCategory → ℕ → Type 0
HoldsAlone id category n =
    IsSomeAnd (rules_text_at id)
    (λ text. (rules : List RuleValue) × Grammar text rules × (are_alone category n rules ≡ true))

-- by the rules no other number is `one`
abbrev pub HasOneAlone : PluralRulesId → Type 0
HasOneAlone id = HoldsAlone id One 1

-- the rules of a tag, or why there are none
abbrev pub IsRulesOf : List ℕ → PluralRuleType → Result (List RuleValue) PluralRulesError → Type 0
IsRulesOf tag rule_type (Ok found) = (text : List ℕ) × IsRulesText tag rule_type text × Grammar text found
IsRulesOf tag rule_type (Err UnknownLocale) = HasNoRules tag
IsRulesOf tag rule_type (Err Memory) =
    (text : List ℕ) × IsRulesText tag rule_type text × IsParseResult text (Err rules.Memory)
