-- Plural categories.
use Rattle.std.specs.Prelude.{◌≡◌, ℕ, ℤ, pos, ◌⊎◌, List, Some, None, Result, Ok, Err, IsOkAnd, IsSome}
use Rattle.fixed_decimal.specs.DecimalText.{read_decimal}
use Rattle.plural_rules.specs.{declared.rules.PluralCategory.PluralCategory, Operands.plain, Rules.{RuleValue, category_of}, RulesGrammar.Grammar, RulesParseResult.{IsSyntaxErrorAt, IsLimitErrorAt}}
use Rattle.plural_rules.specs.declared.rules.PluralCategory.TheVariants as category
use Rattle.locale_data.specs.{declared.plurals.PluralRulesId.PluralRulesId, Plurals.{rules_text_at, IsCategoryAt}}
use Rattle.fixed_decimal_c.specs.{declared.error.FdError.{FdError, TheVariants.{Memory, UnknownLocale, RulesSyntax, RulesLimit}}, Locales.{rules_of, rules_of_number}, Numbers.ParsingFails}

abbrev pub category_code : PluralCategory → ℤ
category_code category.Zero = pos 0
category_code category.One = pos 1
category_code category.Two = pos 2
category_code category.Few = pos 3
category_code category.Many = pos 4
category_code category.Other = pos 5

-- the category of a text by rules
abbrev pub HasCategoryIn : Result ℤ FdError → List RuleValue → List ℕ → Type 0
HasCategoryIn (Ok n) rules text =
    IsOkAnd (read_decimal text) (λ v. n ≡ category_code (category_of rules (plain v.absolute)))
HasCategoryIn (Err error) rules text = ParsingFails error text 0

-- why rules are rejected; out of memory only for rules
abbrev pub RulesFail : FdError → List ℕ → Type 0
RulesFail (RulesSyntax at) rules = IsSyntaxErrorAt rules at
RulesFail (RulesLimit at) rules = IsLimitErrorAt rules at
RulesFail Memory rules = (list : List RuleValue) × Grammar rules list
RulesFail _ rules = ⊥

-- the category of a text by the text of rules
abbrev pub HasCategory : Result ℤ FdError → List ℕ → List ℕ → Type 0
HasCategory answer rules text =
    ((list : List RuleValue) × Grammar rules list × HasCategoryIn answer list text)
    ⊎ ((error : FdError) × (answer ≡ Err error) × RulesFail error rules)

-- the category of a text by rules in a table
abbrev pub HasCategoryAt : Result ℤ FdError → PluralRulesId → List ℕ → Type 0
HasCategoryAt (Ok n) rules text =
    IsOkAnd (read_decimal text) (λ v. (category : PluralCategory) × IsCategoryAt rules (plain v.absolute) category
    × (n ≡ category_code category))
HasCategoryAt (Err error) rules text = ParsingFails error text 0

-- the category of a text by the rules with a number, if there are such rules
abbrev pub HasCategoryOf : Result ℤ FdError → ℕ → List ℕ → Type 0
HasCategoryOf answer number text =
    ((rules : PluralRulesId) × (rules_of number ≡ Some rules) × IsSome (rules_text_at rules)
    × HasCategoryAt answer rules text)
    ⊎ ((answer ≡ Err UnknownLocale) × (rules_of_number number ≡ None))
