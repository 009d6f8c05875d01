-- The number of the rules of a tag.
use Rattle.std.proofs.Common.{◌≡◌, ℕ, zero, suc, List, Option, Some, None, Ok, refl, ap, ◌∙◌}
use Rattle.std.specs.{Prelude.IsSomeAnd, Option.option_and_then}
use Rattle.locale_data.specs.{Plurals.{rules_text_at, IsRulesText}, declared.plurals.{PluralRuleType.PluralRuleType, PluralRulesId.PluralRulesId}}
use Rattle.conversions.specs.{NamedRules.NamesLocale, Parameters.tag_of}
use Rattle.fixed_decimal_c.specs.Locales.{rule_type_code, rules_of, IsRulesNumber, IsNamedRulesNumber}

pub rules_have_number :
    (tag : List ℕ) (code : ℕ) (rule_type : PluralRuleType) (rules : PluralRulesId) (number : ℕ)
    → code ≡ rule_type_code rule_type → rules_of number ≡ Some rules
    → IsSomeAnd (rules_text_at rules) (IsRulesText tag rule_type) → IsRulesNumber (Ok number) tag code
rules_have_number tag code rule_type rules number is_code numbered of_tag = by (rules_text_at rules) refl of_tag
  where
    by : (o : Option (List ℕ)) → rules_text_at rules ≡ o → IsSomeAnd o (IsRulesText tag rule_type)
        → IsRulesNumber (Ok number) tag code
    by None at of_tag = absurd of_tag
    by (Some text) at of_tag = (rule_type, text, is_code, of_tag, ap (option_and_then rules_text_at) numbered ∙ at)

pub named_have_number :
    (word : List ℕ) (rule_type : PluralRuleType) (rules : PluralRulesId) (number : ℕ) → NamesLocale word rule_type
    → rules_of number ≡ Some rules → IsSomeAnd (rules_text_at rules) (IsRulesText (tag_of word) rule_type)
    → IsNamedRulesNumber (Ok number) word
named_have_number word rule_type rules zero names numbered of_tag = absurd (cc)
named_have_number word rule_type rules (suc index) names numbered of_tag = by (rules_text_at rules) refl of_tag
  where
    by : (o : Option (List ℕ)) → rules_text_at rules ≡ o → IsSomeAnd o (IsRulesText (tag_of word) rule_type)
        → IsNamedRulesNumber (Ok (suc index)) word
    by None at of_tag = absurd of_tag
    by (Some text) at of_tag = (rule_type, text, names, of_tag, ap (option_and_then rules_text_at) numbered ∙ at)
