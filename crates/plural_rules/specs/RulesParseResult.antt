-- The result of the parser: the rules, or the reason for which the text is rejected.
use Rattle.std.specs.{Prelude.{◌≡◌, ℕ, ◌+◌, ◌-◌, ◌^◌, ◌<◌, ◌≤◌, true, false, List, ◌++◌, length, take, get_or, IfSome, Result, Ok, Err}, Char.is_ascii_digit, List.AllByRecursion}
use Rattle.plural_rules.specs.{declared.{parse.RulesError.{RulesError, TheVariants.{Syntax, Limit, Memory}}, rules.Range.Range}, Rules.{RelationValue, RuleValue}, RulesGrammar.Grammar}

-- the bytes are a prefix of some rules
abbrev pub IsViablePrefix : List ℕ → Type 0
IsViablePrefix begin = (more : List ℕ) × (rules : List RuleValue) × Grammar (begin ++ more) rules

-- the text is not rules; the bytes before this offset are a prefix of some, but not together with the byte at it
pub record IsSyntaxErrorAt (text : List ℕ) (at : ℕ) : Type 0 where
  pub within : at ≤ length text
  pub rejected : (rules : List RuleValue) → ¬ Grammar text rules
  pub viable : IsViablePrefix (take at text)
  pub not_viable : at < length text → (more : List ℕ) (rules : List RuleValue)
      → ¬ Grammar (take (at + 1) text ++ more) rules

-- numbers below 2^64
abbrev pub RangeFits : Range → Type 0
RangeFits range = (range.low < 2 ^ 64) × (range.high < 2 ^ 64)

-- the same, and a modulus of at most 10^18
abbrev pub RelationFits : RelationValue → Type 0
RelationFits r = IfSome r.modulus (λ m. m ≤ 10 ^ 18) × AllByRecursion RangeFits r.ranges

abbrev pub AndConditionFits : List RelationValue → Type 0
AndConditionFits rs = AllByRecursion RelationFits rs

abbrev pub RuleFits : RuleValue → Type 0
RuleFits r = AllByRecursion AndConditionFits r.alternatives

-- no number is too great
abbrev pub Fits : List RuleValue → Type 0
Fits rules = AllByRecursion RuleFits rules

-- the bytes are a prefix of some rules whose numbers fit
abbrev pub IsFittingPrefix : List ℕ → Type 0
IsFittingPrefix begin = (more : List ℕ) × (rules : List RuleValue) × Grammar (begin ++ more) rules × Fits rules

-- the bytes at the offsets from `from` to below `end` are digits
abbrev pub AreDigits : List ℕ → ℕ → ℕ → Type 0
AreDigits text from end = (i : ℕ) → from ≤ i → i < end → is_ascii_digit (get_or text i 0) ≡ true

-- the byte before this offset, if any, is not a digit
abbrev pub HasNoDigitBefore : List ℕ → ℕ → Type 0
HasNoDigitBefore text at = 0 < at → is_ascii_digit (get_or text (at - 1) 0) ≡ false

-- a number of the rules is too great, and the first such number is at this offset: the bytes before it are a prefix of
-- rules that fit, but not together with the digits from it to below `end`
pub record IsLimitErrorAt (text : List ℕ) (at : ℕ) : Type 0 where
  pub rules : List RuleValue
  pub grammar : Grammar text rules
  pub beyond_limits : ¬ Fits rules
  pub within : at < length text
  pub begins : HasNoDigitBefore text at
  pub viable : IsFittingPrefix (take at text)
  pub end : ℕ
  pub digits : (at < end) × (end ≤ length text) × AreDigits text at end
  pub not_viable : ¬ IsFittingPrefix (take end text)

-- the rules by the grammar, or the reason why there are none; out of memory only for rules that fit
abbrev pub IsParseResult : List ℕ → Result (List RuleValue) RulesError → Type 0
IsParseResult text (Ok rules) = Grammar text rules
IsParseResult text (Err (Syntax at)) = IsSyntaxErrorAt text at
IsParseResult text (Err (Limit at)) = IsLimitErrorAt text at
IsParseResult text (Err Memory) = (rules : List RuleValue) × Grammar text rules × Fits rules
