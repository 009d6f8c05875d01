-- The plural rules that a word names: those of a locale, or those that it is the text of.
use Rattle.std.specs.{Prelude.{◌≡◌, ◌≢◌, ℕ, ◌==◌, ◌&&◌, ◌||◌, Bool, true, false, if◌then◌else◌, List, [], ◌∷◌, codes, Option, Some, None, IsSome, Err}, Char.{is_ascii_alphabetic, is_ascii_alphanumeric}, List.list_all}
use Rattle.plural_rules.specs.declared.parse.RulesError.TheVariants as rules
use Rattle.plural_rules.specs.{Rules.RuleValue, RulesGrammar.Grammar, RulesParseResult.IsParseResult}
use Rattle.locale_data.specs.{declared.plurals.PluralRuleType.{PluralRuleType, TheVariants.{Cardinal, Ordinal}}, Plurals.{IsRulesText, HasNoRules}}
use Rattle.conversions.specs.{declared.named_rules.NamedRulesError.{NamedRulesError, TheVariants.{UnknownLocale, UnknownType, Rules}}, ShownWord.IsShown, Parameters.{tag_of, option_of, lookup}}

-- a letter, a digit, or one of - _ . @
abbrev pub is_tag_byte : ℕ → Bool
is_tag_byte byte = is_ascii_alphanumeric byte || (byte == 45 || (byte == 95 || (byte == 46 || byte == 64)))

-- the form of a tag: a letter, and then letters, digits and - _ . @
abbrev pub is_tag : List ℕ → Bool
is_tag [] = false
is_tag (first ∷ rest) = is_ascii_alphabetic first && list_all is_tag_byte rest

-- the types of rules and their words
abbrev pub types : List (List ℕ × PluralRuleType)
types = (codes "cardinal", Cardinal) ∷ (codes "ordinal", Ordinal) ∷ []

-- the type that an option names; no option is `Cardinal`
abbrev pub type_of : Option (List ℕ) → Option PluralRuleType
type_of None = Some Cardinal
type_of (Some option) = lookup types option

-- the type of a word that is a tag, or a tag, a colon and the word of a type: `ru`, `en:ordinal`
abbrev pub named_type : List ℕ → Option PluralRuleType
named_type word = if is_tag (tag_of word) then type_of (option_of word) else None

-- the word names a locale, and this type
abbrev pub NamesLocale : List ℕ → PluralRuleType → Type 0
NamesLocale word rule_type = named_type word ≡ Some rule_type

-- the word is a tag, a colon and letters that are the word of no type: `en:ordnial`. No text of rules has this form,
-- since each condition has a relation
abbrev pub HasUnknownType : List ℕ → List ℕ → Type 0
HasUnknownType word letters =
    (is_tag (tag_of word) ≡ true) × (option_of word ≡ Some letters) × (letters ≢ [])
    × (list_all is_ascii_alphabetic letters ≡ true) × (lookup types letters ≡ None)

-- the word has neither form: it is the text of rules, or rejected as such
abbrev pub IsOther : List ℕ → Type 0
IsOther word = (named_type word ≡ None) × ((letters : List ℕ) → ¬ HasUnknownType word letters)

-- the text of the rules that a word names: that of its locale; or the word itself, which has no form of a locale
pub data IsTextOfRules (word text : List ℕ) : Type 0 where
  of_locale : (rule_type : PluralRuleType) → NamesLocale word rule_type → IsRulesText (tag_of word) rule_type text
      → IsTextOfRules word text
  of_word : IsOther word → text ≡ word → IsTextOfRules word text

-- the word names these rules
abbrev pub NamesRules : List ℕ → List RuleValue → Type 0
NamesRules word rules = (text : List ℕ) × IsTextOfRules word text × Grammar text rules

-- the word names no rules: its locale has none, or its type is unknown; or there is no memory for them; or it is no
-- text of rules
abbrev pub NamesNoRules : List ℕ → NamedRulesError → Type 0
NamesNoRules word (UnknownLocale tag) =
    IsSome (named_type word) × HasNoRules (tag_of word) × IsShown (tag_of word) tag
NamesNoRules word (UnknownType shown) =
    (letters : List ℕ) × HasUnknownType word letters × IsShown letters shown
NamesNoRules word (Rules rules.Memory) =
    (text : List ℕ) × IsTextOfRules word text × IsParseResult text (Err rules.Memory)
NamesNoRules word (Rules why) = IsOther word × IsParseResult word (Err why)
