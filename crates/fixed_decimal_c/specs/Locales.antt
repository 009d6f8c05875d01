-- The numbers of locales and of plural rules, as C keeps them.
use Rattle.std.specs.{Prelude.{◌≡◌, ℕ, zero, suc, ◌-◌, ◌*◌, ◌/◌, ◌%◌, ◌^◌, ◌==◌, ◌||◌, nat_lt, if◌then◌else◌, List, Option, Some, None, Result, Ok, Err}, Option.option_and_then, Str.IsUtf8}
use Rattle.decimal_format.specs.Symbols.{Symbols}
use Rattle.conversions.specs.{NamedRules.NamesLocale, Parameters.tag_of}
use Rattle.locale_data.specs.{Locales.{symbols_at, IsLocale, IsUnknown}, Plurals.{rules_text_at, IsRulesText, HasNoRules}, declared.{locales.LocaleId.LocaleId, plurals.{PluralRuleType.{PluralRuleType, TheVariants.{Cardinal, Ordinal}}, PluralRulesId.PluralRulesId}}}
use Rattle.fixed_decimal_c.specs.declared.error.FdError.{FdError, TheVariants.{UnknownLocale, UnknownOption}}

-- an index that is one less, or none for 0
abbrev pub index_of : ℕ → Option ℕ
index_of zero = None
index_of (suc index) = Some index

-- the rows with a number, 1 + locale + 2^16 (system + 2^16 own), if their indices have 16 bits
abbrev pub rows_of : ℕ → Option LocaleId
rows_of number =
    if (number == 0) || nat_lt (65537 * 2 ^ 32) number
    then None
    else Some (record {
      locale = (number - 1) % 2 ^ 16;
      system = (number - 1) / 2 ^ 16 % 2 ^ 16;
      own = index_of ((number - 1) / 2 ^ 32);
    })

-- the symbols of the locale with a number, if there is one
abbrev pub symbols_of_number : ℕ → Option Symbols
symbols_of_number number = option_and_then symbols_at (rows_of number)

-- the number of the locale of a tag, by which it has the same symbols; or why there is none
abbrev pub IsLocaleNumber : Result ℕ FdError → List ℕ → Type 0
IsLocaleNumber (Ok number) tag = (s : Symbols) × IsLocale tag s × (symbols_of_number number ≡ Some s)
IsLocaleNumber (Err UnknownLocale) tag = IsUtf8 tag → IsUnknown tag
IsLocaleNumber (Err error) tag = ⊥

abbrev pub rule_type_code : PluralRuleType → ℕ
rule_type_code Cardinal = 0
rule_type_code Ordinal = 1

-- the plural rules with a number, 1 + type + 2 language, if the index has 16 bits
abbrev pub rules_of : ℕ → Option PluralRulesId
rules_of number =
    if (number == 0) || nat_lt (65537 * 2) number
    then None
    else Some (record {
      language = index_of ((number - 1) / 2);
      rule_type = if (number - 1) % 2 == 0 then Cardinal else Ordinal;
    })

-- the text of the plural rules with a number, if there are such rules
abbrev pub rules_of_number : ℕ → Option (List ℕ)
rules_of_number number = option_and_then rules_text_at (rules_of number)

-- the number of the plural rules of a tag; or why there is none
abbrev pub IsRulesNumber : Result ℕ FdError → List ℕ → ℕ → Type 0
IsRulesNumber (Ok number) tag code =
    (rule_type : PluralRuleType) × (text : List ℕ) × (code ≡ rule_type_code rule_type)
    × IsRulesText tag rule_type text × (rules_of_number number ≡ Some text)
IsRulesNumber (Err UnknownLocale) tag code = IsUtf8 tag → HasNoRules tag
IsRulesNumber (Err UnknownOption) tag code = (rule_type : PluralRuleType) → code ≡ rule_type_code rule_type → ⊥
IsRulesNumber (Err error) tag code = ⊥

-- the number of the plural rules of the locale that a word names, as `en:ordinal`; 0 if it names none
abbrev pub IsNamedRulesNumber : Result ℕ FdError → List ℕ → Type 0
IsNamedRulesNumber (Ok zero) word = IsUtf8 word → (rule_type : PluralRuleType) → ¬ NamesLocale word rule_type
IsNamedRulesNumber (Ok (suc index)) word =
    (rule_type : PluralRuleType) × (text : List ℕ) × NamesLocale word rule_type
    × IsRulesText (tag_of word) rule_type text × (rules_of_number (suc index) ≡ Some text)
IsNamedRulesNumber (Err UnknownLocale) word =
    (rule_type : PluralRuleType) × NamesLocale word rule_type × HasNoRules (tag_of word)
IsNamedRulesNumber (Err error) word = ⊥
