-- The rules and the texts that the words of `plural` name, and its result.
use Rattle.std.specs.{Prelude.{◌≡◌, ◌≢◌, ℕ, ◌<◌, ◌⊎◌, Bool, true, false, List, [], ◌∷◌, length, String, string_bytes, Option, Result, Ok, Err, IsSomeAnd, MatchOption}, Io.KnownBytes.append_known, Option.option_map, declared.alloc.Global.Global}
use Rattle.plural_rules.specs.Rules.{RuleValue}
use Rattle.cli.specs.{declared.program.{error.{ProgramError.{ProgramError, TheVariants.Output}, WordsError.TheVariants.{NoText, Memory}}, help.Program.TheVariants.Plural}, Error.{setup_error, error_of_rules}, TextCategory.{TextRulesValue, text_rules}, Categories.{PrintsAll, StopsAt}}
use Rattle.conversions.specs.{declared.named_rules.NamedRulesError.NamedRulesError, NamedRules.{named_type, NamesRules, NamesNoRules}, Parameters.tag_of}

-- the first word is followed by others, and P holds of its bytes and of these
abbrev pub HasTexts : List (String Global) → (List ℕ → List (String Global) → Type 0) → Type 0
HasTexts words P =
    (first : String Global) × (texts : List (String Global)) × (words ≡ first ∷ texts) × (texts ≢ [])
    × P (string_bytes first) texts

-- the tag of the locale that a word names, if it names one
abbrev pub named_tag : List ℕ → Option (List ℕ)
named_tag word = option_map (λ _. tag_of word) (named_type word)

-- the first word names rules, perhaps by a locale, and P holds of these and of the other words, of which there is one
-- at least
abbrev pub HasRules : List (String Global) → (TextRulesValue → List (String Global) → Type 0) → Type 0
HasRules words P =
    HasTexts words
    (λ bytes texts. (rules : List RuleValue) × NamesRules bytes rules × P (text_rules rules (named_tag bytes)) texts)

-- the error before a text is read: there are no rules or no texts, or the first word names no rules
abbrev pub RulesFail : List (String Global) → ProgramError → Type 0
RulesFail words error =
    ((length words < 2) × (error ≡ setup_error Plural NoText))
    ⊎ HasTexts words (λ bytes _. (why : NamedRulesError) × (error ≡ error_of_rules why) × NamesNoRules bytes why)

-- the categories of all texts are printed
abbrev pub Prints : List (String Global) → Option (List ℕ) → Option (List ℕ) → Type 0
Prints words old new = HasRules words (λ rules texts. PrintsAll rules texts old new)

-- the work of `plural`: the categories of all texts are printed; or it has an error: the block before the writer cannot
-- be allocated; or the error comes before a text is read, and the writer is not called; or it comes after the lines of
-- some texts, of which bytes are unwritten only where the writer failed, as it did at `Output`
abbrev pub Categorizes :
    {O : Type 0} → (O → Option (List ℕ)) → O → List (String Global) → Result Bool ProgramError → Option (O × Bool)
    → Type 0
Categorizes contents out words (Ok texts) back =
    IsSomeAnd back (λ closed. (texts ≡ true) × (closed.1 ≡ false) × Prints words (contents out) (contents closed.0))
Categorizes contents out words (Err error) back =
    MatchOption back (error ≡ setup_error Plural Memory) (λ closed. (RulesFail words error × (closed ≡ (out, false)))
    ⊎ ((unwritten : List ℕ) × (closed.1 ≡ false → unwritten ≡ []) × (error ≡ Output → closed.1 ≡ true)
    × HasRules words (λ rules texts. StopsAt rules texts (contents out) (append_known (contents closed.0) unwritten)
    error)))
