-- The grammar of rules, with their meaning. Each form is a relation between a text, the meaning of a prefix of it, and
-- the rest of the text after that prefix. Blanks may follow each token, and precede the first.
use Rattle.std.specs.{Prelude.{◌≡◌, ◌≢◌, ℕ, ◌<◌, ◌==◌, Bool, true, false, ◌||◌, List, [], ◌∷◌, ◌++◌, length, Option, Some, None, codes}, Char.is_ascii_digit, List.AllByRecursion, Str.{all_ascii_digits, Parse.digits_value}}
use Rattle.plural_rules.specs.{declared.rules.{PluralCategory.{PluralCategory, TheVariants.Other}, Operand.{Operand, TheVariants.{N, I, V, W, F, T, C}}, Range.Range}, Operands.Operands, Rules.{name_of, RelationValue, relation, RuleValue, rule, category_of}}

-- ---- Tokens.

-- a space, a tab, a line feed or a carriage return
abbrev pub is_blank : ℕ → Bool
is_blank c = c == 32 || c == 9 || c == 10 || c == 13

-- blanks, perhaps none
pub data Blanks : List ℕ → List ℕ → Type 0 where
  none : {rest : List ℕ} → Blanks rest rest
  more : {c : ℕ} {text rest : List ℕ} → is_blank c ≡ true → Blanks text rest → Blanks (c ∷ text) rest

-- these bytes, and blanks
pub data Token (bytes text rest : List ℕ) : Type 0 where
  token : (suffix : List ℕ) → text ≡ bytes ++ suffix → Blanks suffix rest → Token bytes text rest

-- a word before an operand: these letters, and at least one blank
pub data Keyword (letters text rest : List ℕ) : Type 0 where
  joint :
      (blank : ℕ) (suffix : List ℕ) → text ≡ letters ++ blank ∷ suffix → is_blank blank ≡ true → Blanks suffix rest
      → Keyword letters text rest

-- the text does not begin with a digit
abbrev pub HasNoLeadingDigit : List ℕ → Type 0
HasNoLeadingDigit [] = Unit {0}
HasNoLeadingDigit (c ∷ text) = is_ascii_digit c ≡ false

-- a number: a longest run of digits, leading zeros included, and blanks
pub data Number (text : List ℕ) (n : ℕ) (rest : List ℕ) : Type 0 where
  number :
      (digits suffix : List ℕ) → text ≡ digits ++ suffix → 0 < length digits → all_ascii_digits digits ≡ true
      → HasNoLeadingDigit suffix → n ≡ digits_value 10 digits → Blanks suffix rest → Number text n rest

-- the letters of the operands
abbrev pub operand_word : Operand → List ℕ
operand_word N = codes "n"
operand_word I = codes "i"
operand_word V = codes "v"
operand_word W = codes "w"
operand_word F = codes "f"
operand_word T = codes "t"
operand_word C = codes "c"

-- ---- Conditions.

-- an operand by its letter; `e` is `c`
pub data Letter (text : List ℕ) : Operand → List ℕ → Type 0 where
  own : {operand : Operand} {rest : List ℕ} → Token (operand_word operand) text rest → Letter text operand rest
  exponent : {rest : List ℕ} → Token (codes "e") text rest → Letter text C rest

-- a percent sign and a modulus other than 0, or nothing
pub data Divided (text : List ℕ) : Option ℕ → List ℕ → Type 0 where
  undivided : Divided text None text
  divided :
      {modulus : ℕ} {suffix rest : List ℕ} → Token (codes "%") text suffix → Number suffix modulus rest → 0 < modulus
      → Divided text (Some modulus) rest

-- = or !=
pub data Comparison (text : List ℕ) : Bool → List ℕ → Type 0 where
  equal : {rest : List ℕ} → Token (codes "=") text rest → Comparison text true rest
  not_equal : {rest : List ℕ} → Token (codes "!=") text rest → Comparison text false rest

-- one number, or the first and the last of a range with two dots between them
pub data Numbers (text : List ℕ) : Range → List ℕ → Type 0 where
  single : {n : ℕ} {rest : List ℕ} → Number text n rest → Numbers text (record { low = n; high = n }) rest
  between :
      {low high : ℕ} {dots suffix rest : List ℕ} → Number text low dots → Token (codes "..") dots suffix
      → Number suffix high rest → Numbers text (record { low = low; high = high }) rest

-- ranges between commas
pub data RangeList : List ℕ → List Range → List ℕ → Type 0 where
  one : {text : List ℕ} {range : Range} {rest : List ℕ} → Numbers text range rest → RangeList text (range ∷ []) rest
  comma :
      {range : Range} {ranges : List Range} {text comma suffix rest : List ℕ} → Numbers text range comma
      → Token (codes ",") comma suffix → RangeList suffix ranges rest → RangeList text (range ∷ ranges) rest

-- `i % 10 = 2..4`
pub data Related (text : List ℕ) : RelationValue → List ℕ → Type 0 where
  related :
      {operand : Operand} {modulus : Option ℕ} {is_equal : Bool} {ranges : List Range}
      {percent compared suffix rest : List ℕ} → Letter text operand percent → Divided percent modulus compared
      → Comparison compared is_equal suffix → RangeList suffix ranges rest
      → Related text (relation operand modulus is_equal ranges) rest

-- relations with `and` between them
pub data AndCondition : List ℕ → List RelationValue → List ℕ → Type 0 where
  one : {r : RelationValue} {text rest : List ℕ} → Related text r rest → AndCondition text (r ∷ []) rest
  and :
      {r : RelationValue} {rs : List RelationValue} {text word suffix rest : List ℕ} → Related text r word
      → Keyword (codes "and") word suffix → AndCondition suffix rs rest → AndCondition text (r ∷ rs) rest

-- conjunctions with `or` between them
pub data Condition : List ℕ → List (List RelationValue) → List ℕ → Type 0 where
  one : {rs : List RelationValue} {text rest : List ℕ} → AndCondition text rs rest → Condition text (rs ∷ []) rest
  or :
      {rs : List RelationValue} {alternatives : List (List RelationValue)} {text word suffix rest : List ℕ}
      → AndCondition text rs word → Keyword (codes "or") word suffix → Condition suffix alternatives rest
      → Condition text (rs ∷ alternatives) rest

-- ---- Rules.

-- nothing, or an @ and bytes other than semicolons
pub data Samples (text rest : List ℕ) : Type 0 where
  no_samples : text ≡ rest → Samples text rest
  samples :
      (skipped : List ℕ) → text ≡ 64 ∷ skipped ++ rest → AllByRecursion (λ c. (c == 59) ≡ false) skipped
      → Samples text rest

-- a category, a colon, a condition and samples; the condition of `other` may be left out
pub data SingleRule (text : List ℕ) : RuleValue → List ℕ → Type 0 where
  conditioned :
      {category : PluralCategory} {alternatives : List (List RelationValue)} {colon suffix at rest : List ℕ}
      → Token (name_of category) text colon → Token (codes ":") colon suffix
      → Condition suffix alternatives at → Samples at rest → SingleRule text (rule category alternatives) rest
  other :
      {colon at rest : List ℕ} → Token (codes "other") text colon → Token (codes ":") colon at → Samples at rest
      → SingleRule text (rule Other []) rest

-- rules with semicolons between them, to the end of the text
pub data RuleList : List ℕ → List RuleValue → Type 0 where
  last : {r : RuleValue} {text : List ℕ} → SingleRule text r [] → RuleList text (r ∷ [])
  semicolon :
      {r : RuleValue} {rs : List RuleValue} {text semicolon suffix : List ℕ} → SingleRule text r semicolon
      → Token (codes ";") semicolon suffix → RuleList suffix rs → RuleList text (r ∷ rs)

-- no two rules have the same category
abbrev pub HasDistinctCategories : List RuleValue → Type 0
HasDistinctCategories [] = Unit {0}
HasDistinctCategories (r ∷ rs) = AllByRecursion (λ other. other.category ≢ r.category) rs × HasDistinctCategories rs

-- the text is these rules
pub record Grammar (text : List ℕ) (meaning : List RuleValue) : Type 0 where
  pub begin : List ℕ
  pub blanks : Blanks text begin
  pub rules : RuleList begin meaning
  pub distinct : HasDistinctCategories meaning

-- the category of a number by a text of rules
abbrev pub IsCategoryByText : List ℕ → Operands → PluralCategory → Type 0
IsCategoryByText text n category =
    (rules : List RuleValue) × Grammar text rules × (category ≡ category_of rules n)
