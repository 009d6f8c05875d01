-- No text of rules has the form of a locale and an unknown type: each condition has an equals sign.
use Rattle.std.proofs.{Common.{◌≡◌, ◌≢◌, ℕ, suc, ◌+◌, drop, take, Bool, true, false, not, ◌||◌, ◌==◌, ◌⊎◌, inl, inr, List, [], ◌∷◌, ◌++◌, Option, Some, None, refl, sym, ap, ◌∙◌, arith, ⊎_elim}, lemmas.Bool.{and_parts, false≢true, Decides.nat_tests}}
use Rattle.std.specs.{Prelude.codes, Char.is_ascii_alphabetic, List.{list_all, list_any, position_or_len, after_first}}
use Rattle.plural_rules.specs.{declared.rules.Operand.Operand, Rules.{RelationValue, RuleValue}}
use Rattle.plural_rules.specs.RulesGrammar as g
use Rattle.conversions.specs.{NamedRules.{is_tag_byte, is_tag, HasUnknownType}, Parameters.{is_colon, tag_of, option_of}}

abbrev is_equals : ℕ → Bool
is_equals byte = byte == 61

abbrev has_equals : List ℕ → Bool
has_equals bytes = list_any is_equals bytes

-- ---- A condition has an equals sign.

or_right : (a b : Bool) → b ≡ true → (a || b) ≡ true
or_right true b h = refl
or_right false b h = h

later : (bytes rest : List ℕ) → has_equals rest ≡ true → has_equals (bytes ++ rest) ≡ true
later [] rest h = h
later (byte ∷ bytes) rest h = or_right (is_equals byte) (has_equals (bytes ++ rest)) (later bytes rest h)

blanks : {text rest : List ℕ} → g.Blanks text rest → has_equals rest ≡ true → has_equals text ≡ true
blanks g.none h = h
blanks (g.more {c} {text} blank after) h = or_right (is_equals c) (has_equals text) (blanks after h)

token : {bytes text rest : List ℕ} → g.Token bytes text rest → has_equals rest ≡ true → has_equals text ≡ true
token {bytes = bytes} (g.token suffix is after) h = ap has_equals is ∙ later bytes suffix (blanks after h)

number : {text rest : List ℕ} {n : ℕ} → g.Number text n rest → has_equals rest ≡ true → has_equals text ≡ true
number (g.number digits suffix is some all no_digit value after) h =
    ap has_equals is ∙ later digits suffix (blanks after h)

letter :
    {text rest : List ℕ} {operand : Operand} → g.Letter text operand rest → has_equals rest ≡ true
    → has_equals text ≡ true
letter (g.own word) h = token word h
letter (g.exponent word) h = token word h

divided :
    {text rest : List ℕ} {modulus : Option ℕ} → g.Divided text modulus rest → has_equals rest ≡ true
    → has_equals text ≡ true
divided g.undivided h = h
divided (g.divided percent modulus positive) h = token percent (number modulus h)

comparison : {text rest : List ℕ} {is_equal : Bool} → g.Comparison text is_equal rest → has_equals text ≡ true
comparison (g.equal (g.token suffix is after)) = ap has_equals is
comparison (g.not_equal (g.token suffix is after)) = ap has_equals is

related : {text rest : List ℕ} {r : RelationValue} → g.Related text r rest → has_equals text ≡ true
related (g.related operand modulus compared ranges) = letter operand (divided modulus (comparison compared))

and_condition :
    {text rest : List ℕ} {rs : List RelationValue} → g.AndCondition text rs rest → has_equals text ≡ true
and_condition (g.AndCondition.one r) = related r
and_condition (g.and r word rs) = related r

condition :
    {text rest : List ℕ} {alternatives : List (List RelationValue)} → g.Condition text alternatives rest
    → has_equals text ≡ true
condition (g.Condition.one rs) = and_condition rs
condition (g.or rs word alternatives) = and_condition rs

-- ---- After the colon of `other`.

-- letters follow the first colon
abbrev HasLetters : List ℕ → Type 0
HasLetters text =
    (after_first is_colon text ≢ []) × (list_all is_ascii_alphabetic (after_first is_colon text) ≡ true)

-- another byte than a colon
after_other :
    (byte : ℕ) (bytes : List ℕ) → is_colon byte ≡ false
    → after_first is_colon (byte ∷ bytes) ≡ after_first is_colon bytes
after_other byte bytes other =
    let n = position_or_len is_colon bytes in
    let next : 1 + n + 1 ≡ suc (n + 1) = omega arith in
    rw other (ap (λ k. drop k (byte ∷ bytes)) next)

after_word :
    (bytes rest : List ℕ) → list_all (λ byte. not (is_colon byte)) bytes ≡ true
    → after_first is_colon (bytes ++ rest) ≡ after_first is_colon rest
after_word [] rest none = refl
after_word (byte ∷ bytes) rest none =
    let (first, others) = and_parts (not (is_colon byte)) (list_all (λ byte. not (is_colon byte)) bytes) none in
    let other : is_colon byte ≡ false = grind (arith, nat_tests, first) in
    after_other byte (bytes ++ rest) other ∙ after_word bytes rest others

tag_other : (byte : ℕ) (bytes : List ℕ) → is_colon byte ≡ false → tag_of (byte ∷ bytes) ≡ byte ∷ tag_of bytes
tag_other byte bytes other =
    let n = position_or_len is_colon bytes in
    let next : 1 + n ≡ suc n = omega arith in
    rw other (ap (λ k. take k (byte ∷ bytes)) next)

after_blanks : {text rest : List ℕ} → g.Blanks text rest → after_first is_colon text ≡ after_first is_colon rest
after_blanks g.none = refl
after_blanks (g.more {c} {text} blank after) =
    let other : is_colon c ≡ false = grind (arith, nat_tests, blank) in
    after_other c text other ∙ after_blanks after

-- the end of a rule
abbrev IsEnd : List ℕ → Type 0
IsEnd rest = (rest ≡ []) ⊎ ((after : List ℕ) × (rest ≡ 59 ∷ after))

no_letters :
    {text at rest : List ℕ} → g.Blanks text at → g.Samples at rest → IsEnd rest → text ≢ []
    → list_all is_ascii_alphabetic text ≡ true → ⊥
no_letters (g.more {c} blank after) ended end some all =
    let first : is_ascii_alphabetic c ≡ true = (and_parts _ _ all).0 in
    grind (arith, nat_tests, blank, first)
no_letters g.none (g.samples skipped is _) end some all = false≢true (rw is at all)
no_letters g.none (g.no_samples same) (inl none) some all = some (same ∙ none)
no_letters g.none (g.no_samples same) (inr (after, is)) some all = false≢true (rw (same ∙ is) at all)

-- ---- A rule, and rules.

rule_form :
    {text rest : List ℕ} {r : RuleValue} → g.SingleRule text r rest → IsEnd rest
    → (has_equals text ≡ true) ⊎ (¬ HasLetters text)
rule_form (g.conditioned category colon alternatives ended) end =
    inl (token category (token colon (condition alternatives)))
rule_form {text = text} (g.other (g.token suffix is before) (g.token after colon blank) ended) end =
    let same : after_first is_colon text ≡ after =
    ap (after_first is_colon) is
    ∙ after_word (codes "other") suffix refl
    ∙ after_blanks before
    ∙ ap (after_first is_colon) colon in
    inr (λ (some, all). no_letters blank ended end (rw same at some) (rw same at all))

rules_form :
    {text : List ℕ} {rules : List RuleValue} → g.RuleList text rules
    → (has_equals text ≡ true) ⊎ (¬ HasLetters text)
rules_form (g.last r) = rule_form r (inl refl)
rules_form (g.semicolon r (g.token suffix is after) rs) = rule_form r (inr (suffix, is))

-- ---- A tag, a colon and letters.

none_in :
    (P : ℕ → Bool) → ((byte : ℕ) → P byte ≡ true → is_equals byte ≡ false) → (bytes : List ℕ)
    → list_all P bytes ≡ true → has_equals bytes ≡ false
none_in P other [] all = refl
none_in P other (byte ∷ bytes) all =
    let (first, rest) = and_parts (P byte) (list_all P bytes) all in
    rw (other byte first) (none_in P other bytes rest)

tag_byte : (byte : ℕ) → is_tag_byte byte ≡ true → is_equals byte ≡ false
tag_byte byte h = grind (arith, nat_tests, h)

letter_byte : (byte : ℕ) → is_ascii_alphabetic byte ≡ true → is_equals byte ≡ false
letter_byte byte h = grind (arith, nat_tests, h)

tag_bytes : (tag : List ℕ) → is_tag tag ≡ true → list_all is_tag_byte tag ≡ true
tag_bytes [] h = absurd (false≢true h)
tag_bytes (first ∷ rest) h =
    let (letter, others) = and_parts (is_ascii_alphabetic first) (list_all is_tag_byte rest) h in
    let byte : is_tag_byte first ≡ true = grind (arith, nat_tests, letter) in
    rw (byte, others) refl

-- with nothing but letters after the first colon
module _
    (byte : ℕ) (word : List ℕ)
    (rest : list_all is_tag_byte (tag_of word) ≡ true → has_equals (after_first is_colon word) ≡ false
    → has_equals word ≡ false)
  where
    no_equals_by :
        (b : Bool) → is_colon byte ≡ b → list_all is_tag_byte (tag_of (byte ∷ word)) ≡ true
        → has_equals (after_first is_colon (byte ∷ word)) ≡ false → has_equals (byte ∷ word) ≡ false
    no_equals_by true is tag after =
        let other : is_equals byte ≡ false = grind (arith, nat_tests, is) in
        rw other (rw is at after)
    no_equals_by false is tag after =
        let (first, tag_rest) =
        and_parts (is_tag_byte byte) (list_all is_tag_byte (tag_of word)) (rw (tag_other byte word is) at tag) in
        rw (tag_byte byte first) (rest tag_rest (rw (after_other byte word is) at after))

no_equals :
    (word : List ℕ) → list_all is_tag_byte (tag_of word) ≡ true → has_equals (after_first is_colon word) ≡ false
    → has_equals word ≡ false
no_equals [] tag after = refl
no_equals (byte ∷ word) tag after = no_equals_by byte word (no_equals word) (is_colon byte) refl tag after

letters_after : (word letters : List ℕ) → option_of word ≡ Some letters → letters ≡ after_first is_colon word
letters_after word letters is = by_any (list_any is_colon word) refl
  where
    by_any : (b : Bool) → list_any is_colon word ≡ b → letters ≡ after_first is_colon word
    by_any true some = let same : Some (after_first is_colon word) ≡ Some letters = rw some at is in cc
    by_any false none = let same : None ≡ Some letters = rw none at is in cc

pub no_unknown_type :
    (word letters : List ℕ) (rules : List RuleValue) → g.Grammar word rules → ¬ HasUnknownType word letters
no_unknown_type word letters rules grammar (tag, option, some, all, other) =
    let same = letters_after word letters option in
    let plain : has_equals word ≡ false =
    no_equals word (tag_bytes (tag_of word) tag)
    (none_in is_ascii_alphabetic letter_byte (after_first is_colon word) (rw same at all)) in
    let follows = after_blanks grammar.blanks in
    ⊎_elim
    (λ (equals : has_equals grammar.begin ≡ true). false≢true (sym plain ∙ blanks grammar.blanks equals))
    (λ (none : ¬ HasLetters grammar.begin). none (rw (same ∙ follows) at some, rw (same ∙ follows) at all))
    (rules_form grammar.rules)
