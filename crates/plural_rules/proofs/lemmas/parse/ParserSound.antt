-- A text that the reader accepts is in the grammar: for each state, the form of a text that is accepted from it.
use Rattle.std.proofs.{Common.{◌≡◌, ◌≢◌, ℕ, suc, ◌+◌, ◌-◌, ◌*◌, ◌<◌, ◌≤◌, ◌==◌, nat_lt, Bool, true, false, cond, ◌&&◌, ◌||◌, List, [], ◌∷◌, ◌++◌, length, drop, get_or, refl, sym, ◌∙◌, ap, arith, eqb-true, drop-cons, rules}, lemmas.{Bool.{and_from, ltb-true, Decides.nat_tests}, List.drop_all}}
use Rattle.std.specs.{Prelude.{Some, None, codes}, Char.{is_ascii_digit, digit_value}, List.AllByRecursion, Str.Parse.{digits_value, digits_value_after}}
use Rattle.plural_rules.specs.{declared.{rules.{PluralCategory.PluralCategory, Operand.Operand}, parse.state.{State.State, Event.Event, Categories.Categories}}, Rules.{name_of, RelationValue, RuleValue, rule}, RulesGrammar.{is_blank, operand_word, HasNoLeadingDigit, Grammar}, RulesReader.{has, with, is_full, Transition, Partial, no_rules, after, next, follows_range, condition_of, modulus_state}}
use Rattle.plural_rules.specs.declared.rules.PluralCategory.TheVariants as category
use Rattle.plural_rules.specs.declared.rules.Operand.TheVariants as operand_variants
use Rattle.plural_rules.specs.declared.parse.state.State.TheVariants as state
use Rattle.plural_rules.specs.declared.parse.state.Event.TheVariants as event
use Rattle.plural_rules.specs.RulesGrammar as g
use Rattle.plural_rules.specs.RulesReader as reader
use Rattle.plural_rules.proofs.lemmas.parse.{RulesRun.{any_allowed, apply_transition, finish, run, read, read_text}, ParserComplete.{IsNewCategory, AreNewCategories, digit_is, grows, read_any-complete}}

-- ---- What may follow each form, by what it makes of the form before it.

-- a form, and what follows it
abbrev pub Then : {X : Type 0} → (List ℕ → X → List ℕ → Type 0) → (List ℕ → Type 0) → List ℕ → Type 0
Then {X} R Q text = (x : X) × (rest : List ℕ) × R text x rest × Q rest

-- what makes this of a form before it
abbrev pub Completes : {X : Type 0} → (List ℕ → X → List ℕ → Type 0) → (List ℕ → Type 0) → List ℕ → Type 0
Completes {X} R Q rest = (text : List ℕ) (x : X) → R text x rest → Q text

abbrev pub Ruled : Categories → List ℕ → Type 0
Ruled seen text = (rules : List RuleValue) × g.RuleList text rules × AreNewCategories seen rules

-- after a rule: nothing, or further rules
pub data AfterRule (seen : Categories) : List ℕ → Type 0 where
  ended : AfterRule seen []
  further : {text suffix : List ℕ} → g.Token (codes ";") text suffix → Ruled seen suffix → AfterRule seen text

-- after a condition: samples, and what follows a rule
abbrev pub AfterCondition : Categories → List ℕ → Type 0
AfterCondition seen text = (rest : List ℕ) × g.Samples text rest × AfterRule seen rest

-- relations, and what makes them a condition
abbrev pub Conjoined : Categories → List ℕ → Type 0
Conjoined seen = Then g.AndCondition (Completes g.AndCondition (Then g.Condition (AfterCondition seen)))

-- ranges, and what makes relations of them and what precedes them
abbrev pub Listed : Categories → List ℕ → Type 0
Listed seen = Then g.RangeList (Completes g.Related (Conjoined seen))

abbrev pub AfterRange : Categories → List ℕ → Type 0
AfterRange seen = Completes g.Numbers (Listed seen)

-- what follows the first number of a range
abbrev pub LowEnds : Categories → List ℕ → Type 0
LowEnds seen = Completes g.Number (Listed seen)

-- a comparison, and ranges
abbrev pub Compared : Categories → List ℕ → Type 0
Compared seen = Then g.Comparison (Listed seen)

-- a modulus, and a comparison
abbrev pub ModulusFrom : Categories → List ℕ → Type 0
ModulusFrom seen = Then (λ text n rest. g.Number text n rest × (0 < n)) (Compared seen)

-- what makes a category and a colon before it a rule
abbrev pub AfterColon : PluralCategory → Categories → List ℕ → Type 0
AfterColon k seen text =
    (begin colon : List ℕ) → g.Token (name_of k) begin colon → g.Token (codes ":") colon text
    → Then (λ begin all rest. g.SingleRule begin (rule k all) rest) (AfterRule seen) begin

-- ---- The form of a text that is accepted from a state.

-- these bytes and blanks, and then this
abbrev pub Spelled : List ℕ → (List ℕ → Type 0) → List ℕ → Type 0
Spelled bytes Q text = (rest : List ℕ) × g.Token bytes text rest × Q rest

-- a colon, and what makes a new category before it a rule
abbrev pub Named : PluralCategory → Categories → List ℕ → Type 0
Named k seen = Spelled (codes ":") (AfterColon k (with seen k))

-- these letters and at least one blank, and relations
abbrev pub Joined : List ℕ → Categories → List ℕ → Type 0
Joined letters seen text = (rest : List ℕ) × g.Keyword letters text rest × Conjoined seen rest

-- more digits of a number, perhaps none, and blanks
abbrev pub MoreDigits : List ℕ → List ℕ → Type 0
MoreDigits text rest =
    (c : ℕ) → is_ascii_digit c ≡ true → (n : ℕ) × g.Number (c ∷ text) n rest × (c - 48 ≤ n)

abbrev pub AtDigits : (List ℕ → Type 0) → List ℕ → Type 0
AtDigits Q text = (rest : List ℕ) × MoreDigits text rest × Q rest

abbrev pub At : Categories → State → List ℕ → Type 0
At seen state.Category text = Spelled [] (Ruled seen) text
At seen state.One text =
    (k : PluralCategory) × IsNewCategory seen k × Spelled (name_of k) (Named k seen) (111 ∷ text)
At seen (state.Letters k n) text = Spelled (drop n (name_of k)) (Named k seen) text
At seen state.OtherCondition text = Spelled [] (AfterColon category.Other seen) text
At seen state.Operand text = Spelled [] (Conjoined seen) text
At seen state.Percent text = Spelled [] (Then g.Divided (Compared seen)) text
At seen state.Modulus text = Spelled [] (ModulusFrom seen) text
At seen state.Zeros text = ModulusFrom seen text
At seen state.ModulusDigits text = AtDigits (Compared seen) text
At seen state.Comparison text = Spelled [] (Compared seen) text
At seen state.NotEqual text = Spelled (codes "=") (Listed seen) text
At seen state.Low text = Spelled [] (Listed seen) text
At seen state.LowDigits text = AtDigits (LowEnds seen) text
At seen state.AfterLow text = Spelled [] (LowEnds seen) text
At seen state.Dot text = Spelled (codes ".") (Then g.Number (AfterRange seen)) text
At seen state.High text = Spelled [] (Then g.Number (AfterRange seen)) text
At seen state.HighDigits text = AtDigits (AfterRange seen) text
At seen state.AfterHigh text = Spelled [] (AfterRange seen) text
At seen state.And text = Joined (codes "nd") seen text
At seen state.AndEnd text = Joined (codes "d") seen text
At seen state.OrEnd text = Joined (codes "r") seen text
At seen state.Blank text = Joined [] seen text
At seen state.Samples text =
    (skipped : List ℕ) × (rest : List ℕ) × (text ≡ skipped ++ rest) × AllByRecursion (λ c. (c == 59) ≡ false) skipped
    × AfterRule seen rest

-- ---- One more byte before a form.

one_letter : {k : ℕ} {bytes text rest : List ℕ} → g.Token bytes text rest → g.Token (k ∷ bytes) (k ∷ text) rest
one_letter {k} (g.token suffix is blanks) = g.token suffix (ap (λ x. k ∷ x) is) blanks

spell : {Q : List ℕ → Type 0} {k : ℕ} {bytes text : List ℕ} → Spelled bytes Q text → Spelled (k ∷ bytes) Q (k ∷ text)
spell i = (i.0, one_letter i.1, i.2)

one_joined : {k : ℕ} {letters text rest : List ℕ} → g.Keyword letters text rest
    → g.Keyword (k ∷ letters) (k ∷ text) rest
one_joined {k} (g.joint blank suffix is is_blank blanks) = g.joint blank suffix (ap (λ x. k ∷ x) is) is_blank blanks

join : {seen : Categories} {k : ℕ} {letters text : List ℕ} → Joined letters seen text
    → Joined (k ∷ letters) seen (k ∷ text)
join i = (i.0, one_joined i.1, i.2)

one_blank : {c : ℕ} {text rest : List ℕ} → is_blank c ≡ true → g.Token [] text rest → g.Token [] (c ∷ text) rest
one_blank {c} is_blank (g.token suffix is blanks) = g.token _ (ap (λ x. c ∷ x) is) (g.more is_blank blanks)

blank_joined : {c : ℕ} {text rest : List ℕ} → is_blank c ≡ true → g.Token [] text rest → g.Keyword [] (c ∷ text) rest
blank_joined {c} is_blank (g.token suffix is blanks) = g.joint c suffix (ap (λ x. c ∷ x) is) is_blank blanks

no_blank : {Q : List ℕ → Type 0} {text : List ℕ} → Q text → Spelled [] Q text
no_blank {text = text} i = (text, g.token text refl g.none, i)

-- a digit before a number
one_digit : {c n : ℕ} {text rest : List ℕ} → is_ascii_digit c ≡ true → g.Number text n rest
    → (m : ℕ) × g.Number (c ∷ text) m rest × (c - 48 + n ≤ m)
one_digit {c} {n} is_digit (g.number ds suffix is some all no_digit value blanks) =
    let first : digit_value c ≡ c - 48 = digit_is c is_digit in
    let least : c - 48 + digits_value_after 10 0 ds ≤ digits_value_after 10 (0 * 10 + digit_value c) ds =
    grows (c - 48) 0 (0 * 10 + digit_value c) ds (omega arith) in (
      digits_value 10 (c ∷ ds),
      g.number (c ∷ ds) suffix (ap (λ x. c ∷ x) is) (omega arith) (and_from _ _ is_digit all) no_digit refl blanks,
      omega arith,
    )

more_digits : {c : ℕ} {text rest : List ℕ} → is_ascii_digit c ≡ true → MoreDigits text rest → MoreDigits (c ∷ text) rest
more_digits {c} is_digit more d d_is = let n = one_digit d_is (more c is_digit).1 in (n.0, n.1, omega arith)

no_digits : {Q : List ℕ → Type 0} {text : List ℕ} → HasNoLeadingDigit text → Spelled [] Q text → AtDigits Q text
no_digits {text = text} no_digit i = (i.0, none i.1, i.2)
  where
    none : {rest : List ℕ} → g.Token [] text rest → MoreDigits text rest
    none (g.token suffix is blanks) c is_digit =
        let first : digit_value c ≡ c - 48 = digit_is c is_digit in (
          digits_value 10 (c ∷ []),
          g.number (c ∷ []) suffix (ap (λ x. c ∷ x) is) (omega arith) (and_from _ _ is_digit refl)
              (rw is at no_digit) refl blanks,
          omega arith,
        )

-- ---- Rules.

-- a category that is new after another one was new before it, and is a different one
fresh_before : (seen : Categories) (k : PluralCategory) (rs : List RuleValue)
    → AllByRecursion (λ r. IsNewCategory (with seen k) r.category) rs
    → AllByRecursion (λ r. IsNewCategory seen r.category) rs × AllByRecursion (λ r. r.category ≢ k) rs
fresh_before seen k [] h = (tt, tt)
fresh_before seen k (r ∷ rs) h = grind (arith, (fresh_before seen k rs h.1))

rule_found : {k : PluralCategory} {seen : Categories} {text : List ℕ} → IsNewCategory seen k
    → Spelled (name_of k) (Named k seen) text → Ruled seen text
rule_found {k} {seen} {text} new i =
    let colon = i.2 in
    let r = colon.2 text i.0 i.1 colon.1 in
    go r.0 r.1 r.2 r.3
  where
    go : (all : List (List RelationValue)) (rest : List ℕ) → g.SingleRule text (rule k all) rest
        → AfterRule (with seen k) rest → Ruled seen text
    go all [] one ended = (rule k all ∷ [], g.last one, ((new, tt), (tt, tt)))
    go all rest one (further tok others) =
        let later = others.2 in
        let fresh = fresh_before seen k others.0 later.0 in
        (rule k all ∷ others.0, g.semicolon one tok others.1, ((new, fresh.0), (fresh.1, later.1)))

-- a condition after a colon
conditioned : {k : PluralCategory} {seen : Categories} {text : List ℕ} → Conjoined seen text → AfterColon k seen text
conditioned {text = text} i begin colon name after_name =
    let all = i.3 text i.0 i.2 in
    let end = all.3 in
    (all.0, end.0, g.conditioned name after_name all.2 end.1, end.2)

condition_here : (k : PluralCategory) {seen : Categories} {text : List ℕ} → At seen (condition_of k) text
    → Spelled [] (AfterColon k seen) text
condition_here category.Other i = i
condition_here k i = (i.0, i.1, conditioned i.2)

-- no condition after the colon of `other`
no_condition : {seen : Categories} {text : List ℕ} → AfterCondition seen text → AfterColon category.Other seen text
no_condition i begin colon name after_name = ([], i.0, g.other name after_name i.1, i.2)

-- ---- The end of a form.

last_range : {seen : Categories} {rest : List ℕ} → Completes g.Related (Conjoined seen) rest → AfterRange seen rest
last_range i text range one = (range ∷ [], _, g.RangeList.one one, i)

last_relation : {seen : Categories} {rest : List ℕ}
    → Completes g.AndCondition (Then g.Condition (AfterCondition seen)) rest → AfterRange seen rest
last_relation i = last_range (λ text r one. (r ∷ [], _, g.AndCondition.one one, i))

condition_ends : {seen : Categories} {rest : List ℕ} → AfterCondition seen rest → AfterRange seen rest
condition_ends i = last_relation (λ text rs one. (rs ∷ [], _, g.Condition.one one, i))

single : {seen : Categories} {rest : List ℕ} → AfterRange seen rest → LowEnds seen rest
single i begin n one = i begin _ (g.single one)

-- ---- One more byte at the start.

module _ (meaning : List RuleValue) (c : ℕ) (t : List ℕ)
    (ih : (s : State) (p : Partial) → read false s p t ≡ Some meaning → At p.seen s t) (p : Partial) where
  -- the rest is accepted after this transition
  abbrev ReadsAfter : Transition → Type 0
  ReadsAfter m = finish (apply_transition false m p (λ s q. run false s q t)) ≡ Some meaning

  stops : {Q : Type 0} → ReadsAfter None → Q
  stops h = absurd (cc)

  -- a transition to a state
  moved : (e : Event) (s : State) → ReadsAfter (Some (s, e)) → At (after e p).seen s t
  moved e s h =
      ih s (after e p) (sym (ap (λ b. finish (cond b (run false s (after e p) t) None)) (any_allowed e p)) ∙ h)

  on_if : {Q : Type 0} (b : Bool) (y z : Transition) → (b ≡ true → ReadsAfter y → Q) → (b ≡ false → ReadsAfter z → Q)
      → ReadsAfter (cond b y z) → Q
  on_if true y z here other h = here refl h
  on_if false y z here other h = other refl h

  -- by a test, whose transition is to a state
  on_test : {Q : Type 0} (b : Bool) (s : State) (e : Event) (z : Transition) → (b ≡ true → At (after e p).seen s t → Q)
      → (b ≡ false → ReadsAfter z → Q) → ReadsAfter (cond b (Some (s, e)) z) → Q
  on_test b s e z here = on_if b (Some (s, e)) z (λ is h. here is (moved e s h))

  -- at this byte, or at any other
  at_byte : (Q : List ℕ → Type 0) (k : ℕ) (y z : Transition) → (ReadsAfter y → Q (k ∷ t)) → (ReadsAfter z → Q (c ∷ t))
      → ReadsAfter (cond (c == k) y z) → Q (c ∷ t)
  at_byte Q k y z here other = on_if (c == k) y z (λ is h. rw (eqb-true c k is) (here h)) (λ is. other)

  -- at this byte to a state
  on_byte : (Q : List ℕ → Type 0) (k : ℕ) (s : State) (e : Event) (z : Transition)
      → (At (after e p).seen s t → Q (k ∷ t)) → (ReadsAfter z → Q (c ∷ t)) → ReadsAfter (cond (c == k) (Some (s, e)) z)
      → Q (c ∷ t)
  on_byte Q k s e z here = at_byte Q k (Some (s, e)) z (λ h. here (moved e s h))

  -- at a blank to the state itself
  on_skip : (Q : List ℕ → Type 0) (s : State) (z : Transition) → (At p.seen s t → Spelled [] Q t)
      → (ReadsAfter z → Q (c ∷ t)) → ReadsAfter (reader.skip s c z) → Spelled [] Q (c ∷ t)
  on_skip Q s z same other =
      on_test (is_blank c) s event.Nothing z (λ b i. let j = same i in (j.0, one_blank b j.1, j.2))
      (λ b h. no_blank (other h))

  on_digits : (Q : List ℕ → Type 0) (s : State) (z : Transition) → (At p.seen s t → AtDigits Q t)
      → (ReadsAfter z → Spelled [] Q (c ∷ t)) → ReadsAfter (reader.digit c s z) → AtDigits Q (c ∷ t)
  on_digits Q s z same other = grind (arith, on_test, more_digits, no_digits)

  -- another rule, after a semicolon
  another : (e : Event) → (after e p).seen ≡ p.seen
      → ReadsAfter (cond (is_full p.seen) None (Some (state.Category, e))) → AfterRule p.seen (59 ∷ t)
  another e same = on_if (is_full p.seen) _ _ (λ full. stops) (λ full h.
      let i : At p.seen state.Category t = rw same at (moved e state.Category h) in
      further (one_letter i.1) i.2)

  -- a rule ends, and samples or another rule follow
  ends : (e : Event) → (after e p).seen ≡ p.seen → ReadsAfter (reader.rule_end p.seen c e)
      → AfterCondition p.seen (c ∷ t)
  ends e same =
      at_byte (AfterCondition p.seen) 59 _ _ (λ h. (59 ∷ t, g.no_samples refl, another e same h))
      (on_byte (AfterCondition p.seen) 64 state.Samples e _ (λ i.
      let j : At p.seen state.Samples t = rw same at i in
      (j.1, g.samples j.0 (ap (λ x. 64 ∷ x) j.2) j.3, j.4)) stops)

  -- what follows a range that ends here
  follows : ReadsAfter (follows_range p.seen c) → AfterRange p.seen (c ∷ t)
  follows =
      on_byte (AfterRange p.seen) 44 state.Low event.Comma _
      (λ i text range one. let list = i.2 in (range ∷ list.0, list.1, g.comma one (one_letter i.1) list.2, list.3))
      (on_byte (AfterRange p.seen) 97 state.And event.And _ (λ i.
      let list = i.2 in
      last_range (λ text r one. (r ∷ list.0, list.1, g.and one (one_joined i.1) list.2, list.3)))
      (on_byte (AfterRange p.seen) 111 state.OrEnd event.Or _ (λ i.
      let list = i.2 in
      let all = list.3 i.0 list.0 list.2 in
      last_relation (λ text rs one.
      (rs ∷ all.0, all.1, g.or one (one_joined i.1) all.2, all.3)))
      (λ h. condition_ends (ends event.End refl h))))

  after_low : ReadsAfter (reader.after_low p.seen c) → Spelled [] (LowEnds p.seen) (c ∷ t)
  after_low =
      on_skip (LowEnds p.seen) state.AfterLow _ (λ i. i)
      (on_byte (LowEnds p.seen) 46 state.Dot event.Nothing _
      (λ i begin n one. let high = i.2 in high.3 begin _ (g.between one (one_letter i.1) high.2))
      (λ h. single (follows h)))

  after_high : ReadsAfter (reader.after_high p.seen c) → Spelled [] (AfterRange p.seen) (c ∷ t)
  after_high = on_skip (AfterRange p.seen) state.AfterHigh _ (λ i. i) follows

  -- a comparison starts here
  compares : ReadsAfter (reader.comparison c) → Compared p.seen (c ∷ t)
  compares =
      on_byte (Compared p.seen) 61 state.Low (event.Equal true) _ (λ i. (true, i.0, g.equal (one_letter i.1), i.2))
      (on_byte (Compared p.seen) 33 state.NotEqual event.Nothing _
      (λ i. (false, i.0, g.not_equal (one_letter i.1), i.2)) stops)

  comparison_here : ReadsAfter (reader.skip state.Comparison c (reader.comparison c))
      → Spelled [] (Compared p.seen) (c ∷ t)
  comparison_here = on_skip (Compared p.seen) state.Comparison _ (λ i. i) compares

  modulus_from : is_ascii_digit c ≡ true → At p.seen (modulus_state c) t → ModulusFrom p.seen (c ∷ t)
  modulus_from is_digit i = go (c == 48) refl i
    where
      go : (b : Bool) → (c == 48) ≡ b → At p.seen (cond b state.Zeros state.ModulusDigits) t
          → ModulusFrom p.seen (c ∷ t)
      go true is i =
          let modulus = i.2 in
          let n = one_digit is_digit modulus.0 in
          (n.0, i.1, (n.1, omega (arith, modulus.1)), i.3)
      go false is i =
          let n = i.1 c is_digit in
          let some : 0 < c - 48 = grind (arith, nat_tests) in
          (n.0, i.0, (n.1, omega arith), i.2)

  -- an operand starts here, with this letter or another one
  relation_here : (o : Operand) {text : List ℕ} → ((rest : List ℕ) → g.Token [] t rest → g.Letter text o rest)
      → At p.seen state.Percent t → Conjoined p.seen text
  relation_here o {text} letter i =
      let divided = i.2 in
      let compared = divided.3 in
      let list = compared.3 in
      list.3 text _ (g.related (letter i.0 i.1) divided.2 compared.2 list.2)

  own : (o : Operand) (letter : ℕ) → operand_word o ≡ letter ∷ [] → (z : Transition)
      → (ReadsAfter z → Conjoined p.seen (c ∷ t))
      → ReadsAfter (cond (c == letter) (Some (state.Percent, event.Operand o)) z) → Conjoined p.seen (c ∷ t)
  own o letter word z =
      on_byte (Conjoined p.seen) letter state.Percent (event.Operand o) z
      (relation_here o (λ rest blanks. g.own (rw word (one_letter blanks))))

  operand_here : ReadsAfter (reader.operand c) → Conjoined p.seen (c ∷ t)
  operand_here =
      own operand_variants.N 110 refl _ (own operand_variants.I 105 refl _ (own operand_variants.V 118 refl _
      (own operand_variants.W 119 refl _ (own operand_variants.F 102 refl _ (own operand_variants.T 116 refl _
      (own operand_variants.C 99 refl _
      (on_byte (Conjoined p.seen) 101 state.Percent (event.Operand operand_variants.C) _
      (relation_here operand_variants.C (λ rest blanks. g.exponent (one_letter blanks))) stops)))))))

  letters_here : (k : PluralCategory) (n : ℕ) → ReadsAfter (reader.letter k n c) → At p.seen (state.Letters k n) (c ∷ t)
  letters_here k n = on_if (nat_lt n (length (name_of k))) _ _
      (λ more h.
      let within : n < length (name_of k) = ltb-true n (length (name_of k)) more in
      let one : suc n ≡ n + 1 = omega arith in
      let cut : drop n (name_of k) ≡ get_or (name_of k) n 0 ∷ drop (n + 1) (name_of k) =
      drop-cons (name_of k) n 0 within ∙ ap (λ m. get_or (name_of k) n 0 ∷ drop m (name_of k)) one in
      rw cut (on_byte (Spelled (get_or (name_of k) n 0 ∷ drop (n + 1) (name_of k)) (Named k p.seen))
      (get_or (name_of k) n 0) (state.Letters k (n + 1)) event.Nothing _ spell stops h))
      (λ over h.
      let least : length (name_of k) ≤ n = grind (arith, nat_tests) in
      let none : drop n (name_of k) ≡ [] = drop_all n (name_of k) least in
      rw none (on_skip (Named k p.seen) (state.Letters k n) _ (λ i. rw none at i)
      (on_byte (Named k p.seen) 58 (condition_of k) (event.Category k) _ (λ i. spell (condition_here k i)) stops) h))

  -- the first letters of a category that is new
  new_letters : (k : PluralCategory) (n : ℕ)
      → ReadsAfter (cond (has p.seen k) None (Some (state.Letters k n, event.Nothing)))
      → IsNewCategory p.seen k × At p.seen (state.Letters k n) t
  new_letters k n = on_if (has p.seen k) _ _ (λ old. stops) (λ new h. (new, moved event.Nothing (state.Letters k n) h))

  category_here : ReadsAfter (reader.category_letter p.seen c) → Ruled p.seen (c ∷ t)
  category_here =
      at_byte (Ruled p.seen) 122 _ _ (λ h. let i = new_letters category.Zero 1 h in rule_found i.0 (spell i.1))
      (at_byte (Ruled p.seen) 111 _ _
      (on_if (p.seen.one && p.seen.other) _ _ (λ both. stops)
      (λ some h. let i = moved event.Nothing state.One h in rule_found i.1 i.2))
      (at_byte (Ruled p.seen) 116 _ _ (λ h. let i = new_letters category.Two 1 h in rule_found i.0 (spell i.1))
      (at_byte (Ruled p.seen) 102 _ _ (λ h. let i = new_letters category.Few 1 h in rule_found i.0 (spell i.1))
      (at_byte (Ruled p.seen) 109 _ _ (λ h. let i = new_letters category.Many 1 h in rule_found i.0 (spell i.1))
      stops))))

  one_byte : (s : State) → ReadsAfter (next p.seen s c) → At p.seen s (c ∷ t)
  one_byte state.Category h = on_skip (Ruled p.seen) state.Category _ (λ i. i) category_here h
  one_byte state.One h =
      at_byte (At p.seen state.One) 110 _ _
      (λ h. let i = new_letters category.One 2 h in (category.One, i.0, spell (spell i.1)))
      (at_byte (At p.seen state.One) 116 _ _
      (λ h. let i = new_letters category.Other 2 h in (category.Other, i.0, spell (spell i.1))) stops) h
  one_byte (state.Letters k n) h = letters_here k n h
  one_byte state.OtherCondition h =
      on_skip (AfterColon category.Other p.seen) state.OtherCondition _ (λ i. i)
      (on_if (c == 59 || c == 64) _ _ (λ end h. no_condition (ends event.EndOther refl h))
      (λ begins h. conditioned (operand_here h))) h
  one_byte state.Operand h = on_skip (Conjoined p.seen) state.Operand _ (λ i. i) operand_here h
  one_byte state.Percent h =
      on_skip (Then g.Divided (Compared p.seen)) state.Percent _ (λ i. i)
      (on_byte (Then g.Divided (Compared p.seen)) 37 state.Modulus event.Percent _
      (λ i. let m = i.2 in let n = m.2 in (Some m.0, m.1, g.divided (one_letter i.1) n.0 n.1, m.3))
      (λ h. (None, c ∷ t, g.undivided, compares h))) h
  one_byte state.Modulus h =
      on_skip (ModulusFrom p.seen) state.Modulus _ (λ i. i)
      (on_test _ (modulus_state c) _ _ modulus_from (λ none. stops)) h
  one_byte state.Zeros h = on_test _ (modulus_state c) _ _ modulus_from (λ none. stops) h
  one_byte state.ModulusDigits h = on_digits (Compared p.seen) state.ModulusDigits _ (λ i. i) comparison_here h
  one_byte state.Comparison h = comparison_here h
  one_byte state.NotEqual h = on_byte (At p.seen state.NotEqual) 61 state.Low (event.Equal false) _ spell stops h
  one_byte state.Low h =
      on_skip (Listed p.seen) state.Low _ (λ i. i)
      (on_test _ state.LowDigits _ _ (λ d i. i.2 _ _ (i.1 c d).1) (λ none. stops)) h
  one_byte state.LowDigits h = on_digits (LowEnds p.seen) state.LowDigits _ (λ i. i) after_low h
  one_byte state.AfterLow h = after_low h
  one_byte state.Dot h = on_byte (At p.seen state.Dot) 46 state.High event.To _ spell stops h
  one_byte state.High h =
      on_skip (Then g.Number (AfterRange p.seen)) state.High _ (λ i. i)
      (on_test _ state.HighDigits _ _ (λ d i. let n = i.1 c d in (n.0, i.0, n.1, i.2)) (λ none. stops)) h
  one_byte state.HighDigits h = on_digits (AfterRange p.seen) state.HighDigits _ (λ i. i) after_high h
  one_byte state.AfterHigh h = after_high h
  one_byte state.And h = on_byte (At p.seen state.And) 110 state.AndEnd event.Nothing _ join stops h
  one_byte state.AndEnd h = on_byte (At p.seen state.AndEnd) 100 state.Blank event.Nothing _ join stops h
  one_byte state.OrEnd h = on_byte (At p.seen state.OrEnd) 114 state.Blank event.Nothing _ join stops h
  one_byte state.Blank h =
      on_test (is_blank c) state.Operand _ _ (λ b i. (i.0, blank_joined b i.1, i.2)) (λ none. stops) h
  one_byte state.Samples h = on_if (c == 59) _ _
      (λ is h. rw (eqb-true c 59 is) ([], 59 ∷ t, refl, tt, another event.Nothing refl h))
      (λ is h. let i = moved event.Nothing state.Samples h in (c ∷ i.0, i.1, ap (λ x. c ∷ x) i.2, (is, i.3), i.4)) h

-- ---- A whole text.

-- the text may end after a rule
nothing_left : {seen : Categories} → AfterCondition seen []
nothing_left = ([], g.no_samples refl, ended)

at_the_end : (meaning : List RuleValue) (s : State) (p : Partial) → read false s p [] ≡ Some meaning → At p.seen s []
at_the_end meaning state.OtherCondition p h = no_blank (no_condition nothing_left)
at_the_end meaning state.LowDigits p h = no_digits tt (no_blank (single (condition_ends nothing_left)))
at_the_end meaning state.AfterLow p h = no_blank (single (condition_ends nothing_left))
at_the_end meaning state.HighDigits p h = no_digits tt (no_blank (condition_ends nothing_left))
at_the_end meaning state.AfterHigh p h = no_blank (condition_ends nothing_left)
at_the_end meaning state.Samples p h = ([], [], refl, tt, ended)
at_the_end meaning s p h = absurd (cc)

found : (meaning : List RuleValue) (text : List ℕ) (s : State) (p : Partial) → read false s p text ≡ Some meaning
    → At p.seen s text
found meaning [] s p h = at_the_end meaning s p h
found meaning (c ∷ t) s p h = one_byte meaning c t (found meaning t) p s h

-- an accepted text is in the grammar, with this meaning
pub read-sound : {text : List ℕ} {meaning : List RuleValue} → read_text false text ≡ Some meaning → Grammar text meaning
read-sound {text} {meaning} h =
    let i = found meaning text state.Category no_rules h in
    let r = i.2 in
    let new = r.2 in
    let grammar : Grammar text r.0 = search (rules, arith) in
    let all = read_any-complete grammar in
    let same : r.0 ≡ meaning = cc in
    rw (← same) grammar
  where
    blanks_of : {rest : List ℕ} → g.Token [] text rest → g.Blanks text rest
    blanks_of (g.token suffix is blanks) = rw is blanks
