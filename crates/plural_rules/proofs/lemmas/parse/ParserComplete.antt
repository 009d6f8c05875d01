-- The reader accepts a text of the grammar, with the meaning by the grammar; if its numbers fit, in strict mode too.
use Rattle.std.proofs.{Common.{◌≡◌, ◌≢◌, ℕ, ◌+◌, ◌-◌, ◌*◌, ◌^◌, ◌<◌, ◌≤◌, ◌==◌, nat_le, nat_lt, Bool, true, false, cond, not, ◌||◌, List, [], ◌∷◌, ◌++◌, length, refl, sym, ◌∙◌, ap, arith, append_assoc, rules}, lemmas.Bool.{and_parts, le-leb, Decides.nat_tests}}
use Rattle.std.specs.{Prelude.{Option, Some, None, IfSome, codes}, Char.{is_ascii_digit, digit_value}, List.AllByRecursion, Str.{all_ascii_digits, Parse.digits_value_after}}
use Rattle.plural_rules.specs.{declared.{rules.{PluralCategory.PluralCategory, Operand.Operand, Range.Range}, parse.state.{State.State, Event.Event, Categories.Categories}}, Rules.{name_of, RelationValue, RuleValue, rule}, RulesGrammar.{is_blank, operand_word, HasNoLeadingDigit, HasDistinctCategories, Grammar}, RulesParseResult.{RangeFits, RelationFits, AndConditionFits, RuleFits, Fits}, RulesReader.{has, with, is_full, no_categories, Partial, no_rules, end_range, end_relation, end_alternative, after, next, follows_range, at_end, condition_of, limit}}
use Rattle.plural_rules.specs.declared.rules.PluralCategory.TheVariants as category
use Rattle.plural_rules.specs.declared.rules.Operand.TheVariants as operand_variants
use Rattle.plural_rules.specs.declared.parse.state.State.TheVariants as state
use Rattle.plural_rules.specs.declared.parse.state.Event.TheVariants as event
use Rattle.plural_rules.specs.RulesGrammar as g
use Rattle.plural_rules.proofs.lemmas.parse.RulesRun.{allowed, finish, finished, transitions, run, read, read_text}

-- ---- Bytes.

-- blanks change nothing in this state
abbrev pub Skips : State → Type 0
Skips s = (seen : Categories) (c : ℕ) → is_blank c ≡ true → next seen s c ≡ Some (s, event.Nothing)

pub digit_is : (c : ℕ) → is_ascii_digit c ≡ true → digit_value c ≡ c - 48
digit_is c h = grind (arith, nat_tests)

-- digits after a greater number make a greater one
pub grows : (more from sum : ℕ) (ds : List ℕ) → more + from ≤ sum
    → more + digits_value_after 10 from ds ≤ digits_value_after 10 sum ds
grows more from sum [] h = h
grows more from sum (d ∷ ds) h =
    grows more (from * 10 + digit_value d) (sum * 10 + digit_value d) ds (omega arith)

-- a digit leads from the state of a number to that of the number and this digit
abbrev pub Counts : (ℕ → State) → Type 0
Counts s =
    (seen : Categories) (n c : ℕ) → is_ascii_digit c ≡ true
    → next seen (s n) c ≡ Some (s (n * 10 + (c - 48)), event.Digit (c - 48))

-- the state after the digits of a modulus so far
abbrev pub modulus_digits : ℕ → State
modulus_digits n = cond (n == 0) state.Zeros state.ModulusDigits

abbrev pub numbered : Partial → ℕ → Partial
numbered p n = record p { number = n }

-- the two states after a range
abbrev pub IsAfterRange : State → Type 0
IsAfterRange s =
    Skips s × (at_end s ≡ Some event.End)
    × ((seen : Categories) (c : ℕ) → is_blank c ≡ false → (c == 46) ≡ false → next seen s c ≡ follows_range seen c)

below_limit : (n : ℕ) → n < 2 ^ 64 → n ≤ limit false
below_limit n h = omega arith

-- before ranges
abbrev pub listing : Partial → Partial
listing p = record p { is_divided = false; low = None }

-- without the parts of a relation
abbrev pub core : Partial → Partial
core p = record p {
  operand = operand_variants.N;
  is_divided = false;
  modulus = None;
  is_equal = true;
  ranges = [];
  low = None;
  number = 0;
}

-- ---- Categories.

abbrev pub IsNewCategory : Categories → PluralCategory → Type 0
IsNewCategory seen c = has seen c ≡ false

-- no category occurs twice or was seen before
abbrev pub AreNewCategories : Categories → List RuleValue → Type 0
AreNewCategories seen rs = AllByRecursion (λ r. IsNewCategory seen r.category) rs × HasDistinctCategories rs

-- the state after a category's name
abbrev pub colon : PluralCategory → State
colon c = state.Letters c (length (name_of c))

-- a rule may end in this state, by this event
abbrev pub MayEnd : State → Event → Type 0
MayEnd s e =
    (at_end s ≡ Some e)
    × ((seen : Categories) → next seen s 59 ≡ (cond (is_full seen) None (Some (state.Category, e))))
    × ((strict : Bool) (p : Partial) → allowed strict e p ≡ true) × ((p : Partial) → (after e p).seen ≡ p.seen)

-- a category is still new after a different one
all_stay_new : (seen : Categories) (c : PluralCategory) (rs : List RuleValue)
    → AllByRecursion (λ other. other.category ≢ c) rs → AllByRecursion (λ r. IsNewCategory seen r.category) rs
    → AllByRecursion (λ r. IsNewCategory (with seen c) r.category) rs
all_stay_new seen c [] others h = tt
all_stay_new seen c (r ∷ rs) others h =
    (grind (arith, others.0, h.0), all_stay_new seen c rs others.1 h.1)

-- if a category is new, not all six were seen
first_fresh : (seen : Categories) (text : List ℕ) (rs : List RuleValue) → g.RuleList text rs → AreNewCategories seen rs
    → is_full seen ≡ false
first_fresh seen text [] is h = elim is [ ]
first_fresh seen text (r ∷ rs) is h = let new = h.0 in grind (arith, new.0)

-- the reader's result for the rest of a text
abbrev Rest : Type 0
Rest = Option (List RuleValue)

module _ (strict : Bool) where
  -- one step
  pub step : (s : State) (p : Partial) (c : ℕ) (text : List ℕ) (s2 : State) (e : Event) → next p.seen s c ≡ Some (s2, e)
      → allowed strict e p ≡ true → read strict s p (c ∷ text) ≡ read strict s2 (after e p) text
  step s p c text s2 e h a = ap finish (transitions strict (next p.seen s c) s2 e p (λ s q. run strict s q text) h a)

  skips : (s : State) → Skips s → {text rest : List ℕ} → g.Blanks text rest → (p : Partial)
      → read strict s p text ≡ read strict s p rest
  skips s h g.none p = refl
  skips s h (g.more {c} {text} {rest} b r) p =
      step s p c text s event.Nothing (h p.seen c b) refl ∙ skips s h r p

  token : (s s2 : State) (p q : Partial) {bytes text rest : List ℕ}
      → ((suffix : List ℕ) → read strict s p (bytes ++ suffix) ≡ read strict s2 q suffix) → Skips s2
      → g.Token bytes text rest → read strict s p text ≡ read strict s2 q rest
  token s s2 p q to h (g.token suffix is blanks) = ap (read strict s p) is ∙ to suffix ∙ skips s2 h blanks q

  -- ---- Numbers.

  -- a number fits, if the reader is strict
  abbrev May : Partial → ℕ → Type 0
  May p n = strict ≡ true → n ≤ limit p.is_divided

  -- if a number fits, its first digits do
  may_read : (b : Bool) (most from : ℕ) (ds : List ℕ) → (b ≡ true → digits_value_after 10 from ds ≤ most)
      → (not b || nat_le from most) ≡ true
  may_read true most from ds h =
      let least : from + digits_value_after 10 0 ds ≤ digits_value_after 10 from ds =
      grows from 0 from ds (omega arith) in
      let all : digits_value_after 10 from ds ≤ most = h refl in
      le-leb from most (omega arith)
  may_read false most from ds h = refl

  digits : (s : ℕ → State) → Counts s → (ds suffix : List ℕ) → all_ascii_digits ds ≡ true → (p : Partial)
      → May p (digits_value_after 10 p.number ds) → read strict (s p.number) p (ds ++ suffix)
      ≡ read strict (s (digits_value_after 10 p.number ds)) (numbered p (digits_value_after 10 p.number ds)) suffix
  digits s h [] suffix a p may = refl
  digits s h (d ∷ ds) suffix a p may =
      let parts = and_parts (is_ascii_digit d) (all_ascii_digits ds) a in
      let value : digit_value d ≡ d - 48 = digit_is d parts.0 in
      let may_all : May p (digits_value_after 10 (p.number * 10 + (d - 48)) ds) = rw value at may in
      rw value (step (s p.number) p d (ds ++ suffix) (s (p.number * 10 + (d - 48))) (event.Digit (d - 48))
      (h p.seen p.number d parts.0) (may_read strict _ _ ds may_all)
      ∙ digits s h ds suffix parts.1 (numbered p (p.number * 10 + (d - 48))) may_all)

  -- before a byte other than a digit, the two states behave alike
  abbrev Leaves : State → State → Type 0
  Leaves s t = (p : Partial) (suffix : List ℕ) → HasNoLeadingDigit suffix
      → read strict s p suffix ≡ read strict t p suffix

  -- a number and blanks: the states before it, within its digits and after it
  number :
      (s0 s2 : State) (s : ℕ → State)
      → ((seen : Categories) (c : ℕ) → is_ascii_digit c ≡ true
      → next seen s0 c ≡ Some (s (c - 48), event.First (c - 48))) → Counts s → Skips s2 → {text rest : List ℕ} {n : ℕ}
      → g.Number text n rest → (p : Partial) → May p n → Leaves (s n) s2
      → read strict s0 p text ≡ read strict s2 (numbered p n) rest
  number s0 s2 s first counts skip (g.number [] suffix is some all no_digit value blanks) p may leaves =
      absurd (omega arith)
  number s0 s2 s first counts skip {n = n} (g.number (d ∷ ds) suffix is some all no_digit value blanks) p may leaves =
      let parts = and_parts (is_ascii_digit d) (all_ascii_digits ds) all in
      let first_is : digit_value d ≡ d - 48 = digit_is d parts.0 in
      let digit : d - 48 ≡ 0 * 10 + digit_value d = omega arith in
      let same : digits_value_after 10 (d - 48) ds ≡ n = ap (λ v. digits_value_after 10 v ds) digit ∙ sym value in
      let may_all : May p (digits_value_after 10 (d - 48) ds) = rw same may in
      ap (read strict s0 p) is
      ∙ step s0 p d (ds ++ suffix) (s (d - 48)) (event.First (d - 48)) (first p.seen d parts.0)
      (may_read strict _ _ ds may_all)
      ∙ digits s counts ds suffix parts.1 (numbered p (d - 48)) may_all
      ∙ ap (λ v. read strict (s v) (numbered p v) suffix) same
      ∙ leaves (numbered p n) suffix no_digit
      ∙ skips s2 skip blanks (numbered p n)

  number_low : {text rest : List ℕ} {n : ℕ} → g.Number text n rest → (p : Partial) → May p n
      → read strict state.Low p text ≡ read strict state.AfterLow (numbered p n) rest
  number_low nm p may =
      number state.Low state.AfterLow (λ n. state.LowDigits) (λ seen c d. grind (arith, nat_tests))
      (λ seen n c d. rw d refl) (λ seen c b. rw b refl) nm p may (λ p suffix h. grind (arith, h))

  number_high : {text rest : List ℕ} {n : ℕ} → g.Number text n rest → (p : Partial) → May p n
      → read strict state.High p text ≡ read strict state.AfterHigh (numbered p n) rest
  number_high nm p may =
      number state.High state.AfterHigh (λ n. state.HighDigits) (λ seen c d. grind (arith, nat_tests))
      (λ seen n c d. rw d refl) (λ seen c b. rw b refl) nm p may (λ p suffix h. grind (arith, h))

  modulus : {text rest : List ℕ} {n : ℕ} → g.Number text n rest → 0 < n → (p : Partial) → May p n
      → read strict state.Modulus p text ≡ read strict state.Comparison (numbered p n) rest
  modulus {n = n} nm positive p may =
      let some : (n == 0) ≡ false = grind (arith, nat_tests) in
      number state.Modulus state.Comparison modulus_digits (λ seen c d. grind (arith, nat_tests))
      (λ seen n c d. grind (arith, nat_tests)) (λ seen c b. rw b refl) nm p may
      (rw some (λ p suffix h. grind (arith, h)))

  -- ---- Ranges.

  -- what follows a range gives this result, if this is true of the rules so far
  abbrev Continues : (Partial → Type 0) → List ℕ → Rest → Type 0
  Continues P rest x = (q : Partial) (s : State) → IsAfterRange s → P q → read strict s q rest ≡ x

  numbers : {text rest : List ℕ} {range : Range} → g.Numbers text range rest → (p : Partial) (x : Rest)
      → (strict ≡ true → RangeFits range)
      → Continues (λ q. end_range q ≡ record (listing p) { ranges = p.ranges ++ range ∷ []; number = q.number }) rest x
      → read strict state.Low (listing p) text ≡ x
  numbers (g.single {n} nm) p x fits k =
      number_low nm (listing p) (λ e. below_limit n (fits e).0)
      ∙ k (numbered (listing p) n) state.AfterLow
      (λ seen c b. rw b refl, refl, λ seen c b d. rw (b, d) refl) refl
  numbers (g.between {low} {high} nm dots hi) p x fits k =
      let q : Partial = numbered (listing p) low in
      number_low nm (listing p) (λ e. below_limit low (fits e).0)
      ∙ token state.AfterLow state.High q (after event.To q) (λ suffix. refl) (λ seen c b. rw b refl) dots
      ∙ number_high hi (after event.To q) (λ e. below_limit high (fits e).1)
      ∙ k (numbered (after event.To q) high) state.AfterHigh
      (λ seen c b. rw b refl, refl, λ seen c b d. rw b refl) refl

  ranges_read : {text rest : List ℕ} {ranges : List Range} → g.RangeList text ranges rest → (p : Partial) (x : Rest)
      → (strict ≡ true → AllByRecursion RangeFits ranges)
      → Continues (λ q. end_range q ≡ record (listing p) { ranges = p.ranges ++ ranges; number = q.number }) rest x
      → read strict state.Low (listing p) text ≡ x
  ranges_read (g.RangeList.one nm) p x fits k = numbers nm p x (λ e. (fits e).0) k
  ranges_read (g.comma {range} {ranges} {suffix = suffix} nm comma rs) p x fits k =
      numbers nm p x (λ e. (fits e).0) (λ q s b is.
      token s state.Low q (end_range q)
      (λ more. step s q 44 more state.Low event.Comma (b.2 q.seen 44 refl refl) refl) (λ seen c b. rw b refl) comma
      ∙ ap (λ z. read strict state.Low z suffix) is
      ∙ ranges_read rs (record p { ranges = p.ranges ++ range ∷ []; number = q.number }) x (λ e. (fits e).1)
      (λ q2 s2 b2 is2. k q2 s2 b2 (is2
      ∙ ap (λ l. record (listing p) { ranges = l; number = q2.number }) (append_assoc p.ranges (range ∷ []) ranges))))

  -- ---- Relations.

  -- the letter of an operand, in both states before a condition
  letter : (c : PluralCategory) {text rest : List ℕ} {o : Operand} → g.Letter text o rest → (p : Partial)
      → read strict (condition_of c) p text ≡ read strict state.Percent (after (event.Operand o) p) rest
  letter c (g.own {operand = o} word) p =
      token (condition_of c) state.Percent p (after (event.Operand o) p) (λ more. grind arith) (λ seen c b. rw b refl)
      word
  letter c (g.exponent word) p =
      token (condition_of c) state.Percent p (after (event.Operand operand_variants.C) p) (λ more. grind arith)
      (λ seen c b. rw b refl) word

  -- = or !=, in the two states before it
  comparison_read : (b : Bool) {text rest : List ℕ} {is_equal : Bool} → g.Comparison text is_equal rest → (p : Partial)
      → read strict (cond b state.Percent state.Comparison) p text
      ≡ read strict state.Low (after (event.Equal is_equal) p) rest
  comparison_read b (g.equal sign) p =
      token (cond b state.Percent state.Comparison) state.Low p (after (event.Equal true) p) (λ more. grind arith)
      (λ seen c b. rw b refl) sign
  comparison_read b (g.not_equal sign) p =
      token (cond b state.Percent state.Comparison) state.Low p (after (event.Equal false) p) (λ more. grind arith)
      (λ seen c b. rw b refl) sign

  -- an optional modulus, and a comparison
  divided : {text suffix rest : List ℕ} {m : Option ℕ} {is_equal : Bool} → g.Divided text m suffix
      → g.Comparison suffix is_equal rest → (p : Partial) (x : Rest) → (strict ≡ true → IfSome m (λ n. n ≤ 10 ^ 18))
      → ((n : ℕ) → read strict state.Low (listing (record p { modulus = m; is_equal = is_equal; number = n })) rest ≡ x)
      → read strict state.Percent (record p { is_divided = false }) text ≡ x
  divided g.undivided compares p x fits k =
      comparison_read true compares (record p { is_divided = false }) ∙ k p.number
  divided {rest = rest} {is_equal = is_equal} (g.divided {modulus = n} percent nm positive) compares p x fits k =
      let q : Partial = record p { is_divided = true; number = 0 } in
      token state.Percent state.Modulus (record p { is_divided = false }) q (λ suffix. refl) (λ seen c b. rw b refl)
      percent
      ∙ modulus nm positive q fits
      ∙ comparison_read false compares (numbered q n)
      ∙ ap (λ m. read strict state.Low (listing (record p { modulus = m; is_equal = is_equal; number = n })) rest)
      (let some : nat_lt 0 n ≡ true = grind (arith, nat_tests) in rw some refl)
      ∙ k n

  related : (c : PluralCategory) {text rest : List ℕ} {r : RelationValue} → g.Related text r rest → (p : Partial)
      (x : Rest) → (strict ≡ true → RelationFits r)
      → Continues (λ q. core (after event.And q) ≡ core (record p { relations = p.relations ++ r ∷ [] })) rest x
      → read strict (condition_of c) p text ≡ x
  related c (g.related {operand = o} {modulus = m} {is_equal} l d compares rs) p x fits k =
      letter c l p
      ∙ divided d compares (after (event.Operand o) p) x (λ e. (fits e).0) (λ n.
      ranges_read rs
      (record p { operand = o; modulus = m; is_equal = is_equal; ranges = []; number = n }) x (λ e. (fits e).1)
      (λ q s b is. k q s b (ap (λ z. core (end_relation z)) is)))

  -- `and` or `or` before a relation
  joint : {letters text rest : List ℕ} → g.Keyword letters text rest → (s : State) (p q : Partial)
      → ((suffix : List ℕ) → read strict s p (letters ++ suffix) ≡ read strict state.Blank q suffix)
      → read strict s p text ≡ read strict state.Operand q rest
  joint (g.joint blank suffix e is_blank blanks) s p q to = grind (arith, read, step, skips)

  conjunction : (c : PluralCategory) {text rest : List ℕ} {rs : List RelationValue} → g.AndCondition text rs rest
      → (p : Partial) (x : Rest) → (strict ≡ true → AndConditionFits rs)
      → Continues (λ q. core (after event.And q) ≡ core (record p { relations = p.relations ++ rs })) rest x
      → read strict (condition_of c) p text ≡ x
  conjunction c (g.AndCondition.one r) p x fits k = related c r p x (λ e. (fits e).0) k
  conjunction c (g.and {r} {rs} one word_and others) p x fits k =
      related c one p x (λ e. (fits e).0) (λ q s b is.
      joint word_and s q (after event.And q)
      (λ more. step s q 97 (110 ∷ 100 ∷ more) state.And event.And (b.2 q.seen 97 refl refl) refl)
      ∙ conjunction category.One others (after event.And q) x (λ e. (fits e).1) (λ q2 s2 b2 is2.
      k q2 s2 b2 (is2 ∙ ap (λ (z : Partial). record z { relations = z.relations ++ rs }) is
      ∙ ap (λ l. core (record p { relations = l })) (append_assoc p.relations (r ∷ []) rs))))

  condition :
      (c : PluralCategory) {text rest : List ℕ} {alternatives : List (List RelationValue)}
      → g.Condition text alternatives rest → (p : Partial) (x : Rest)
      → (strict ≡ true → AllByRecursion AndConditionFits alternatives)
      → Continues (λ q. core (after event.Or q)
      ≡ core (record p { alternatives = p.alternatives ++ alternatives; relations = [] })) rest x
      → read strict (condition_of c) (record p { relations = [] }) text ≡ x
  condition c (g.Condition.one rs) p x fits k =
      conjunction c rs (record p { relations = [] }) x (λ e. (fits e).0) (λ q s b is. k q s b (ap end_alternative is))
  condition c (g.or {rs} {alternatives} first word_or others) p x fits k =
      conjunction c first (record p { relations = [] }) x (λ e. (fits e).0) (λ q s b is.
      joint word_or s q (after event.Or q)
      (λ more. step s q 111 (114 ∷ more) state.OrEnd event.Or (b.2 q.seen 111 refl refl) refl)
      ∙ condition category.One others (after event.Or q) x (λ e. (fits e).1) (λ q2 s2 b2 is2.
      k q2 s2 b2 (is2
      ∙ ap (λ (z : Partial). record z { alternatives = z.alternatives ++ alternatives }) (ap end_alternative is)
      ∙ ap (λ l. core (record p { alternatives = l; relations = [] }))
      (append_assoc p.alternatives (rs ∷ []) alternatives))))

  -- ---- Rules.

  skip_samples : (skipped rest : List ℕ) → AllByRecursion (λ c. (c == 59) ≡ false) skipped → (p : Partial)
      → read strict state.Samples p (skipped ++ rest) ≡ read strict state.Samples p rest
  skip_samples [] rest h p = refl
  skip_samples (c ∷ skipped) rest h p = grind (arith, step, (skip_samples skipped rest h.1 p))

  -- what follows a rule gives this result
  abbrev Ended : Partial → RuleValue → List ℕ → Rest → Type 0
  Ended p r rest x =
      (s : State) (e : Event) (q : Partial) → MayEnd s e → (after e q).rules ≡ p.rules ++ r ∷ []
      → q.seen ≡ with p.seen r.category → read strict s q rest ≡ x

  -- a rule ends, perhaps after samples
  samples_read : {text rest : List ℕ} → g.Samples text rest → (s : State) (e : Event) → MayEnd s e
      → ((seen : Categories) → next seen s 64 ≡ Some (state.Samples, e)) → (p : Partial) (r : RuleValue) (q : Partial)
      (x : Rest) → (after e q).rules ≡ p.rules ++ r ∷ [] → q.seen ≡ with p.seen r.category → Ended p r rest x
      → read strict s q text ≡ x
  samples_read (g.no_samples is) s e h to p r q x all same k = ap (read strict s q) is ∙ k s e q h all same
  samples_read {rest = rest} (g.samples skipped is none) s e h to p r q x all same k =
      ap (read strict s q) is
      ∙ step s q 64 (skipped ++ rest) state.Samples e (to q.seen) (h.2 strict q)
      ∙ skip_samples skipped rest none (after e q)
      ∙ k state.Samples event.Nothing (after e q) (refl, λ seen. refl, λ b p. refl, λ p. refl) all (h.3 q ∙ same)

  category_read : {text colon_text suffix : List ℕ} → (c : PluralCategory) → g.Token (name_of c) text colon_text
      → g.Token (codes ":") colon_text suffix → (p : Partial) → IsNewCategory p.seen c
      → read strict state.Category p text ≡ read strict (condition_of c) (after (event.Category c) p) suffix
  category_read c name after_name p new =
      token state.Category (colon c) p p (λ more. grind (arith, new)) (λ seen x b. grind (arith, b)) name
      ∙ token (colon c) (condition_of c) p (after (event.Category c) p)
      (λ suffix. step (colon c) p 58 suffix (condition_of c) (event.Category c) (grind arith) refl)
      (λ seen x b. grind (arith, b)) after_name

  one_rule : {text rest : List ℕ} {r : RuleValue} → g.SingleRule text r rest → (p : Partial) (x : Rest)
      → (strict ≡ true → RuleFits r) → IsNewCategory p.seen r.category → Ended p r rest x
      → read strict state.Category p text ≡ x
  one_rule {r = r} (g.conditioned {category} name after_name is end) p x fits new k =
      category_read category name after_name p new
      ∙ condition category is (after (event.Category category) p) x fits (λ q s b all.
      samples_read end s event.End
      (b.1, λ seen. b.2 seen 59 refl refl, λ b p. refl, λ p. refl) (λ seen. b.2 seen 64 refl refl) p r q x
      (ap (λ z. z.rules ++ rule z.category z.alternatives ∷ []) all) (ap (λ z. z.seen) all) k)
  one_rule {r = r} (g.other name after_name end) p x fits new k =
      category_read category.Other name after_name p new
      ∙ samples_read end state.OtherCondition event.EndOther (refl, λ seen. refl, λ b p. refl, λ p. refl)
      (λ seen. refl) p r (after (event.Category category.Other) p) x refl refl k

  all_rules : {text : List ℕ} {rs : List RuleValue} → g.RuleList text rs → (p : Partial) → (strict ≡ true → Fits rs)
      → AreNewCategories p.seen rs → read strict state.Category p text ≡ Some (p.rules ++ rs)
  all_rules (g.last one) p fits new_category =
      let new = new_category.0 in
      one_rule one p _ (λ e. (fits e).0) new.0 (λ s e q ends all same.
      ap (λ m. finished m q) ends.0 ∙ ap Some all)
  all_rules (g.semicolon {r} {rs} {suffix = suffix} one semicolon others) p fits new_category =
      let new = new_category.0 in
      let none = new_category.1 in
      let later : AreNewCategories (with p.seen r.category) rs = search (rules, arith, all_stay_new) in
      one_rule one p _ (λ e. (fits e).0) new.0 (λ s e q ends all same.
      let full : is_full q.seen ≡ false = search (rules, arith, first_fresh) in
      let to : next q.seen s 59 ≡ Some (state.Category, e) = ends.1 q.seen ∙ rw full refl in
      let seen : (after e q).seen ≡ with p.seen r.category = ends.3 q ∙ same in
      token s state.Category q (after e q) (λ more. step s q 59 more state.Category e to (ends.2 strict q))
      (λ seen c b. rw b refl) semicolon
      ∙ all_rules others (after e q) (λ e. (fits e).1) (rw seen later)
      ∙ ap (λ front. Some (front ++ rs)) all
      ∙ ap Some (append_assoc p.rules (r ∷ []) rs))

none_read : (rs : List RuleValue) → AllByRecursion (λ r. IsNewCategory no_categories r.category) rs
none_read [] = tt
none_read (r ∷ rs) = (grind arith, none_read rs)

-- the reader accepts a text of the grammar and returns its meaning
pub read-complete : (strict : Bool) {text : List ℕ} {rs : List RuleValue} → Grammar text rs
    → (strict ≡ true → Fits rs) → read_text strict text ≡ Some rs
read-complete strict {text} {rs} h fits =
    skips strict state.Category (λ seen c b. rw b refl) h.blanks no_rules
    ∙ all_rules strict h.rules no_rules fits (none_read rs, h.distinct)

pub read_any-complete : {text : List ℕ} {rs : List RuleValue} → Grammar text rs → read_text false text ≡ Some rs
read_any-complete h = read-complete false h (λ e. absurd (cc))

-- the grammar is unambiguous
pub grammar-unique :
    {text : List ℕ} {first second : List RuleValue} → Grammar text first → Grammar text second → first ≡ second
grammar-unique a b = let one = read_any-complete a in let other = read_any-complete b in cc
