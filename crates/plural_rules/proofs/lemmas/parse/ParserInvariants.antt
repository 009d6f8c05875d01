-- What the loop of `read` knows of a text after each byte.
use Rattle.std.proofs.{Common.{◌≡◌, ℕ, ◌+◌, ◌-◌, ◌*◌, ◌<◌, ◌≤◌, nat_le, Bool, true, false, not, cond, List, length, take, drop, get_or, refl, sym, ◌∙◌, ap, subst, arith, rules}, lemmas.{Bool.{and_parts, false≢true, Decides.nat_tests}, List.{take_all, take-append-drop}}}
use Rattle.std.specs.{Prelude.{Some, None}, Char.is_ascii_digit}
use Rattle.plural_rules.specs.{declared.parse.{state.{State.State, Event.Event, Categories.Categories}, numbers.Numbers.{Numbers, TheVariants.{Fit, TooLarge}}, builder.Builder.Builder}, RulesGrammar.Grammar, RulesReader.{no_categories, no_rules, Partial, after, seen_after, next, at_end, limit, checked_number, numbers_after, all_fit}, RulesParseResult.{IsFittingPrefix, AreDigits, HasNoDigitBefore, Fits, IsLimitErrorAt}, Rules.RuleValue, RulesBuilder.{partial, IsSmall}}
use Rattle.plural_rules.proofs.lemmas.parse.{RulesRun.{is_open, starts_number, is_digits, is_valid, transition_is_valid, allowed, any_allowed, run_text, finish, finished, read_text, run_more, read_fits, reached_strictly}, ParserSound.read-sound, ViablePrefixes.{can_fit, stopped}}
use Rattle.plural_rules.specs.declared.parse.state.State.TheVariants as state
use Rattle.plural_rules.specs.declared.parse.state.Event.TheVariants as event

-- a number starts at `begin`, where the text before it is a prefix of rules that fit, and its digits reach to `end`
pub record Begun (text : List ℕ) (begin end : ℕ) : Type 0 where
  pub begins : HasNoDigitBefore text begin
  pub viable : IsFittingPrefix (take begin text)
  pub some : begin < end
  pub digits : AreDigits text begin end

-- all numbers fit, and this is the last one, or the first number that is too great starts at this offset
abbrev pub NumbersAre : List ℕ → ℕ → State → Partial → Numbers → Type 0
NumbersAre text i s p (Fit n is_modulus begin) =
    (run_text true (take i text) ≡ Some (s, p)) × (n ≡ p.number) × (is_modulus ≡ p.is_divided)
    × (is_digits s ≡ true → Begun text begin i)
NumbersAre text i s p (TooLarge begin) =
    (end : ℕ) × Begun text begin end × (end ≤ length text) × ¬ IsFittingPrefix (take end text)

-- what `i` bytes are to the reader
pub record Parsed (text : List ℕ) (i : ℕ) (s : State) (seen : Categories) (numbers : Numbers) (p : Partial)
    : Type 0 where
  pub runs : run_text false (take i text) ≡ Some (s, p)
  pub seen_is : p.seen ≡ seen
  pub opens : is_open p.seen s ≡ true
  pub front : starts_number s ≡ true → HasNoDigitBefore text i
  pub numbers_are : NumbersAre text i s p numbers

-- what the loop of `read` knows after `i` bytes
pub record Checked (text : List ℕ) (i : ℕ) (s : State) (seen : Categories) (numbers : Numbers) (builder : Builder)
    (is_built : Bool) : Type 0 where
  pub p : Partial
  pub parsed : Parsed text i s seen numbers p
  pub built : is_built ≡ true → partial seen builder ≡ p

pub checked_first : (text : List ℕ) (b : Builder) → partial no_categories b ≡ no_rules
    → Checked text 0 state.Category no_categories (Fit 0 false 0) b true
checked_first text b empty = record {
  p = no_rules;
  parsed = record {
    runs = refl;
    seen_is = refl;
    opens = refl;
    front = λ h. absurd (false≢true h);
    numbers_are = (refl, refl, refl, λ h. absurd (false≢true h));
  };
  built = λ h. empty;
}

-- an event changes the categories of the reader and those of the rules in the same way
seen_after_is : (e : Event) (p : Partial) → (after e p).seen ≡ seen_after e p.seen
seen_after_is e p = grind arith

digit_more : (text : List ℕ) (begin i : ℕ) → AreDigits text begin i → is_ascii_digit (get_or text i 0) ≡ true
    → AreDigits text begin (i + 1)
digit_more text begin i before is j from less = grind (arith, before, is)

-- one more byte
module _ (text : List ℕ) (i : ℕ) (s : State) (p : Partial) (s2 : State) (less : i < length text)
    (front : starts_number s ≡ true → HasNoDigitBefore text i) where
  run_on : (e : Event) → next p.seen s (get_or text i 0) ≡ Some (s2, e) → allowed true e p ≡ true
      → run_text true (take i text) ≡ Some (s, p) → run_text true (take (i + 1) text) ≡ Some (s2, after e p)
  run_on e to may runs = run_more true text i s p less runs to ∙ ap (λ b. cond b (Some (s2, after e p)) None) may

  apart : (e : Event) → next p.seen s (get_or text i 0) ≡ Some (s2, e)
      → is_valid s e s2 (is_ascii_digit (get_or text i 0))
      ≡ cond (starts_number s2) (not (is_ascii_digit (get_or text i 0))) (not (is_digits s2))
      → {begin : ℕ} → is_digits s2 ≡ true → Begun text begin (i + 1)
  apart e to other digits =
      let valid = sym other ∙ (transition_is_valid p.seen s (get_or text i 0) s2 e to).0 in
      absurd (grind (arith, valid, digits))

  -- one more digit of a number
  count : (e : Event) (is_modulus : Bool) (begin n : ℕ) → next p.seen s (get_or text i 0) ≡ Some (s2, e)
      → run_text true (take i text) ≡ Some (s, p) → n ≡ (after e p).number → is_modulus ≡ (after e p).is_divided
      → allowed true e p ≡ nat_le n (limit is_modulus) → Begun text begin (i + 1)
      → NumbersAre text (i + 1) s2 (after e p) (checked_number is_modulus begin n)
  count e is_modulus begin n to runs number divided may begun = go (nat_le n (limit is_modulus)) refl
    where
      more : run_text true (take (i + 1) text) ≡ cond (nat_le n (limit is_modulus)) (Some (s2, after e p)) None
      more =
          run_more true text i s p less runs to ∙ ap (λ b. cond b (Some (s2, after e p)) None) may

      go : (b : Bool) → nat_le n (limit is_modulus) ≡ b
          → NumbersAre text (i + 1) s2 (after e p) (cond b (Fit n is_modulus begin) (TooLarge begin))
      go true is = (more ∙ ap (λ b. cond b (Some (s2, after e p)) None) is, number, divided, λ h. begun)
      go false is = (
        i + 1,
        begun,
        omega arith,
        λ can. stopped true (take (i + 1) text) can.0 can.1
            (more ∙ ap (λ b. cond b (Some (s2, after e p)) None) is) can.2 (λ e. can.3),
      )

  numbers_more : (e : Event) (numbers : Numbers) → next p.seen s (get_or text i 0) ≡ Some (s2, e)
      → NumbersAre text i s p numbers → NumbersAre text (i + 1) s2 (after e p) (numbers_after numbers i e)
  numbers_more e (TooLarge begin) to h = h
  numbers_more (event.First d) (Fit n is_modulus begin) to h =
      let fine = (and_parts _ _ (transition_is_valid p.seen s (get_or text i 0) s2 (event.First d) to).0).1 in
      let digit = and_parts (starts_number s) (is_ascii_digit (get_or text i 0)) fine in
      count (event.First d) is_modulus i d to h.0 refl h.2 (ap (λ b. nat_le d (limit b)) (sym h.2)) (record {
        begins = front digit.0;
        viable = can_fit (take i text) s p h.0 digit.0;
        some = omega arith;
        digits = digit_more text i i (λ j from less. absurd (omega arith)) digit.1;
      })
  numbers_more (event.Digit d) (Fit n is_modulus begin) to h =
      let fine = (and_parts _ _ (transition_is_valid p.seen s (get_or text i 0) s2 (event.Digit d) to).0).1 in
      let digit = and_parts (is_digits s) (is_ascii_digit (get_or text i 0)) fine in
      let begun : Begun text begin i = h.3 digit.0 in
      let number : n * 10 + d ≡ p.number * 10 + d = ap (λ m. m * 10 + d) h.1 in
      count (event.Digit d) is_modulus begin (n * 10 + d) to h.0 number h.2
      ((λ k. nat_le (sym number k) (limit (sym h.2 k)))) (record {
        begins = begun.begins;
        viable = begun.viable;
        some = omega (arith, begun.some);
        digits = digit_more text begin i begun.digits digit.1;
      })
  numbers_more e (Fit n is_modulus begin) to h = (run_on e to refl h.0, (cc), (cc), apart e to refl)

-- the event of the next byte is small, while all numbers fit
pub small : {text : List ℕ} {i : ℕ} {s : State} {seen : Categories} {numbers : Numbers} {b : Builder} {is_built : Bool}
    (e : Event) → Checked text i s seen numbers b is_built → is_built ≡ true
    → all_fit (numbers_after numbers i e) ≡ true → IsSmall e b.number b.is_divided
small {text} {i} {s} {seen} {numbers} {b} e h built fit =
    subst (λ p. IsSmall e p.number p.is_divided) (sym (h.built built)) (of_numbers numbers h.parsed.numbers_are fit)
  where
    of_numbers : (numbers : Numbers) → NumbersAre text i s h.p numbers → all_fit (numbers_after numbers i e) ≡ true
        → IsSmall e h.p.number h.p.is_divided
    of_numbers numbers are fit = grind (arith, nat_tests, reached_strictly)

parsed_more :
    {text : List ℕ} {i : ℕ} {s : State} {seen : Categories} {numbers : Numbers} {p : Partial} (s2 : State) (e : Event)
    → i < length text → Parsed text i s seen numbers p → next seen s (get_or text i 0) ≡ Some (s2, e)
    → Parsed text (i + 1) s2 (seen_after e seen) (numbers_after numbers i e) (after e p)
parsed_more {text} {i} {s} {seen} {numbers} {p} s2 e less h to =
    let to2 : next p.seen s (get_or text i 0) ≡ Some (s2, e) = search (rules, arith) in
    let so = transition_is_valid p.seen s (get_or text i 0) s2 e to2 in
    let same : i + 1 - 1 ≡ i = omega arith in
    record {
      runs =
          run_more false text i s p less h.runs to2
          ∙ ap (λ b. cond b (Some (s2, after e p)) None) (any_allowed e p);
      seen_is = seen_after_is e p ∙ ap (seen_after e) h.seen_is;
      opens = ap (λ x. is_open x s2) (seen_after_is e p) ∙ so.1 h.opens;
      front = search (rules, arith);
      numbers_are = numbers_more text i s p s2 less h.front e numbers to2 h.numbers_are;
    }

pub checked_more :
    {text : List ℕ} {i : ℕ} {s : State} {seen : Categories} {numbers : Numbers} {b b2 : Builder}
    {is_built is_built2 : Bool} (s2 : State) (e : Event)
    → i < length text → Checked text i s seen numbers b is_built → next seen s (get_or text i 0) ≡ Some (s2, e)
    → (is_built2 ≡ true → (is_built ≡ true)
    × ((seen : Categories) → partial (seen_after e seen) b2 ≡ after e (partial seen b)))
    → Checked text (i + 1) s2 (seen_after e seen) (numbers_after numbers i e) b2 is_built2
checked_more {text} {i} {s} {seen} {numbers} s2 e less h to taken = record {
  p = after e h.p;
  parsed = parsed_more s2 e less h.parsed to;
  built = λ now. let took = taken now in took.1 seen ∙ ap (after e) (h.built took.0);
}

-- the numbers of a whole text of rules: all fit, or the first one that is too great
abbrev pub AreNumbersOf : List ℕ → Numbers → Type 0
AreNumbersOf text (Fit n is_modulus begin) = (rules : List RuleValue) × Grammar text rules × Fits rules
AreNumbersOf text (TooLarge begin) = IsLimitErrorAt text begin

-- a text that may end in its state is rules
module _ {text : List ℕ} {i : ℕ} {s : State} {seen : Categories} {numbers : Numbers} {p : Partial} (e : Event)
    (least : length text ≤ i) (h : Parsed text i s seen numbers p) (end : at_end s ≡ Some e) where
  reads : (strict : Bool) → run_text strict (take i text) ≡ Some (s, p)
      → read_text strict text ≡ Some (after e p).rules
  reads strict runs = grind (arith, finish, run_text, take_all, finished)

  grammar : Grammar text (after e p).rules
  grammar = read-sound (reads false h.runs)

  pub checked_whole : AreNumbersOf text numbers
  checked_whole = go numbers h.numbers_are
    where
      go : (numbers : Numbers) → NumbersAre text i s p numbers → AreNumbersOf text numbers
      go (Fit n is_modulus begin) f =
          ((after e p).rules, grammar, (read_fits text (after e p).rules (reads true f.0)).0)
      go (TooLarge begin) f =
          let begun : Begun text begin f.0 = f.1 in
          record {
            rules = (after e p).rules;
            grammar = grammar;
            beyond_limits = λ fits. f.3 (
              drop f.0 text,
              (after e p).rules,
              rw (take-append-drop f.0 text) grammar,
              fits,
            );
            within = omega (arith, begun.some, f.2);
            begins = begun.begins;
            viable = begun.viable;
            end = f.0;
            digits = (begun.some, f.2, begun.digits);
            not_viable = f.3;
          }

pub built_whole : {text : List ℕ} {i : ℕ} {s : State} {seen : Categories} {numbers : Numbers} {b : Builder}
    {is_built : Bool} {rules : List RuleValue} (e : Event) → length text ≤ i
    → (h : Checked text i s seen numbers b is_built) → at_end s ≡ Some e → is_built ≡ true
    → rules ≡ (after e (partial seen b)).rules → Grammar text rules
built_whole e least h end built is =
    rw (is ∙ ap (λ p. (after e p).rules) (h.built built)) (grammar e least h.parsed end)
