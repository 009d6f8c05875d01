-- A text at which the reader does not stop is a prefix of rules: each state that it reaches has bytes that complete it.
use Rattle.std.proofs.{Common.{◌≡◌, ℕ, suc, zero, ◌+◌, ◌<◌, ◌≤◌, ◌==◌, nat_le, nat_lt, Bool, true, false, not, ◌&&◌, List, [], ◌∷◌, ◌++◌, length, take, drop, get_or, refl, ◌∙◌, ap, arith, rules}, lemmas.{Bool.{false≢true, Decides.nat_tests}, List.{take_all, take-append-drop}}}
use Rattle.std.specs.Prelude.{Option, Some, None, codes, is_some}
use Rattle.plural_rules.specs.{declared.{rules.PluralCategory.PluralCategory, parse.state.{State.State, Event.Event}}, Rules.{name_of, RuleValue}, RulesGrammar.Grammar, RulesReader.{is_full, condition_of, no_rules, Partial, after, next, at_end, limit}, RulesParseResult.{IsViablePrefix, IsFittingPrefix, Fits, IsSyntaxErrorAt}}
use Rattle.plural_rules.proofs.lemmas.parse.{RulesRun.{is_open, starts_number, allowed, run, finish, finished, read, run_text, read_text, bind, run_append, run_more, read_fits}, ParserComplete.{step, read-complete, read_any-complete}, ParserSound.read-sound}
use Rattle.plural_rules.specs.declared.rules.PluralCategory.TheVariants as category
use Rattle.plural_rules.specs.declared.parse.state.State.TheVariants as state
use Rattle.plural_rules.specs.declared.parse.state.Event.TheVariants as event

-- ---- Completions of a state.

-- bytes after which rules may end
abbrev Completion : Bool → State → Partial → Type 0
Completion strict s p = (more : List ℕ) × (is_some (read strict s p more) ≡ true)

-- a completion with one more byte before it
completed : (strict : Bool) (s : State) (p : Partial) (c : ℕ) (s2 : State) (e : Event) → next p.seen s c ≡ Some (s2, e)
    → allowed strict e p ≡ true → Completion strict s2 (after e p) → Completion strict s p
completed strict s p c s2 e h a go = (c ∷ go.0, ap is_some (step strict s p c go.0 s2 e h a) ∙ go.1)

complete_condition : (p : Partial) (k : PluralCategory) → Completion false (condition_of k) p
complete_condition p category.Other = ([], refl)
complete_condition p k = (codes "i=1", refl)

-- the rest of a name with at most `left` letters to go
complete_letters : (left : ℕ) (p : Partial) (k : PluralCategory) (n : ℕ) (b : Bool)
    → nat_lt n (length (name_of k)) ≡ b → length (name_of k) ≤ n + left → Completion false (state.Letters k n) p
complete_letters left p k n false is h =
    completed false (state.Letters k n) p 58 (condition_of k) (event.Category k) (rw is refl) refl
    (complete_condition (after (event.Category k) p) k)
complete_letters zero p k n true is h = absurd (grind (arith, nat_tests, is))
complete_letters (suc left) p k n true is h =
    let same : (get_or (name_of k) n 0 == get_or (name_of k) n 0) ≡ true = grind (arith, nat_tests) in
    completed false (state.Letters k n) p (get_or (name_of k) n 0) (state.Letters k (n + 1)) event.Nothing
    (rw (is, same) refl) refl (complete_letters left p k (n + 1) _ refl (omega arith))

complete_one : (p : Partial) → (b : Bool) → p.seen.one ≡ b → not (p.seen.one && p.seen.other) ≡ true
    → Completion false state.One p
complete_one p false is opens = (codes "ne:i=1", rw is refl)
complete_one p true is opens =
    let other : p.seen.other ≡ false = grind (arith, is, opens) in (codes "ther:", rw other refl)

complete_category : (p : Partial) (zero two few many both : Bool) → p.seen.zero ≡ zero → p.seen.two ≡ two
    → p.seen.few ≡ few → p.seen.many ≡ many → (p.seen.one && p.seen.other) ≡ both → not (is_full p.seen) ≡ true
    → Completion false state.Category p
complete_category p false two few many both z t f m o opens = (codes "zero:i=1", rw z refl)
complete_category p true false few many both z t f m o opens = (codes "two:i=1", rw t refl)
complete_category p true true false many both z t f m o opens = (codes "few:i=1", rw f refl)
complete_category p true true true false both z t f m o opens = (codes "many:i=1", rw m refl)
complete_category p true true true true false z t f m o opens =
    completed false state.Category p 111 state.One event.Nothing (rw o refl) refl
    (complete_one p p.seen.one refl (ap not o))
complete_category p true true true true true z t f m o opens = absurd (grind (arith, z, t, f, m, o, opens))

-- each open state has a completion
completion : (s : State) (p : Partial) → is_open p.seen s ≡ true → Completion false s p
completion state.Category p opens =
    complete_category p p.seen.zero p.seen.two p.seen.few p.seen.many (p.seen.one && p.seen.other) refl refl refl refl
    refl opens
completion state.One p opens = complete_one p p.seen.one refl opens
completion (state.Letters k n) p opens = complete_letters (length (name_of k)) p k n _ refl (omega arith)
completion state.Operand p opens = (codes "i=1", refl)
completion state.Percent p opens = (codes "=1", refl)
completion state.Modulus p opens = (codes "1=1", refl)
completion state.Zeros p opens = (codes "1=1", refl)
completion state.ModulusDigits p opens = (codes "=1", refl)
completion state.Comparison p opens = (codes "=1", refl)
completion state.NotEqual p opens = (codes "=1", refl)
completion state.Low p opens = (codes "1", refl)
completion state.Dot p opens = (codes ".1", refl)
completion state.High p opens = (codes "1", refl)
completion state.And p opens = (codes "nd i=1", refl)
completion state.AndEnd p opens = (codes "d i=1", refl)
completion state.OrEnd p opens = (codes "r i=1", refl)
completion state.Blank p opens = (codes " i=1", refl)
completion s p opens = ([], refl)

one_fits : (b : Bool) → nat_le 1 (limit b) ≡ true
one_fits b = grind arith

-- a completion of a state before a number, with a small number
small_completion : (s : State) (p : Partial) → starts_number s ≡ true → Completion true s p
small_completion state.Modulus p h = (codes "1=1", rw (one_fits p.is_divided) refl)
small_completion state.Low p h = (codes "1", rw (one_fits p.is_divided) refl)
small_completion state.High p h = (codes "1", rw (one_fits p.is_divided) refl)
small_completion s p h = absurd (false≢true h)

-- ---- A text at which the reader does not stop.

-- a text, and bytes that complete its state
completed_text : (strict : Bool) (text : List ℕ) (s : State) (p : Partial) → run_text strict text ≡ Some (s, p)
    → Completion strict s p → (more : List ℕ) × (rules : List RuleValue)
    × (read_text strict (text ++ more) ≡ Some rules)
completed_text strict text s p h go =
    let some = some_of (read strict s p go.0) go.1 in (
      go.0,
      some.0,
      ap finish (run_append strict text go.0 state.Category no_rules ∙ ap (λ x. bind x (λ s q. run strict s q go.0)) h)
          ∙ some.1,
    )
  where
    some_of : (x : Option (List RuleValue)) → is_some x ≡ true → (rules : List RuleValue) × (x ≡ Some rules)
    some_of None h = absurd (false≢true h)
    some_of (Some rules) h = (rules, refl)

-- the text is a prefix of rules
viable : (text : List ℕ) (s : State) (p : Partial) → run_text false text ≡ Some (s, p)
    → is_open p.seen s ≡ true → IsViablePrefix text
viable text s p h opens =
    let go = completed_text false text s p h (completion s p opens) in (go.0, go.1, read-sound go.2)

-- and, before a number and if all numbers so far fit, a prefix of rules that fit
pub can_fit : (text : List ℕ) (s : State) (p : Partial) → run_text true text ≡ Some (s, p)
    → starts_number s ≡ true → IsFittingPrefix text
can_fit text s p h starts =
    let go = completed_text true text s p h (small_completion s p starts) in
    let fits = read_fits (text ++ go.0) go.1 go.2 in
    (go.0, go.1, read-sound fits.1, fits.0)

-- ---- A text at which the reader stops.

-- the text is not a prefix of rules
pub stopped : (strict : Bool) (text more : List ℕ) (rules : List RuleValue)
    → run_text strict text ≡ None → Grammar (text ++ more) rules → (strict ≡ true → Fits rules) → ⊥
stopped strict text more rules none grammar fits =
    let is : read_text strict (text ++ more) ≡ Some rules = read-complete strict grammar fits in
    let stops : read_text strict (text ++ more) ≡ None = search (rules, arith, finish, run_append, bind, run) in
    absurd (cc)

-- a text that may not end in its state
pub unended_text : (text : List ℕ) (i : ℕ) (s : State) (p : Partial) → length text ≤ i → run_text false (take i text)
    ≡ Some (s, p) → is_open p.seen s ≡ true → at_end s ≡ None → IsSyntaxErrorAt text (length text)
unended_text text i s p least h opens e =
    let runs : run_text false text ≡ Some (s, p) = search (rules, arith, run_text, take_all) in
    record {
      within = omega arith;
      rejected = λ rules grammar.
          let none : read_text false text ≡ None = ap finish runs ∙ ap (λ m. finished m p) e in
          let some : read_text false text ≡ Some rules = read_any-complete grammar in
          absurd (cc);
      viable = rw (take_all (length text) text (omega arith)) (viable text s p runs opens);
      not_viable = λ less. absurd (omega arith);
    }

-- a text at a byte of which the reader stops
pub stopped_text : (text : List ℕ) (at : ℕ) (s : State) (p : Partial) → at < length text → run_text false (take at text)
    ≡ Some (s, p) → is_open p.seen s ≡ true → next p.seen s (get_or text at 0) ≡ None → IsSyntaxErrorAt text at
stopped_text text at s p less h opens none =
    let all = run_more false text at s p less h none in
    record {
      within = omega arith;
      rejected = λ rules grammar. stopped false (take (at + 1) text) (drop (at + 1) text) rules all
          (rw (take-append-drop (at + 1) text) grammar) (λ e. absurd (false≢true e));
      viable = viable (take at text) s p h opens;
      not_viable = λ less more rules grammar. stopped false (take (at + 1) text) more rules all grammar
          (λ e. absurd (false≢true e));
    }
