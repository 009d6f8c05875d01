-- The transitions on each byte, and the run of the reader over the bytes of a text; in strict mode it stops where a
-- number does not fit.
use Rattle.std.proofs.{Common.{◌≡◌, ℕ, Bool, true, false, not, cond, ◌&&◌, arith, ◌+◌, ◌*◌, ◌^◌, ◌<◌, ◌≤◌, nat_le, ◌||◌, List, [], ◌∷◌, ◌++◌, length, take, get_or, refl, ◌∙◌, ap, rules}, lemmas.{Bool.Decides.nat_tests, List.take_more, Grind.common_steps}}
use Rattle.std.specs.{Prelude.{Some, None, Option, IfSome}, Char.is_ascii_digit, List.AllByRecursion}
use Rattle.plural_rules.specs.{declared.parse.state.{State.State, Event.Event, Categories.Categories}, RulesReader.{is_full, Transition, seen_after, next, Partial, no_rules, after, at_end, limit}, Rules.RuleValue, RulesParseResult.{RangeFits, AndConditionFits, Fits}}
use Rattle.plural_rules.specs.declared.parse.state.State.TheVariants as state
use Rattle.plural_rules.specs.declared.parse.state.Event.TheVariants as event

-- where a category comes next, one is left
abbrev pub is_open : Categories → State → Bool
is_open seen state.Category = not (is_full seen)
is_open seen state.One = not (seen.one && seen.other)
is_open seen s = true

-- the state is before a number
abbrev pub starts_number : State → Bool
starts_number state.Modulus = true
starts_number state.Low = true
starts_number state.High = true
starts_number s = false

-- the state is within the digits of a number
abbrev pub is_digits : State → Bool
is_digits state.Zeros = true
is_digits state.ModulusDigits = true
is_digits state.LowDigits = true
is_digits state.HighDigits = true
is_digits s = false

-- a first digit comes only before a number, a further one only after digits; and the byte before a number is no digit
abbrev pub is_valid : State → Event → State → Bool → Bool
is_valid s (event.First d) t is_digit = not (starts_number t) && (starts_number s && is_digit)
is_valid s (event.Digit d) t is_digit = not (starts_number t) && (is_digits s && is_digit)
is_valid s e t is_digit = cond (starts_number t) (not is_digit) (not (is_digits t))

-- the transition on a byte, if any, is fine, and leads from an open state to an open one
abbrev pub IsValid : State → Categories → ℕ → Transition → Type 0
IsValid s seen c None = Unit {0}
IsValid s seen c (Some move) =
    (is_valid s move.1 move.0 (is_ascii_digit c) ≡ true)
    × (is_open seen s ≡ true → is_open (seen_after move.1 seen) move.0 ≡ true)

pub valid_next : (seen : Categories) (s : State) (c : ℕ) → IsValid s seen c (next seen s c)
valid_next seen state.Category c = grind (arith, nat_tests)
valid_next seen s c = grind arith

-- each transition is fine, and leads from an open state to an open one
pub transition_is_valid : (seen : Categories) (s : State) (c : ℕ) (t : State) (e : Event) → next seen s c ≡ Some (t, e)
    → (is_valid s e t (is_ascii_digit c) ≡ true) × (is_open seen s ≡ true → is_open (seen_after e seen) t ≡ true)
transition_is_valid seen s c t e to = rw to at (valid_next seen s c)

-- ---- Runs.

-- the number after an event fits, if the reader is strict
abbrev pub allowed : Bool → Event → Partial → Bool
allowed strict (event.First d) p = not strict || nat_le d (limit p.is_divided)
allowed strict (event.Digit d) p = not strict || nat_le (p.number * 10 + d) (limit p.is_divided)
allowed strict e p = true

-- the state after a text and the rules so far, or None if the reader stops
abbrev pub Reached : Type 0
Reached = Option (State × Partial)

abbrev pub apply_transition : Bool → Transition → Partial → (State → Partial → Reached) → Reached
apply_transition strict None p go = None
apply_transition strict (Some move) p go = cond (allowed strict move.1 p) (go move.0 (after move.1 p)) None

abbrev pub run : Bool → State → Partial → List ℕ → Reached
run strict s p [] = Some (s, p)
run strict s p (c ∷ text) = apply_transition strict (next p.seen s c) p (λ s q. run strict s q text)

abbrev pub finished : Option Event → Partial → Option (List RuleValue)
finished None p = None
finished (Some e) p = Some (after e p).rules

abbrev pub finish : Reached → Option (List RuleValue)
finish None = None
finish (Some x) = finished (at_end x.0) x.1

-- the rules of a text, or None if the reader rejects it
abbrev pub read : Bool → State → Partial → List ℕ → Option (List RuleValue)
read strict s p text = finish (run strict s p text)

-- the same from the first state, with no rules so far
abbrev pub run_text : Bool → List ℕ → Reached
run_text strict text = run strict state.Category no_rules text

abbrev pub read_text : Bool → List ℕ → Option (List RuleValue)
read_text strict text = finish (run_text strict text)

-- ---- Concatenated texts.

abbrev pub bind : Reached → (State → Partial → Reached) → Reached
bind None go = None
bind (Some x) go = go x.0 x.1

bind_cond : (a : Bool) (x y : Reached) (go : State → Partial → Reached) → x ≡ bind y go
    → cond a x None ≡ bind (cond a y None) go
bind_cond true x y go h = h
bind_cond false x y go h = refl

pub run_append : (strict : Bool) (text more : List ℕ) (s : State) (p : Partial)
    → run strict s p (text ++ more) ≡ bind (run strict s p text) (λ s q. run strict s q more)
run_append strict [] more s p = refl
run_append strict (c ∷ text) more s p = grind (arith, bind_cond, (run_append strict text more))

-- one more byte, and its transition
pub run_more : (strict : Bool) (text : List ℕ) (i : ℕ) (s : State) (p : Partial) {m : Transition} → i < length text
    → run_text strict (take i text) ≡ Some (s, p) → next p.seen s (get_or text i 0) ≡ m
    → run_text strict (take (i + 1) text) ≡ apply_transition strict m p (λ s q. Some (s, q))
run_more strict text i s p less h to = grind (arith, common_steps, take_more, run_append)

-- the run continues after an allowed transition
pub transitions : (strict : Bool) (m : Transition) (s2 : State) (e : Event) (p : Partial) (go : State → Partial
    → Reached)
    → m ≡ Some (s2, e) → allowed strict e p ≡ true → apply_transition strict m p go ≡ go s2 (after e p)
transitions strict m s2 e p go h a =
    ap (λ m. apply_transition strict m p go) h ∙ ap (λ b. cond b (go s2 (after e p)) None) a

-- ---- Rules that the strict reader accepts fit, and are those of the other one.

pub any_allowed : (e : Event) (p : Partial) → allowed false e p ≡ true
any_allowed e p = grind arith

was_allowed : (a : Bool) (y : Reached) (x : State × Partial) → cond a y None ≡ Some x → (a ≡ true) × (y ≡ Some x)
was_allowed true y x h = (refl, h)
was_allowed false y x h = absurd (cc)

-- all numbers so far fit
abbrev pub FitsSoFar : Partial → Type 0
FitsSoFar p =
    Fits p.rules × AllByRecursion AndConditionFits p.alternatives × AndConditionFits p.relations
    × IfSome p.modulus (λ m. m ≤ 10 ^ 18) × AllByRecursion RangeFits p.ranges × IfSome p.low (λ n. n < 2 ^ 64)
    × (p.number ≤ limit p.is_divided)

all_more : {X : Type 0} (P : X → Type 0) (xs : List X) (y : X) → AllByRecursion P xs → P y
    → AllByRecursion P (xs ++ y ∷ [])
all_more P [] y h i = (i, tt)
all_more P (x ∷ xs) y h i = (h.0, all_more P xs y h.1 i)

pub in_64_bits : (b : Bool) (n : ℕ) → n ≤ limit b → n < 2 ^ 64
in_64_bits b n h = grind arith

-- the number after an allowed event fits
pub fits_on : (e : Event) (p : Partial) → FitsSoFar p → allowed true e p ≡ true → FitsSoFar (after e p)
fits_on e p h a = grind (arith, nat_tests, in_64_bits, all_more)

-- a run of the strict reader is one of the other, and its rules fit
strict_run : (text : List ℕ) (s : State) (p : Partial) (x : State × Partial) → FitsSoFar p
    → run true s p text ≡ Some x → FitsSoFar x.1 × (run false s p text ≡ Some x)
strict_run [] s p x f h = let same : ◌≡◌ {A = State × Partial} (s, p) x = cc in (rw (← same) f, h)
strict_run (c ∷ text) s p x f h = go (strict_run text) (next p.seen s c) h
  where
    go : ((s : State) (p : Partial) (x : State × Partial) → FitsSoFar p → run true s p text ≡ Some x
        → FitsSoFar x.1 × (run false s p text ≡ Some x))
        → (m : Transition) → apply_transition true m p (λ s q. run true s q text) ≡ Some x
        → FitsSoFar x.1 × (apply_transition false m p (λ s q. run false s q text) ≡ Some x)
    go ih None h = absurd (cc)
    go ih (Some move) h =
        let was = was_allowed (allowed true move.1 p) _ x h in
        let rest = ih move.0 (after move.1 p) x (fits_on move.1 p f was.0) was.1 in
        let any = transitions false (Some move) move.0 move.1 p (λ s q. run false s q text) refl
        (any_allowed move.1 p) in
        (rest.0, any ∙ rest.1)

pub reached_strictly : (text : List ℕ) (s : State) (p : Partial) → run_text true text ≡ Some (s, p) → FitsSoFar p
    × (run_text false text ≡ Some (s, p))
reached_strictly text s p h =
    strict_run text state.Category no_rules (s, p) (tt, tt, tt, tt, tt, tt, omega arith) h

-- rules that the strict reader accepts fit, and are those of the other one
pub read_fits : (text : List ℕ) (rules : List RuleValue) → read_text true text ≡ Some rules
    → Fits rules × (read_text false text ≡ Some rules)
read_fits text rules h = go (run_text true text) refl h
  where
    ended : (s : State) (p : Partial) → FitsSoFar p → (end : Option Event) → at_end s ≡ end
        → finished end p ≡ Some rules → Fits rules
    ended s p f None is h = absurd (cc)
    ended s p f (Some e) is h =
        let same : (after e p).rules ≡ rules = cc in
        let may : allowed true e p ≡ true = grind (arith, is) in
        let fits = fits_on e p f may in
        rw (← same) (fits.0)

    go : (x : Reached) → run_text true text ≡ x → finish x ≡ Some rules
        → Fits rules × (read_text false text ≡ Some rules)
    go None is h = absurd (cc)
    go (Some x) is h =
        let strictly = reached_strictly text x.0 x.1 is in
        (ended x.0 x.1 strictly.0 (at_end x.0) refl h, ap finish strictly.1 ∙ h)
