-- The parser as a state machine: the transition on each byte at each state, and the rules so far.
-- Only private contracts cite this file.
use Rattle.std.specs.{Prelude.{ℕ, ◌+◌, ◌-◌, ◌*◌, ◌^◌, ◌==◌, nat_lt, nat_le, Bool, true, false, ◌||◌, ◌&&◌, if◌then◌else◌, List, [], ◌∷◌, ◌++◌, length, get_or, Option, Some, None}, Char.is_ascii_digit}
use Rattle.plural_rules.specs.{declared.{rules.{PluralCategory.{PluralCategory, TheVariants.{Zero, One as CategoryOne, Two, Few, Many, Other}}, Operand.{Operand, TheVariants.{N, I, V, W, F, T, C}}, Range.Range}, parse.{state.{State.State, Event.Event, Categories.Categories}, numbers.Numbers.{Numbers, TheVariants.{Fit, TooLarge}}}}, Rules.{name_of, RelationValue, relation, RuleValue, rule}, RulesGrammar.is_blank}
use Rattle.plural_rules.specs.declared.parse.state.State.TheVariants as state
use Rattle.plural_rules.specs.declared.parse.state.Event.TheVariants as event

-- ---- The categories so far.

abbrev pub has : Categories → PluralCategory → Bool
has seen Zero = seen.zero
has seen CategoryOne = seen.one
has seen Two = seen.two
has seen Few = seen.few
has seen Many = seen.many
has seen Other = seen.other

abbrev pub with : Categories → PluralCategory → Categories
with seen Zero = record seen { zero = true }
with seen CategoryOne = record seen { one = true }
with seen Two = record seen { two = true }
with seen Few = record seen { few = true }
with seen Many = record seen { many = true }
with seen Other = record seen { other = true }

-- all six
abbrev pub is_full : Categories → Bool
is_full seen = seen.zero && seen.one && seen.two && seen.few && seen.many && seen.other

abbrev pub no_categories : Categories
no_categories =
    record { zero = false; one = false; two = false; few = false; many = false; other = false }

-- ---- Transitions: the state after a byte and the event of the byte, or None if no rules continue with it.

abbrev pub Transition : Type 0
Transition = Option (State × Event)

-- a blank changes nothing; any other byte does `otherwise`
abbrev pub skip : State → ℕ → Transition → Transition
skip s c otherwise = if is_blank c then Some (s, event.Nothing) else otherwise

-- a category that was not read before
abbrev pub new_category : Categories → PluralCategory → Transition
new_category seen category = if has seen category then None else Some (state.Letters category 1, event.Nothing)

-- the first letter of a category
abbrev pub category_letter : Categories → ℕ → Transition
category_letter seen c =
    if c == 122 then new_category seen Zero
    else if c == 111 then (if seen.one && seen.other then None else Some (state.One, event.Nothing))
    else if c == 116 then new_category seen Two
    else if c == 102 then new_category seen Few
    else if c == 109 then new_category seen Many
    else None

-- the second letter of a category that begins with o
abbrev pub second_letter : Categories → ℕ → Transition
second_letter seen c =
    if c == 110 then (if seen.one then None else Some (state.Letters CategoryOne 2, event.Nothing))
    else if c == 116 then (if seen.other then None else Some (state.Letters Other 2, event.Nothing))
    else None

-- the state after a category's colon
abbrev pub condition_of : PluralCategory → State
condition_of Other = state.OtherCondition
condition_of category = state.Operand

-- the letter of an operand
abbrev pub operand : ℕ → Transition
operand c =
    if c == 110 then Some (state.Percent, event.Operand N)
    else if c == 105 then Some (state.Percent, event.Operand I)
    else if c == 118 then Some (state.Percent, event.Operand V)
    else if c == 119 then Some (state.Percent, event.Operand W)
    else if c == 102 then Some (state.Percent, event.Operand F)
    else if c == 116 then Some (state.Percent, event.Operand T)
    else if c == 99 then Some (state.Percent, event.Operand C)
    else if c == 101 then Some (state.Percent, event.Operand C)
    else None

-- the byte after a rule, with the event that ends it: a semicolon, if a category is left, or the @ of samples
abbrev pub rule_end : Categories → ℕ → Event → Transition
rule_end seen c e =
    if c == 59 then (if is_full seen then None else Some (state.Category, e))
    else if c == 64 then Some (state.Samples, e)
    else None

abbrev pub comparison : ℕ → Transition
comparison c =
    if c == 61 then Some (state.Low, event.Equal true)
    else if c == 33 then Some (state.NotEqual, event.Nothing)
    else None

-- the byte after a range and its blanks
abbrev pub follows_range : Categories → ℕ → Transition
follows_range seen c =
    if c == 44 then Some (state.Low, event.Comma)
    else if c == 97 then Some (state.And, event.And)
    else if c == 111 then Some (state.OrEnd, event.Or)
    else rule_end seen c event.End

abbrev pub after_low : Categories → ℕ → Transition
after_low seen c =
    skip state.AfterLow c (if c == 46 then Some (state.Dot, event.Nothing) else follows_range seen c)

abbrev pub after_high : Categories → ℕ → Transition
after_high seen c = skip state.AfterHigh c (follows_range seen c)

-- one byte, and no other
abbrev pub only : ℕ → ℕ → State → Event → Transition
only wanted c s e = if c == wanted then Some (s, e) else None

-- the next letter of a category, or the colon after the last one
abbrev pub letter : PluralCategory → ℕ → ℕ → Transition
letter category n c =
    if nat_lt n (length (name_of category)) then
    only (get_or (name_of category) n 0) c (state.Letters category (n + 1)) event.Nothing
    else skip (state.Letters category n) c (only 58 c (condition_of category) (event.Category category))

-- the first digit of a number
abbrev pub first : ℕ → State → Transition
first c s = if is_ascii_digit c then Some (s, event.First (c - 48)) else None

-- a further digit, or something else
abbrev pub digit : ℕ → State → Transition → Transition
digit c s otherwise = if is_ascii_digit c then Some (s, event.Digit (c - 48)) else otherwise

-- after a digit of a modulus whose digits before it, if any, are all 0
abbrev pub modulus_state : ℕ → State
modulus_state c = if c == 48 then state.Zeros else state.ModulusDigits

abbrev pub next : Categories → State → ℕ → Transition
next seen state.Category c = skip state.Category c (category_letter seen c)
next seen state.One c = second_letter seen c
next seen (state.Letters category n) c = letter category n c
next seen state.OtherCondition c =
    skip state.OtherCondition c
    (if c == 59 || c == 64 then rule_end seen c event.EndOther else operand c)
next seen state.Operand c = skip state.Operand c (operand c)
next seen state.Percent c =
    skip state.Percent c (if c == 37 then Some (state.Modulus, event.Percent) else comparison c)
next seen state.Modulus c = skip state.Modulus c (first c (modulus_state c))
next seen state.Zeros c = digit c (modulus_state c) None
next seen state.ModulusDigits c = digit c state.ModulusDigits (skip state.Comparison c (comparison c))
next seen state.Comparison c = skip state.Comparison c (comparison c)
next seen state.NotEqual c = only 61 c state.Low (event.Equal false)
next seen state.Low c = skip state.Low c (first c state.LowDigits)
next seen state.LowDigits c = digit c state.LowDigits (after_low seen c)
next seen state.AfterLow c = after_low seen c
next seen state.Dot c = only 46 c state.High event.To
next seen state.High c = skip state.High c (first c state.HighDigits)
next seen state.HighDigits c = digit c state.HighDigits (after_high seen c)
next seen state.AfterHigh c = after_high seen c
next seen state.And c = only 110 c state.AndEnd event.Nothing
next seen state.AndEnd c = only 100 c state.Blank event.Nothing
next seen state.OrEnd c = only 114 c state.Blank event.Nothing
next seen state.Blank c = skip state.Operand c None
next seen state.Samples c =
    if c == 59 then (if is_full seen then None else Some (state.Category, event.Nothing))
    else Some (state.Samples, event.Nothing)

-- the event of the end of the text, if rules may end in the state
abbrev pub at_end : State → Option Event
at_end state.OtherCondition = Some event.EndOther
at_end state.LowDigits = Some event.End
at_end state.AfterLow = Some event.End
at_end state.HighDigits = Some event.End
at_end state.AfterHigh = Some event.End
at_end state.Samples = Some event.Nothing
at_end s = None

-- ---- The rules so far.

-- the complete rules, and of the rule that is being read the category, the alternatives, the relations of the last
-- alternative, and the parts of the last relation
pub record Partial : Type 0 where
  pub seen : Categories
  pub rules : List RuleValue
  pub category : PluralCategory
  pub alternatives : List (List RelationValue)
  pub relations : List RelationValue
  pub operand : Operand
  pub is_divided : Bool
  pub modulus : Option ℕ
  pub is_equal : Bool
  pub ranges : List Range
  pub low : Option ℕ
  pub number : ℕ

abbrev pub no_rules : Partial
no_rules = record {
  seen = no_categories;
  rules = [];
  category = Other;
  alternatives = [];
  relations = [];
  operand = N;
  is_divided = false;
  modulus = None;
  is_equal = true;
  ranges = [];
  low = None;
  number = 0;
}

-- the range that is read
abbrev pub range_of : Option ℕ → ℕ → Range
range_of None n = record { low = n; high = n }
range_of (Some low) n = record { low = low; high = n }

-- the modulus that was read, if any; it is not 0
abbrev pub modulus_read : Bool → ℕ → Option ℕ
modulus_read is_divided n = if is_divided && nat_lt 0 n then Some n else None

abbrev pub end_range : Partial → Partial
end_range p = record p { ranges = p.ranges ++ range_of p.low p.number ∷ []; low = None }

abbrev pub end_relation : Partial → Partial
end_relation p =
    record p { relations = p.relations ++ relation p.operand p.modulus p.is_equal p.ranges ∷ []; ranges = [] }

abbrev pub end_alternative : Partial → Partial
end_alternative p = record p { alternatives = p.alternatives ++ p.relations ∷ []; relations = [] }

abbrev pub end_rule : Partial → Partial
end_rule p = record p { rules = p.rules ++ rule p.category p.alternatives ∷ []; alternatives = [] }

-- the effect of an event on the rules so far
abbrev pub after : Event → Partial → Partial
after event.Nothing p = p
after (event.Category category) p =
    record p { seen = with p.seen category; category = category; alternatives = []; relations = [] }
after (event.Operand operand) p = record p { operand = operand; is_divided = false; ranges = [] }
after event.Percent p = record p { is_divided = true; number = 0 }
after (event.First d) p = record p { number = d }
after (event.Digit d) p = record p { number = p.number * 10 + d }
after (event.Equal is_equal) p =
    record p { is_equal = is_equal; modulus = modulus_read p.is_divided p.number; is_divided = false; low = None }
after event.To p = record p { low = Some p.number }
after event.Comma p = end_range p
after event.And p = end_relation (end_range p)
after event.Or p = end_alternative (end_relation (end_range p))
after event.End p = end_rule (end_alternative (end_relation (end_range p)))
after event.EndOther p = end_rule p

-- ---- The categories after an event.

abbrev pub seen_after : Event → Categories → Categories
seen_after (event.Category category) seen = with seen category
seen_after e seen = seen

-- ---- The numbers so far.

-- the greatest modulus, or the greatest other number
abbrev pub limit : Bool → ℕ
limit is_modulus = if is_modulus then 10 ^ 18 else 2 ^ 64 - 1

-- a number, as far as it was read
abbrev pub checked_number : Bool → ℕ → ℕ → Numbers
checked_number is_modulus begin n = if nat_le n (limit is_modulus) then Fit n is_modulus begin else TooLarge begin

-- the numbers after the event of the byte at this offset
abbrev pub numbers_after : Numbers → ℕ → Event → Numbers
numbers_after (TooLarge begin) at e = TooLarge begin
numbers_after (Fit n is_modulus begin) at (event.First d) = checked_number is_modulus at d
numbers_after (Fit n is_modulus begin) at (event.Digit d) = checked_number is_modulus begin (n * 10 + d)
numbers_after (Fit n is_modulus begin) at event.Percent = Fit 0 true begin
numbers_after (Fit n is_modulus begin) at (event.Equal is_equal) = Fit n false begin
numbers_after (Fit n is_modulus begin) at (event.Operand operand) = Fit n false begin
numbers_after (Fit n is_modulus begin) at e = Fit n is_modulus begin

-- no number is too great
abbrev pub all_fit : Numbers → Bool
all_fit (Fit n is_modulus begin) = true
all_fit (TooLarge begin) = false
