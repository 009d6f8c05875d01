-- Plural rules and their semantics.
use Rattle.std.specs.{Prelude.{ℕ, ◌%◌, ◌^◌, ◌==◌, nat_lt, nat_le, Bool, true, ◌&&◌, not, if◌then◌else◌, List, codes, Option, Some, None, find}, List.{list_any, list_all}, Option.option_map_or}
use Rattle.plural_rules.specs.{declared.rules.{PluralCategory.{PluralCategory, TheVariants.{Zero, One, Two, Few, Many, Other}}, Operand.{Operand, TheVariants.{N, I, V, W, F, T, C}}, Range.Range}, Operands.Operands}
use Rattle.plural_rules.specs.Operands as of

-- ---- Rules.

-- the name of a category
abbrev pub name_of : PluralCategory → List ℕ
name_of Zero = codes "zero"
name_of One = codes "one"
name_of Two = codes "two"
name_of Few = codes "few"
name_of Many = codes "many"
name_of Other = codes "other"

-- the modulus of a number from 1 to 10^18; of every other number there is none
abbrev pub modulus_of : ℕ → Option ℕ
modulus_of n = if nat_lt 0 n && nat_le n (10 ^ 18) then Some n else None

-- a relation: an operand, a modulus if there is one, whether it is = and not !=, and the ranges
pub record RelationValue : Type 0 where
  pub operand : Operand
  pub modulus : Option ℕ
  pub is_equal : Bool
  pub ranges : List Range

-- the relation of these parts
abbrev pub relation : Operand → Option ℕ → Bool → List Range → RelationValue
relation operand modulus is_equal ranges =
    record { operand = operand; modulus = modulus; is_equal = is_equal; ranges = ranges }

-- a rule: a category and its condition, an `or` of `and`s of relations
pub record RuleValue : Type 0 where
  pub category : PluralCategory
  pub alternatives : List (List RelationValue)

-- the rule of these parts
abbrev pub rule : PluralCategory → List (List RelationValue) → RuleValue
rule category alternatives = record { category = category; alternatives = alternatives }

-- ---- Semantics.

-- the value of an operand; of n that of i
abbrev pub operand_value : Operands → Operand → ℕ
operand_value number N = of.i number.value
operand_value number I = of.i number.value
operand_value number V = of.v number.value
operand_value number W = of.w number.value
operand_value number F = of.f number.value
operand_value number T = of.t number.value
operand_value number C = number.exponent

-- n is an integer only if all fraction digits are 0, and every other operand always is one
abbrev pub is_integer : Operands → Operand → Bool
is_integer number N = of.w number.value == 0
is_integer number operand = true

-- the remainder by the modulus, if there is one
abbrev pub by_modulus : Option ℕ → ℕ → ℕ
by_modulus None n = n
by_modulus (Some modulus) n = n % modulus

-- the integer that a relation compares: an operand, or its remainder
abbrev pub expr_of : Operands → RelationValue → ℕ
expr_of number r = by_modulus r.modulus (operand_value number r.operand)

-- an integer is in a range
abbrev pub in_range : ℕ → Range → Bool
in_range n range = nat_le range.low n && nat_le n range.high

-- the operand is an integer, and it or its remainder is in one of the ranges
abbrev pub equals : Operands → RelationValue → Bool
equals number r = is_integer number r.operand && list_any (in_range (expr_of number r)) r.ranges

-- a relation holds; != is the opposite of =
abbrev pub holds : Operands → RelationValue → Bool
holds number r = if r.is_equal then equals number r else not (equals number r)

-- all relations of one of the alternatives hold
abbrev pub is_met : Operands → RuleValue → Bool
is_met number r = list_any (list_all (holds number)) r.alternatives

-- the category of the first rule whose condition is met, and Other if there is none
abbrev pub category_of : List RuleValue → Operands → PluralCategory
category_of rules number = option_map_or (λ r. r.category) (find (is_met number) rules) Other
