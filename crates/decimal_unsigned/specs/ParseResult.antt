-- The result of parsing a text: its value, or an error.
use Rattle.std.specs.Prelude.{◌≡◌, ◌≢◌, Result, Ok, Err, None, List, length, ℕ, ◌+◌, ◌<◌, ◌≤◌, IfOk, IsOkAnd, ◌↔◌}
use Rattle.decimal_digits.specs.Number.{size}
use Rattle.decimal_unsigned.specs.declared.error.ParseError.{ParseError}
use Rattle.decimal_unsigned.specs.declared.error.ParseError.TheVariants.{Limit, Syntax, Memory}
use Rattle.decimal_unsigned.specs.Unsigned.{Unsigned}
use Rattle.decimal_unsigned.specs.Grammar.{Literal, Grammar}
use Rattle.decimal_unsigned.specs.Reading.{ReadError, syntax, limit, value_of, read}

-- the error is the one that reading gives, or it is `Memory` and this condition holds
abbrev pub ParseFails : {V : Type 0} → Type 0 → ParseError → Result V ReadError → Type 0
ParseFails memory_condition Limit reading = reading ≡ Err limit
ParseFails memory_condition Syntax reading = reading ≡ Err syntax
ParseFails memory_condition Memory reading = memory_condition

-- the result is the value or the error that reading gives; or it is `Memory`, and reading gives a value that allocates
abbrev pub IsParseResult : {V : Type 0} → (V → Type 0) → Result V ParseError → Result V ReadError → Type 0
IsParseResult allocates (Ok v) reading = reading ≡ Ok v
IsParseResult allocates (Err e) reading = ParseFails (IsOkAnd reading allocates) e reading

-- the result by the grammar: `Syntax` exactly if the text has no parts, `Limit` exactly if a digit that the parts show
-- is beyond the limits, and `Ok` only with the value of the parts
pub record ResultFollowsGrammar (text : List ℕ) (answer : Result Unsigned ParseError) : Type 0 where
  pub syntax : (answer ≡ Err Syntax) ↔ ((w : Literal) → ¬ Grammar text w)
  pub limit : (answer ≡ Err Limit) ↔ ((w : Literal) × Grammar text w × (value_of w ≡ Err limit))
  pub found : IfOk answer (λ v. (w : Literal) × Grammar text w × (value_of w ≡ Ok v))

-- parts without an exponent, with at most 32768 integer digits and at most 32768 fraction digits
abbrev pub IsPlain : Literal → Type 0
IsPlain w = (w.exponent ≡ None) × (length w.whole ≤ 32768) × (length w.fraction ≤ 32768)

-- the number of digits, those of the exponent not counted
abbrev pub digit_count : Literal → ℕ
digit_count w = length w.whole + length w.fraction

-- what a parser returns, where `held` digits need no allocation
pub record Parses (held : ℕ) (text : List ℕ) (answer : Result Unsigned ParseError) : Type 0 where
  -- the value or the error that reading gives; `Memory` is possible only with more than `held` digits
  pub parses : IsParseResult (λ v. held < size v.number) answer (read text)
  -- `Syntax`, `Limit` and the value are those of the grammar
  pub grammar : ResultFollowsGrammar text answer
  -- without an exponent only the number of digits can exceed the limit
  pub plain : (w : Literal) → Grammar text w → IsPlain w → answer ≢ Err Limit
  -- up to `held` digits before an exponent need no allocation
  pub at_most : (w : Literal) → Grammar text w → digit_count w ≤ held → answer ≢ Err Memory
