-- The texts that are read.
use Rattle.std.specs.{Prelude.{◌≡◌, ℕ, ◌-◌, ◌<◌, ◌⊎◌, ◌↔◌, Bool, false, if◌then◌else◌, List, [], ◌∷◌, ◌++◌, length, pos, Result, Err, IfOk, MatchResult}, Int.Digits.AllBelowBase}
use Rattle.decimal_digits.specs.Number.{size}
use Rattle.decimal_unsigned.specs.{Unsigned.{Unsigned, IsValue}, declared.error.ParseError.{ParseError, TheVariants.{Limit, Syntax, Memory}}}
use Rattle.fixed_decimal.specs.{Decimal.Decimal, declared.variations.Sign.Sign}
use Rattle.decimal_format.specs.{declared.grouping.GroupingStrategy.GroupingStrategy, Symbols.{Symbols, digit_text, sign_affixes}, Grouping.separates, Formatted.formatted}

-- the text is that of a decimal by some strategy
abbrev pub IsWritten : Symbols → Decimal → List ℕ → Type 0
IsWritten s v bytes = (strategy : GroupingStrategy) × (bytes ≡ formatted s strategy v)

-- ---- Texts of any number of digits: a value has at most 32768 on each side.

-- a sign, integer digits and fraction digits
pub record Numeral : Type 0 where
  pub sign : Sign
  pub whole : List ℕ
  pub fraction : List ℕ

-- digits, with a grouping separator after each whose magnitude, the number of digits after it, passes a test
unfoldable pub digits_text : Symbols → (ℕ → Bool) → List ℕ → List ℕ
digits_text s separated [] = []
digits_text s separated (d ∷ ds) =
    digit_text s d ++ ((if separated (length ds) then s.grouping else []) ++ digits_text s separated ds)

-- the decimal separator and the fraction digits, or nothing if there are none
abbrev pub fraction_text : Symbols → List ℕ → List ℕ
fraction_text s [] = []
fraction_text s (d ∷ ds) = s.decimal ++ digits_text s (λ _. false) (d ∷ ds)

-- integer digits and fraction digits
abbrev pub absolute_numeral_text : Symbols → (ℕ → Bool) → Numeral → List ℕ
absolute_numeral_text s separated w = digits_text s separated w.whole ++ fraction_text s w.fraction

-- the same between the prefix and the suffix of the sign
abbrev pub numeral_text : Symbols → (ℕ → Bool) → Numeral → List ℕ
numeral_text s separated w =
    (sign_affixes s w.sign).prefix ++ (absolute_numeral_text s separated w ++ (sign_affixes s w.sign).suffix)

-- whether a strategy separates after a magnitude, of the given number of integer digits
abbrev pub separated_by : Symbols → GroupingStrategy → ℕ → ℕ → Bool
separated_by s strategy count m = separates strategy s.sizes (pos (count - 1)) (pos m)

-- digits 0 to 9, at least one of them an integer digit
pub record AreDigits (w : Numeral) : Type 0 where
  pub some : 0 < length w.whole
  pub whole : AllBelowBase 10 w.whole
  pub fraction : AllBelowBase 10 w.fraction

-- the text is that of these digits by some strategy
pub record IsNumeral (s : Symbols) (bytes : List ℕ) (w : Numeral) : Type 0 where
  pub digits : AreDigits w
  pub strategy : GroupingStrategy
  pub text : bytes ≡ numeral_text s (separated_by s strategy (length w.whole)) w

-- more digits on a side than a value can have
abbrev pub IsBeyondLimits : Numeral → Type 0
IsBeyondLimits w = (32768 < length w.whole) ⊎ (32768 < length w.fraction)

-- the value has more digits than these, from the first to the last nonzero one
abbrev pub NeedsMemory : ℕ → Unsigned → Type 0
NeedsMemory inline v = inline < size v.number

-- ---- What a reader returns.

-- of a text that is that of these numerals and of these decimals: its value; `Syntax` exactly if it is that of no
-- numeral; `Limit` exactly if it has too many digits; or `Memory`, where its value has more than `inline` digits
pub record IsRead (inline : ℕ) (is_numeral : Numeral → Type 0) (is_written : Decimal → Type 0) (result : Result
    Decimal ParseError) : Type 0 where
  pub found : IfOk result (λ v. IsValue v.absolute × is_written v)
  pub reads_back : (v : Decimal) → IsValue v.absolute → is_written v → MatchResult result (λ w. w ≡ v) (λ e. e
      ≡ Memory)
  pub syntax : (result ≡ Err Syntax) ↔ ((w : Numeral) → ¬ is_numeral w)
  pub limit : (result ≡ Err Limit) ↔ ((w : Numeral) × is_numeral w × IsBeyondLimits w)
  pub memory : result ≡ Err Memory → (v : Decimal) × IsValue v.absolute × is_written v
      × NeedsMemory inline v.absolute
