-- Symbols whose texts can be told apart.
use Rattle.std.specs.Prelude.{◌≡◌, ℕ, ◌<◌, ◌==◌, nat_lt, if◌then◌else◌, List, ◌++◌}
use Rattle.decimal_format.specs.Symbols.{Symbols, digit_text}

-- a text begins with another
abbrev pub BeginsWith : List ℕ → List ℕ → Type 0
BeginsWith all part = (rest : List ℕ) × (all ≡ part ++ rest)

-- the fourteen codes: the ten digits, the decimal and the grouping separator, the prefixes of the minus and the plus
abbrev pub code : Symbols → ℕ → List ℕ
code s k =
    if nat_lt k 10 then digit_text s k
    else if k == 10 then s.decimal
    else if k == 11 then s.grouping
    else if k == 12 then s.minus.prefix
    else s.plus.prefix

-- code k begins with code j only if it is code j
abbrev pub IsOther : Symbols → ℕ → ℕ → Type 0
IsOther s j k = BeginsWith (code s k) (code s j) → j ≡ k

-- no other code begins with code j
abbrev pub IsApart : Symbols → ℕ → Type 0
IsApart s j = (k : ℕ) → k < 14 → IsOther s j k

-- no code begins with another one; so none is empty
pub record IsReadable (s : Symbols) : Type 0 where
  pub apart : (j : ℕ) → j < 14 → IsApart s j

-- a text begins with a digit
pub record BeginsWithDigit (s : Symbols) (bytes : List ℕ) : Type 0 where
  pub digit : ℕ
  pub following : List ℕ
  pub is_digit : digit < 10
  pub is : bytes ≡ digit_text s digit ++ following

-- a text ends with a digit
pub record EndsWithDigit (s : Symbols) (bytes : List ℕ) : Type 0 where
  pub digit : ℕ
  pub before : List ℕ
  pub is_digit : digit < 10
  pub is : bytes ≡ before ++ digit_text s digit
