-- Numbers as people type them, between affixes.
use Rattle.std.specs.Prelude.{◌≡◌, ◌≢◌, ℕ, ◌⊎◌, List, [], ◌∷◌, ◌++◌}
use Rattle.fixed_decimal.specs.{Decimal.Decimal, declared.variations.Sign.{Sign, TheVariants.None}}
use Rattle.decimal_format.specs.{Symbols.Symbols, Reading.Numeral, Lenient.{normalized, IsLenientNumeral, IsLenientlyWritten}, declared.reader.alternatives.Alternative.Alternative}

-- the text, in normal form, is this one between the normal forms of the affixes
abbrev pub IsAround : Symbols → Alternative → List ℕ → List ℕ → Type 0
IsAround s a bytes middle = bytes ≡ normalized s a.prefix.now ++ (middle ++ normalized s a.suffix.now)

-- the sign that affixes and a number show: that of the affixes, or else that of the number; two signs are none
abbrev pub IsShownSign : Sign → Sign → Sign → Type 0
IsShownSign affixes own shown =
    ((affixes ≡ None) × (shown ≡ own)) ⊎ ((affixes ≢ None) × (own ≡ None) × (shown ≡ affixes))

-- between the affixes is a numeral with optional separators
pub record IsNumeralAround (s : Symbols) (a : Alternative) (bytes : List ℕ) (w : Numeral) : Type 0 where
  pub middle : List ℕ
  pub around : IsAround s a bytes middle
  pub own : Sign
  pub sign : IsShownSign a.sign own w.sign
  pub numeral : IsLenientNumeral s middle (record w { sign = own })

-- between the affixes is a decimal with optional separators
pub record IsWrittenAround (s : Symbols) (a : Alternative) (bytes : List ℕ) (v : Decimal) : Type 0 where
  pub middle : List ℕ
  pub around : IsAround s a bytes middle
  pub own : Sign
  pub sign : IsShownSign a.sign own v.sign
  pub written : IsLenientlyWritten s (record v { sign = own }) middle

-- the numeral is that of the first of these alternatives that has one
abbrev pub IsNumeralOfFirst : Symbols → List ℕ → List Alternative → Numeral → Type 0
IsNumeralOfFirst s bytes [] w = ⊥
IsNumeralOfFirst s bytes (a ∷ others) w =
    IsNumeralAround s a bytes w ⊎ (((u : Numeral) → ¬ IsNumeralAround s a bytes u)
    × IsNumeralOfFirst s bytes others w)

-- and the decimal
abbrev pub IsWrittenOfFirst : Symbols → List ℕ → List Alternative → Decimal → Type 0
IsWrittenOfFirst s bytes [] v = ⊥
IsWrittenOfFirst s bytes (a ∷ others) v =
    IsWrittenAround s a bytes v ⊎ (((u : Numeral) → ¬ IsNumeralAround s a bytes u)
    × IsWrittenOfFirst s bytes others v)
