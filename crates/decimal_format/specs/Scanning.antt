-- Private: used only in the contracts of private functions.
-- What the steps of a scan find.
use Rattle.std.specs.{Prelude.{◌≡◌, ◌≢◌, ℕ, ◌%◌, ◌^◌, ◌<◌, ◌≤◌, ◌↔◌, Bool, true, false, ◌&&◌, List, [], ◌++◌, if◌then◌else◌, length, take, drop, Result, Err, IfOk}, Int.Digits.{AllBelowBase, number_from_digits}}
use Rattle.decimal_digits.specs.Number.{size}
use Rattle.decimal_unsigned.specs.{DigitValues.value_of_first, Unsigned.Unsigned, declared.error.ParseError.{ParseError, TheVariants.{Limit, Syntax, Memory}}}
use Rattle.fixed_decimal.specs.Decimal.{Decimal}
use Rattle.decimal_format.specs.{declared.reader.{Part.Part, Scanned.Scanned, lenient.Normalized.Normalized}, Symbols.{Symbols, digit_text}, Reading.{Numeral, IsNumeral, IsBeyondLimits, IsWritten, digits_text}, Lenient.{replaced, IsLenientNumeral, IsLenientlyWritten}}

-- ---- Groups.

-- a separator is there, and is one of those chosen
abbrev pub separated_if : (ℕ → Bool) → (ℕ → Bool) → ℕ → Bool
separated_if may chosen m = may m && chosen m

-- the grouping separator, or nothing
abbrev pub separator_if : Symbols → Bool → List ℕ
separator_if s separated = if separated then s.grouping else []

-- a grouping separator was cut off where it is possible, if there is one
pub record SkipsSeparator (s : Symbols) (possible : Bool) (bytes rest : List ℕ) (found : Bool) : Type 0 where
  pub allowed : found ≡ true → possible ≡ true
  pub text : bytes ≡ separator_if s found ++ rest
  pub none : found ≡ false → possible ≡ true → (r : List ℕ) → bytes ≢ s.grouping ++ r

-- a text after integer digits begins with no digit and no grouping separator
pub record EndsInteger (s : Symbols) (tail : List ℕ) : Type 0 where
  pub digit : (d : ℕ) (rest : List ℕ) → d < 10 → tail ≢ digit_text s d ++ rest
  pub grouping : (rest : List ℕ) → tail ≢ s.grouping ++ rest

-- ---- Normal forms.

-- the bytes of a normal form that are left to read
abbrev pub left_of : Normalized → List ℕ
left_of n = take n.left (drop n.read (replaced n.symbols.now n.text.now))

-- ---- Digits.

-- the packed BCD of the last sixteen of k digits
pub record HasBcd (n k : ℕ) (ds : List ℕ) : Type 0 where
  pub digits : AllBelowBase 10 ds
  pub count : length ds ≡ k
  pub number : n ≡ number_from_digits 16 ds % 2 ^ 64

-- a text begins with a number of digits, at most n, and the rest follows them, which begins with no digit if there are
-- fewer than n
pub record ReadsRun (s : Symbols) (n : ℕ) (bytes rest : List ℕ) (number count : ℕ) : Type 0 where
  pub digits : List ℕ
  pub bcd : HasBcd number count digits
  pub at_most : count ≤ n
  pub text : bytes ≡ digits_text s (λ _. false) digits ++ rest
  pub ends : count < n → (d : ℕ) (r : List ℕ) → d < 10 → rest ≢ digit_text s d ++ r

-- a text is these digits, with grouping separators after any of them and perhaps before the first, and then neither
abbrev pub IsSpelled : Symbols → List ℕ → List ℕ → Type 0
IsSpelled s bytes ds =
    (separated : ℕ → Bool) × (tail : List ℕ) × EndsInteger s tail × AllBelowBase 10 ds × (after_separator : Bool)
    × (bytes ≡ separator_if s after_separator ++ (digits_text s separated ds ++ tail))

-- of these digits the first ones were read, at most n, and all of them if there are fewer; the rest spells the others
pub record ReadsSpelled (s : Symbols) (n : ℕ) (rest : List ℕ) (number count : ℕ) (ds : List ℕ) : Type 0 where
  pub first : List ℕ
  pub others : List ℕ
  pub all : ds ≡ first ++ others
  pub bcd : HasBcd number count first
  pub at_most : count ≤ n
  pub spelled : IsSpelled s rest others
  pub ends : count < n → others ≡ []

-- of n digits, each has a separator after it where it may have one, or none has
abbrev pub IsUniform : (ℕ → Bool) → (ℕ → Bool) → ℕ → Type 0
IsUniform may chosen n =
    (all : Bool) × ((m : ℕ) → m < n → separated_if may chosen m ≡ separated_if may (λ _. all) m)

-- n digits were read, with separators after the chosen ones, and the rest follows them
pub record ReadsDigits (s : Symbols) (may : ℕ → Bool) (n : ℕ) (bytes rest : List ℕ) (is_uniform : Bool) : Type 0 where
  pub digits : List ℕ
  pub chosen : ℕ → Bool
  pub count : length digits ≡ n
  pub are_digits : AllBelowBase 10 digits
  pub text : bytes ≡ digits_text s (separated_if may chosen) digits ++ rest
  pub uniform : is_uniform ≡ true ↔ IsUniform may chosen n

-- ---- Values.

-- the text of a part spells these digits
pub record HasPart {T : Type 0} (s : Symbols) (bytes : T → List ℕ) (part : Part T) (ds : List ℕ) : Type 0 where
  pub spelled : IsSpelled s (bytes part.text) ds
  pub bcd : HasBcd part.number part.count ds

-- a scan found the sign and the digits of this numeral in a text
pub record IsScan {T : Type 0} (s : Symbols) (bytes : T → List ℕ) (text : List ℕ) (r : Scanned T)
    (w : Numeral) : Type 0 where
  pub numeral : IsLenientNumeral s text w
  pub sign : r.sign ≡ w.sign
  pub whole : HasPart s bytes r.whole w.whole
  pub fraction : HasPart s bytes r.fraction w.fraction
  pub strict : r.is_strict ≡ true ↔ IsNumeral s text w

-- the value is that of these digits, of a number with `whole` integer digits
pub record HoldsDigits (whole k : ℕ) (v : Unsigned) (ds : List ℕ) : Type 0 where
  pub digits : AllBelowBase 10 ds
  pub count : length ds ≡ k
  pub value : v ≡ value_of_first whole ds

-- the value that the digits write
abbrev pub value_of : Numeral → Unsigned
value_of w = value_of_first (length w.whole) (w.whole ++ w.fraction)

-- the numerals of a text, by whether it has all separators or none
abbrev pub IsNumeralBy : Bool → Symbols → List ℕ → Numeral → Type 0
IsNumeralBy true s bytes w = IsNumeral s bytes w
IsNumeralBy false s bytes w = IsLenientNumeral s bytes w

-- and the decimals
abbrev pub IsWrittenBy : Bool → Symbols → List ℕ → Decimal → Type 0
IsWrittenBy true s bytes v = IsWritten s v bytes
IsWrittenBy false s bytes v = IsLenientlyWritten s v bytes

-- the result is the value of the digits; `Limit` exactly if there are too many digits; or `Memory`, for a value of more
-- than `inline` digits
pub record IsValueOf (inline : ℕ) (w : Numeral) (result : Result Decimal ParseError) : Type 0 where
  pub found : IfOk result (λ v. (v.sign ≡ w.sign) × (v.absolute ≡ value_of w))
  pub syntax : result ≢ Err Syntax
  pub limit : (result ≡ Err Limit) ↔ IsBeyondLimits w
  pub memory : result ≡ Err Memory → inline < size (value_of w).number
