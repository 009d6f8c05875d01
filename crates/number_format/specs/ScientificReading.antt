-- Numbers in scientific and engineering notation, such as `1.2E3`: which texts are read, and as what.
use Rattle.std.specs.{Prelude.{◌≡◌, ◌≢◌, ℕ, ◌+◌, ◌*◌, ◌%◌, ◌^◌, ◌<◌, ◌⊎◌, ◌==◌, nat_lt, min, max, Bool, false, true, ◌||◌, if◌then◌else◌, List, [], ◌++◌, length, get_or, ℤ, pos, negsuc, ◌+ℤ◌, ◌-ℤ◌, unsigned_abs, Option, Some, None, Result, Ok, Err}, Int.{int_max, int_min, Digits.{AllBelowBase, number_from_digits}}}
use Rattle.decimal_digits.specs.Number.{size, first}
use Rattle.decimal_unsigned.specs.{Unsigned.{Unsigned, IsValue}, declared.error.ParseError.{ParseError, TheVariants.{Syntax, Limit, Memory}}}
use Rattle.fixed_decimal.specs.{Decimal.Decimal, declared.variations.Sign.Sign}
use Rattle.decimal_format.specs.{declared.grouping.GroupingStrategy.{GroupingStrategy, TheVariants.Never}, Formatted.absolute_text, Readable.{BeginsWith, BeginsWithDigit, code}, Reading.{Numeral, IsNumeral, digits_text, fraction_text}, Scanning.value_of, Symbols.{Symbols, sign_affixes}}
use Rattle.number_format.specs.{declared.{format.formatter.NumberFormatter.NumberFormatter, options.{ExponentOptions.ExponentOptions, ExponentSign.ExponentSign, NumberNotation.NumberNotation}, notation.Notation.{Notation, TheVariants.{Scientific, Engineering}}, read.scientific.{ExponentForm.ExponentForm, exponent.Exponent.Exponent, scan.Scan.Scan}}, AffixedTexts.shifted, NumberText.{exponent_sign, shown_exponent}, Scaled.exponent_at}

-- ---- The exponent.

-- the least number of digits of an exponent, from 1 to 32767
abbrev pub least_digits : ExponentOptions → ℕ
least_digits o = max 1 (min o.digits 32767)

-- the least number of digits, or more without a leading zero: for 2 both 03 and 123
abbrev pub HasLeastDigits : ℕ → List ℕ → Type 0
HasLeastDigits least ds = (length ds ≡ least) ⊎ ((least < length ds) × (get_or ds 0 0 ≢ 0))

-- the number of a sign and digits
abbrev pub exponent_number : Sign → List ℕ → ℤ
exponent_number Sign.Negative ds = pos 0 -ℤ pos (number_from_digits 10 ds)
exponent_number other ds = pos (number_from_digits 10 ds)

-- the text is that of an exponent: the sign that the options show, and digits
pub record IsExponent (s : Symbols) (o : ExponentOptions) (bytes : List ℕ) (sign : Sign) (ds : List ℕ) : Type 0 where
  pub digits : AllBelowBase 10 ds
  pub least : HasLeastDigits (least_digits o) ds
  pub sign_is : sign ≡ exponent_sign o.sign (exponent_number sign ds)
  pub text : bytes ≡ (sign_affixes s sign).prefix ++ digits_text s (λ _. false) ds

-- ---- The notation.

-- the greatest number of integer digits of a significand, of which each exponent is a multiple
abbrev pub step_of : ExponentForm → ℕ
step_of f = if f.is_engineering then 3 else 1

-- the integer part has 1 to `step` digits, leading zeros aside, and the exponent is a multiple of `step`; or the number
-- is 0, and so is the exponent
abbrev pub IsInNotation : ℕ → ℕ → ℕ → ℤ → Type 0
IsInNotation step whole fraction e =
    ((0 < whole) × (whole < 10 ^ step) × (unsigned_abs e % step ≡ 0)) ⊎ ((whole ≡ 0) × (fraction ≡ 0) × (e ≡ pos 0))

-- ---- Texts of any number of digits.

-- a significand, and the sign and the digits of an exponent
pub record ScientificNumeral : Type 0 where
  pub significand : Numeral
  pub sign : Sign
  pub exponent : List ℕ

abbrev pub exponent_of : ScientificNumeral → ℤ
exponent_of w = exponent_number w.sign w.exponent

-- the text is that of a significand, the separator and an exponent, and the notation has this exponent
pub record IsScientificNumeral (s : Symbols) (f : ExponentForm) (bytes : List ℕ) (w : ScientificNumeral)
    : Type 0 where
  pub front : List ℕ
  pub back : List ℕ
  pub text : bytes ≡ front ++ (f.separator.now ++ back)
  pub significand : IsNumeral s front w.significand
  pub unsigned : w.significand.sign ≡ Sign.None
  pub exponent : IsExponent s f.options back w.sign w.exponent
  pub notation : IsInNotation (step_of f) (number_from_digits 10 w.significand.whole)
      (number_from_digits 10 w.significand.fraction) (exponent_of w)

-- neither text begins with the other
pub record AreApart (a b : List ℕ) : Type 0 where
  pub first : ¬ BeginsWith a b
  pub second : ¬ BeginsWith b a

-- no text begins with the separator and with a digit, a decimal or a grouping separator
abbrev pub IsSeparatorApart : Symbols → List ℕ → Type 0
IsSeparatorApart s separator = (k : ℕ) → k < 12 → AreApart separator (code s k)

-- how a formatter writes exponents, if its notation has them
abbrev pub exponent_form : NumberFormatter → NumberNotation → Option ExponentForm
exponent_form f (NumberNotation.Scientific o) =
    Some (record { separator = f.separator.text; options = o; is_engineering = false })
exponent_form f (NumberNotation.Engineering o) =
    Some (record { separator = f.separator.text; options = o; is_engineering = true })
exponent_form f other = None

-- where a significand ends is certain, and the minus sign of an exponent is shown
pub record CanReadExponent (s : Symbols) (f : ExponentForm) : Type 0 where
  pub separator : IsSeparatorApart s f.separator.now
  pub signs : f.options.sign ≢ ExponentSign.Never

-- ---- What is read.

-- more digits on a side than a value can have
abbrev pub is_beyond_limits : Numeral → Bool
is_beyond_limits w = nat_lt 32768 (length w.whole) || nat_lt 32768 (length w.fraction)

-- the value of digits; `Limit` beyond the limits
abbrev pub numeral_value : Numeral → Result Decimal ParseError
numeral_value w = if is_beyond_limits w then Err Limit else Ok (record { sign = w.sign; absolute = value_of w })

-- the significand times 10 ^ exponent; `Limit` beyond the limits
abbrev pub scientific_value : ScientificNumeral → Result Decimal ParseError
scientific_value w = shifted (exponent_of w) (numeral_value w.significand)

-- the result is this value; or `Memory`, where a numeral has more than `inline` digits
abbrev pub IsValueOrMemory : ℕ → Numeral → Result Decimal ParseError → Result Decimal ParseError → Type 0
IsValueOrMemory inline w value result =
    (result ≡ value) ⊎ ((result ≡ Err Memory) × (inline < size (value_of w).number))

-- the result of reading a text: the value of its numeral; `Syntax` exactly if it is that of no numeral
pub record IsReadScientific (inline : ℕ) (s : Symbols) (f : ExponentForm) (bytes : List ℕ)
    (result : Result Decimal ParseError) : Type 0 where
  pub found : result ≢ Err Syntax → (w : ScientificNumeral) × IsScientificNumeral s f bytes w
  pub value : (w : ScientificNumeral) → IsScientificNumeral s f bytes w
      → IsValueOrMemory inline w.significand (scientific_value w) result

-- ---- What is written.

-- the text of a significand and an exponent
abbrev pub scientific_text : Symbols → ExponentForm → GroupingStrategy → Unsigned → ℤ → List ℕ
scientific_text s f strategy v e =
    absolute_text s strategy v
    ++ (f.separator.now ++ ((sign_affixes s (exponent_sign f.options.sign e)).prefix
    ++ absolute_text s Never (shown_exponent f.options e).absolute))

abbrev pub notation_of : ExponentForm → Notation
notation_of f = if f.is_engineering then Engineering else Scientific

-- the exponent is the one that the notation has for the number; that of 0 is 0
abbrev pub HasExponentOf : Notation → ℕ → ℤ → Type 0
HasExponentOf notation number e =
    ((0 < number) × (e ≡ exponent_at notation (first number +ℤ e))) ⊎ ((number ≡ 0) × (e ≡ pos 0))

-- ---- Private: used only in the contracts of private functions.

-- a number, and 40,000 instead of a greater one
abbrev pub capped : ℕ → ℕ
capped n = min n 40000

-- a scan with one more digit, and with one more code
abbrev pub with_digit : Scan → ℕ → Scan
with_digit scan d =
    if scan.has_decimal then record scan { fraction = capped (scan.fraction * 10 + d) }
    else record scan {
      count = capped (scan.count + 1);
      whole = capped (scan.whole * 10 + d);
      remainder = (scan.remainder * 10 + d) % 3;
    }

abbrev pub with_code : Scan → ℕ → Scan
with_code scan k =
    if k == 10 then record scan { has_decimal = true }
    else if k == 11 then record scan { has_grouping = true }
    else with_digit scan k

-- the numbers of integer digits and of fraction digits
pub record HasNumbers (scan : Scan) (ds es : List ℕ) : Type 0 where
  pub count : scan.count ≡ capped (length ds)
  pub whole : scan.whole ≡ capped (number_from_digits 10 ds)
  pub remainder : scan.remainder ≡ number_from_digits 10 ds % 3
  pub fraction : scan.fraction ≡ capped (number_from_digits 10 es)

-- without separators
abbrev pub IsPlain : Scan → Type 0
IsPlain scan = (scan.has_decimal ≡ false) × (scan.has_grouping ≡ false)

-- a text begins with no digit, decimal or grouping separator
abbrev pub EndsNumber : Symbols → List ℕ → Type 0
EndsNumber s tail = (k : ℕ) (rest : List ℕ) → k < 12 → tail ≢ code s k ++ rest

-- a text was scanned up to a rest: its numeral, if it begins with one
pub record IsScan (s : Symbols) (bytes rest : List ℕ) (scan : Scan) : Type 0 where
  pub split : (front : List ℕ) × (bytes ≡ front ++ rest)
  pub digits : IsPlain scan → (ds : List ℕ) × AllBelowBase 10 ds × (bytes ≡ digits_text s (λ _. false) ds ++ rest)
      × HasNumbers scan ds []
  pub plain : (ds : List ℕ) → AllBelowBase 10 ds → bytes ≡ digits_text s (λ _. false) ds
      → (rest ≡ []) × IsPlain scan × HasNumbers scan ds []
  pub numeral : (f : ℕ → Bool) (ds es tail : List ℕ) → AllBelowBase 10 ds → AllBelowBase 10 es → EndsNumber s tail
      → bytes ≡ digits_text s f ds ++ (fraction_text s es ++ tail) → (rest ≡ tail) × HasNumbers scan ds es

-- the number, and 40,000 or -40,000 instead of a greater or a lesser one
abbrev pub capped_exponent : ℤ → ℤ
capped_exponent e = int_max (negsuc 39999) (int_min e (pos 40000))

pub record HasExponent (r : Exponent) (e : ℤ) : Type 0 where
  pub number : r.number ≡ capped_exponent e
  pub remainder : r.remainder ≡ unsigned_abs e % 3

-- what precedes the separator, and the exponent
pub record IsSplit (s : Symbols) (f : ExponentForm) (bytes front : List ℕ) (number : ℤ) : Type 0 where
  pub sign : Sign
  pub digits : List ℕ
  pub back : List ℕ
  pub text : bytes ≡ front ++ (f.separator.now ++ back)
  pub begins : BeginsWithDigit s front
  pub exponent : IsExponent s f.options back sign digits
  pub number_is : number ≡ capped_exponent (exponent_number sign digits)
  pub notation : (w : Numeral) → IsNumeral s front w → IsInNotation (step_of f) (number_from_digits 10 w.whole)
      (number_from_digits 10 w.fraction) (exponent_number sign digits)

-- the text is that of a numeral with this significand and this exponent
pub record HasParts (s : Symbols) (f : ExponentForm) (bytes : List ℕ) (significand : Decimal) (exponent : ℤ)
    : Type 0 where
  pub valid : IsValue significand.absolute
  pub numeral : ScientificNumeral
  pub text : IsScientificNumeral s f bytes numeral
  pub significand_is : numeral_value numeral.significand ≡ Ok significand
  pub exponent_is : exponent ≡ capped_exponent (exponent_of numeral)
