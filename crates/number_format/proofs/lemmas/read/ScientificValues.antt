-- The values of numbers with an exponent.
use Rattle.std.proofs.{Math.Bool.or-true, Common.{◌≡◌, ◌≢◌, ℕ, ◌<◌, Bool, true, false, ◌||◌, nat_lt, inl, inr, List, length, refl, sym, ◌∙◌, ap, subst, arith, rules}, lemmas.Bool.{cases_lt, Decides.nat_tests}}
use Rattle.std.specs.Prelude.{if◌then◌else◌, Result, Ok, Err, ℤ}
use Rattle.decimal_digits.specs.Number.{size}
use Rattle.decimal_unsigned.specs.{Unsigned.{Unsigned, IsValue}, declared.error.ParseError.{ParseError, TheVariants.{Syntax, Limit, Memory}}}
use Rattle.fixed_decimal.specs.Decimal.{Decimal}
use Rattle.decimal_format.specs.{Symbols.Symbols, Readable.IsReadable, Reading.{Numeral, IsNumeral, IsBeyondLimits, IsWritten, IsRead}, Scanning.value_of}
use Rattle.decimal_format.proofs.lemmas.reader.{NumeralLaws.texts_by, NumeralTexts.HasDigits}
use Rattle.number_format.specs.{declared.read.scientific.ExponentForm.ExponentForm, AffixedTexts.shifted, ScientificReading.{ScientificNumeral, exponent_of, IsScientificNumeral, is_beyond_limits, numeral_value, IsValueOrMemory, IsReadScientific, IsSplit, HasParts}}
use Rattle.number_format.proofs.lemmas.read.ScientificTexts.{no_sign_shown}

above_limit : (n : ℕ) → 32768 < n → nat_lt 32768 n ≡ true
above_limit n h = search (rules, arith)

within_limit : (n : ℕ) → ¬ (32768 < n) → nat_lt 32768 n ≡ false
within_limit n none = elim (cases_lt 32768 n) [
  | inl h ↦ absurd (none h)
  | inr h ↦ grind (arith, nat_tests)
]

beyond_is : (w : Numeral) → IsBeyondLimits w → is_beyond_limits w ≡ true
beyond_is w (inl h) = ap (λ b. b || nat_lt 32768 (length w.fraction)) (above_limit (length w.whole) h)
beyond_is w (inr h) =
    ap (λ b. nat_lt 32768 (length w.whole) || b) (above_limit (length w.fraction) h)
    ∙ or-true (nat_lt 32768 (length w.whole))

few_is : (w : Numeral) → ¬ IsBeyondLimits w → is_beyond_limits w ≡ false
few_is w none = λ i.
    within_limit (length w.whole) (λ h. none (inl h)) i || within_limit (length w.fraction) (λ h. none (inr h)) i

abbrev value_by : Numeral → Bool → Result Decimal ParseError
value_by w b = if b then Err Limit else Ok (record { sign = w.sign; absolute = value_of w })

-- the digits of a value have this value
pub digits_value : (v : Decimal) (w : Numeral) → HasDigits v w → numeral_value w ≡ Ok v
digits_value v w has =
    ap (value_by w) (few_is w has.few) ∙ (λ i. Ok (record { sign = sym has.sign i; absolute = sym has.absolute i }))

module _ (inline : ℕ) (s : Symbols) (readable : IsReadable s) (front : List ℕ) where
  has_digits : (v : Decimal) → IsValue v.absolute → IsWritten s v front → (w : Numeral) → IsNumeral s front w
      → HasDigits v w
  has_digits v valid written w n =
      let texts = texts_by true s readable front in
      let t = texts.reads v valid written in
      subst (HasDigits v) (texts.unique t.0 w t.1 n) t.2

  pub numeral_ok : (w : Numeral) → IsNumeral s front w → (v : Decimal)
      → IsRead inline (IsNumeral s front) (λ v. IsWritten s v front) (Ok v) → numeral_value w ≡ Ok v
  numeral_ok w n v is = digits_value v w (has_digits v is.found.0 is.found.1 w n)

  -- what is read of a numeral is its value
  pub numeral_read : (w : Numeral) → IsNumeral s front w → (r : Result Decimal ParseError)
      → IsRead inline (IsNumeral s front) (λ v. IsWritten s v front) r → IsValueOrMemory inline w (numeral_value w) r
  numeral_read w n (Ok v) is = inl (sym (numeral_ok w n v is))
  numeral_read w n (Err Syntax) is = absurd (is.syntax.0 refl w n)
  numeral_read w n (Err Limit) is =
      let x = is.limit.0 refl in
      let same = (texts_by true s readable front).unique x.0 w x.1 n in
      inl (ap (value_by w) (sym (beyond_is w (subst IsBeyondLimits same x.2))))
  numeral_read w n (Err Memory) is =
      let x = is.memory refl in
      let has = has_digits x.0 x.1 x.2 w n in
      inr (refl, subst (λ (a : Unsigned). inline < size a.number) has.absolute x.3)

  -- what is read is a numeral
  pub numeral_found : (r : Result Decimal ParseError)
      → IsRead inline (IsNumeral s front) (λ v. IsWritten s v front) r → r ≢ Err Syntax
      → (w : Numeral) × IsNumeral s front w
  numeral_found (Ok v) is other =
      let t = (texts_by true s readable front).reads v is.found.0 is.found.1 in (t.0, t.1)
  numeral_found (Err Syntax) is other = absurd (other refl)
  numeral_found (Err Limit) is other = let x = is.limit.0 refl in (x.0, x.1)
  numeral_found (Err Memory) is other =
      let x = is.memory refl in
      let t = (texts_by true s readable front).reads x.0 x.1 x.2 in (t.0, t.1)

  -- ---- A text that was split.

  module _ (f : ExponentForm) (bytes : List ℕ) (number : ℤ) (split : IsSplit s f bytes front number) where
    abbrev with_exponent : Numeral → ScientificNumeral
    with_exponent w = record { significand = w; sign = split.sign; exponent = split.digits }

    is_scientific : (w : Numeral) → IsNumeral s front w → IsScientificNumeral s f bytes (with_exponent w)
    is_scientific w n = record {
      front = front;
      back = split.back;
      text = split.text;
      significand = n;
      unsigned = no_sign_shown s readable front w split.begins n;
      exponent = split.exponent;
      notation = split.notation w n;
    }

    -- its significand was read
    pub split_parts : (v : Decimal) → IsRead inline (IsNumeral s front) (λ v. IsWritten s v front) (Ok v)
        → HasParts s f bytes v number
    split_parts v read =
        let x = numeral_found (Ok v) read (λ e. absurd (cc)) in record {
          valid = read.found.0;
          numeral = with_exponent x.0;
          text = is_scientific x.0 x.1;
          significand_is = numeral_ok x.0 x.1 v read;
          exponent_is = split.number_is;
        }

    -- its significand was not read
    pub split_error : (e : ParseError)
        → ((w : ScientificNumeral) → IsScientificNumeral s f bytes w → IsNumeral s front w.significand)
        → IsRead inline (IsNumeral s front) (λ v. IsWritten s v front) (Err e)
        → IsReadScientific inline s f bytes (Err e)
    split_error e unique read = record {
      found = λ other.
          let x = numeral_found (Err e) read other in (with_exponent x.0, is_scientific x.0 x.1);
      value = λ w n. elim (numeral_read w.significand (unique w n) (Err e) read) [
        | inl same ↦ inl (ap (shifted (exponent_of w)) same)
        | inr memory ↦ inr memory
      ];
    }
