-- The digits of exponents.
use Rattle.std.proofs.{Common.{◌≡◌, ℕ, ◌<◌, false, inl, inr, List, [], ◌∷◌, ◌++◌, length, get_or, refl, sym, ◌∙◌, ap, subst, arith, append-nil}, lemmas.Int.ints}
use Rattle.std.specs.{Prelude.{◌↔◌, IsTrue, Bool, unsigned_abs}, Int.Digits.{AllBelowBase, number_from_digits}}
use Rattle.fixed_decimal.specs.declared.variations.Sign.{Sign}
use Rattle.decimal_format.specs.{Symbols.{Symbols, digit_text, sign_affixes}, Readable.{IsReadable, BeginsWith, BeginsWithDigit}, Reading.digits_text}
use Rattle.decimal_format.proofs.lemmas.reader.{Codes.same_digit, DigitTexts.digits_text-first}
use Rattle.number_format.specs.{declared.{options.ExponentOptions.ExponentOptions, read.scientific.scan.Scan.Scan}, ScientificReading.{least_digits, HasLeastDigits, HasNumbers, IsPlain, IsScan, exponent_number, IsExponent}}

least_some : (o : ExponentOptions) → 0 < least_digits o
least_some o = omega arith

pub some_digits : (o : ExponentOptions) (ds : List ℕ) → HasLeastDigits (least_digits o) ds → 0 < length ds
some_digits o ds (inl e) = subst (λ n. 0 < n) (sym e) (least_some o)
some_digits o ds (inr more) = let least = least_some o in omega (arith, more.0, least)

-- the absolute value of an exponent is that of its digits
pub exponent_absolute : (sign : Sign) (ds : List ℕ)
    → unsigned_abs (exponent_number sign ds) ≡ number_from_digits 10 ds
exponent_absolute Sign.None ds = refl
exponent_absolute Sign.Positive ds = refl
exponent_absolute Sign.Negative ds = omega (arith, ints)

module _ (s : Symbols) where
  first-text : (d : ℕ) (ds : List ℕ)
      → digits_text s (λ _. false) (d ∷ ds) ≡ digit_text s d ++ digits_text s (λ _. false) ds
  first-text d ds =
      sym (append-nil (digits_text s (λ _. false) (d ∷ ds))) ∙ digits_text-first s (λ _. false) d ds []
      ∙ ap (λ l. digit_text s d ++ l) (append-nil (digits_text s (λ _. false) ds))

  pub digits_begin : (ds : List ℕ) → 0 < length ds → AllBelowBase 10 ds
      → BeginsWithDigit s (digits_text s (λ _. false) ds)
  digits_begin [] some all = absurd (omega (arith, some))
  digits_begin (d ∷ ds) some all = record {
    digit = d;
    following = digits_text s (λ _. false) ds;
    is_digit = all.0;
    is = first-text d ds;
  }

  -- the first digit is 0
  pub begins_with_zero : IsReadable s → (b : Bool) (text ds : List ℕ) → AllBelowBase 10 ds
      → text ≡ digits_text s (λ _. false) ds → IsTrue b ↔ BeginsWith text (digit_text s 0) → 0 < length ds
      → IsTrue b ↔ (get_or ds 0 0 ≡ 0)
  begins_with_zero readable b text [] all e test some = absurd (omega (arith, some))
  begins_with_zero readable b text (d ∷ ds) all e test some = (
    λ t. let begins = test.0 t in
        (same_digit s readable d 0 (digits_text s (λ _. false) ds) begins.0 all.0 (omega arith)
        (sym (first-text d ds) ∙ sym e ∙ begins.1)).0,
    λ zero. test.1 (
      digits_text s (λ _. false) ds,
      e ∙ first-text d ds ∙ ap (λ x. digit_text s x ++ digits_text s (λ _. false) ds) zero,
    ),
  )

-- the text of an exponent, after its sign and scanned
module _ (s : Symbols) (o : ExponentOptions) (text back rest : List ℕ) (shown : Sign) (scan : Scan)
    (one_sign : (sign : Sign) (rest : List ℕ) → BeginsWithDigit s rest
    → text ≡ (sign_affixes s sign).prefix ++ rest → (shown ≡ sign) × (back ≡ rest))
    (is : IsScan s back rest scan) (sign : Sign) (ds : List ℕ) (e : IsExponent s o text sign ds) where
  after_sign : (shown ≡ sign) × (back ≡ digits_text s (λ _. false) ds)
  after_sign =
      one_sign sign (digits_text s (λ _. false) ds) (digits_begin s ds (some_digits o ds e.least) e.digits) e.text

  pub exponent_scanned : (shown ≡ sign) × (back ≡ digits_text s (λ _. false) ds) × (rest ≡ []) × IsPlain scan
      × HasNumbers scan ds []
  exponent_scanned =
      let found = is.plain ds e.digits after_sign.1 in (after_sign.0, after_sign.1, found.0, found.1, found.2)
