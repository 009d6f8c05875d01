-- Texts of numbers with an exponent: a significand, a separator and an exponent.
use Rattle.std.proofs.{Common.{◌≡◌, ℕ, ◌-◌, inl, inr, List, ◌++◌, length, take, sym, ◌∙◌, ap, subst, arith, append_assoc, append-nil, length-append}, Math.Seq.take-append_seam}
use Rattle.fixed_decimal.specs.declared.variations.Sign.{TheVariants.None}
use Rattle.decimal_format.specs.{Symbols.{Symbols, sign_affixes}, Readable.{IsReadable, BeginsWithDigit}, Reading.{Numeral, IsNumeral, digits_text, fraction_text, absolute_numeral_text, separated_by}}
use Rattle.decimal_format.proofs.lemmas.reader.{Around.no_sign, Codes.meet, Scans.{number_begins}}
use Rattle.number_format.specs.{declared.read.scientific.{ExponentForm.ExponentForm, scan.Scan.Scan}, ScientificReading.{IsSeparatorApart, ScientificNumeral, IsScientificNumeral, HasNumbers, EndsNumber, IsScan}}

-- what precedes the rest of a text
pub front_is : (all front rest : List ℕ) → all ≡ front ++ rest → take (length all - length rest) all ≡ front
front_is all front rest e =
    let size : length all - length rest ≡ length front = omega (arith, ap length e, length-append front rest) in
    ap (λ n. take n all) size ∙ ap (take (length front)) e ∙ take-append_seam front rest

module _ (s : Symbols) where
  -- a text that begins with the separator begins with no digit and no other separator
  pub separator_ends : (separator tail : List ℕ) → IsSeparatorApart s separator → EndsNumber s (separator ++ tail)
  separator_ends separator tail apart k rest below e = elim (meet separator _ tail rest e) [
    | inl begins ↦ (apart k below).second begins
    | inr begins ↦ (apart k below).first begins
  ]

  -- a numeral without a sign
  pub unsigned : (front : List ℕ) (w : Numeral) (n : IsNumeral s front w) → w.sign ≡ None
      → front ≡ absolute_numeral_text s (separated_by s n.strategy (length w.whole)) w
  unsigned front w n none =
      let number = absolute_numeral_text s (separated_by s n.strategy (length w.whole)) w in
      n.text ∙ ap (λ z. (sign_affixes s z).prefix ++ (number ++ (sign_affixes s z).suffix)) none ∙ append-nil number

  pub unsigned_begins : (front : List ℕ) (w : Numeral) → IsNumeral s front w → w.sign ≡ None → BeginsWithDigit s front
  unsigned_begins front w n none =
      subst (BeginsWithDigit s) (sym (unsigned front w n none))
      (number_begins s (separated_by s n.strategy (length w.whole)) w n.digits)

  -- a numeral that begins with a digit has no sign
  pub no_sign_shown : IsReadable s → (front : List ℕ) (w : Numeral) → BeginsWithDigit s front → IsNumeral s front w
      → w.sign ≡ None
  no_sign_shown readable front w begins n =
      no_sign s readable w.sign front
      (absolute_numeral_text s (separated_by s n.strategy (length w.whole)) w ++ (sign_affixes s w.sign).suffix) begins
      n.text

  module _ (bytes rest : List ℕ) (scan : Scan) (is : IsScan s bytes rest scan) where
    -- a numeral at the start of a text is scanned
    pub numeral_scanned : (front tail : List ℕ) (w : Numeral) → IsNumeral s front w → w.sign ≡ None
        → bytes ≡ front ++ tail → EndsNumber s tail → (rest ≡ tail) × HasNumbers scan w.whole w.fraction
    numeral_scanned front tail w n none e ends =
        let f = separated_by s n.strategy (length w.whole) in
        is.numeral f w.whole w.fraction tail n.digits.whole n.digits.fraction ends
        (e ∙ ap (λ l. l ++ tail) (unsigned front w n none)
        ∙ append_assoc (digits_text s f w.whole) (fraction_text s w.fraction) tail)

    -- the significand and what follows the separator
    pub scientific_scanned : (f : ExponentForm) → IsSeparatorApart s f.separator.now → (w : ScientificNumeral)
        (n : IsScientificNumeral s f bytes w)
        → (rest ≡ f.separator.now ++ n.back) × (take (length bytes - length rest) bytes ≡ n.front)
        × HasNumbers scan w.significand.whole w.significand.fraction
    scientific_scanned f apart w n =
        let found = numeral_scanned n.front (f.separator.now ++ n.back) w.significand n.significand n.unsigned n.text
        (separator_ends f.separator.now n.back apart) in (
          found.0,
          front_is bytes n.front rest (n.text ∙ ap (λ l. n.front ++ l) (sym found.0)),
          found.1,
        )
