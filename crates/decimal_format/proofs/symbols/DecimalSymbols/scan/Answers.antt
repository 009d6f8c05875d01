use Rattle.std.proofs.Common.{◌≡◌, ℕ, ◌-◌, ◌^◌, ◌<◌, true, List, ◌++◌, length, refl, sym, ◌∙◌, ap, subst, arith}
use Rattle.std.specs.Prelude.{◌↔◌}
use Rattle.fixed_decimal.specs.declared.variations.Sign.{Sign}
use Rattle.decimal_format.specs.{Symbols.{Symbols, sign_affixes}, Grouping.ends_group, Lenient.{separated_at, IsLenientNumeral}, Readable.{IsReadable, BeginsWithDigit}, Reading.{Numeral, AreDigits, absolute_numeral_text, digits_text}, Scanning.{HasBcd, IsSpelled, ReadsSpelled, IsUniform}}
use Rattle.decimal_format.proofs.lemmas.reader.{Codes.none_not_digit, NumeralLaws.numeral_if_uniform, Scans.{number_begins, whole_bcd, spelled_whole}}
use Rattle.decimal_format.proofs.symbols.DecimalSymbols.scan.Goals as goal

pub returns-in_err-sign-clause-none : goal.returns-in_err-sign-clause-none
returns-in_err-sign-clause-none g c = grind (arith, number_begins)

pub returns-then-is_empty-clause-none : goal.returns-then-is_empty-clause-none
returns-then-is_empty-clause-none g c = grind (arith, number_begins, none_not_digit)

-- a numeral of the text has the digits that were read
counted : {s : Symbols} {text digits rest : List ℕ} {n k : ℕ} {sign : Sign} → IsReadable s → length digits < 2 ^ 64
    → ((ds : List ℕ) → IsSpelled s digits ds → ReadsSpelled s (2 ^ 64 - 1) rest n k ds)
    → ((x : Sign) (number : List ℕ) → BeginsWithDigit s number
    → text ≡ (sign_affixes s x).prefix ++ (number ++ (sign_affixes s x).suffix) → (sign ≡ x) × (digits ≡ number))
    → (w : Numeral) (numeral : IsLenientNumeral s text w)
    → (digits ≡ absolute_numeral_text s (separated_at s numeral.chosen) w) × HasBcd n k w.whole
counted {s = s} readable few read unique w numeral =
    let f = separated_at s numeral.chosen in
    let number = (unique w.sign _ (number_begins s f w numeral.digits) numeral.text).1 in
    (number, whole_bcd s readable f w _ _ _ _ numeral.digits number few read)

pub returns-then-count-eq0-clause-none : goal.returns-then-count-eq0-clause-none
returns-then-count-eq0-clause-none g c = λ w numeral.
    let read = counted c.requires c.if-is_empty.ensures.at_most c.read_separated-number.ensures
    c.in_ok-sign.ensures.unique w numeral in
    omega (arith, read.1.count, numeral.digits.some, c.if-count-eq0.true)

pub returns-in_err-is_strict-clause-none : goal.returns-in_err-is_strict-clause-none
returns-in_err-is_strict-clause-none g c = rw c.from_residual-in_err-is_strict.ensures (λ w numeral.
    let read = counted c.requires c.if-is_empty.ensures.at_most c.read_separated-number.ensures
    c.in_ok-sign.ensures.unique w numeral in
    c.in_err-is_strict.ensures.none numeral.chosen w.whole _ read.1.count numeral.digits.whole read.0)

pub returns-in_err-fraction-clause-none : goal.returns-in_err-fraction-clause-none
returns-in_err-fraction-clause-none g c = rw c.from_residual-in_err-fraction.ensures (λ w numeral.
    let read = counted c.requires c.if-is_empty.ensures.at_most c.read_separated-number.ensures
    c.in_ok-sign.ensures.unique w numeral in
    c.in_err-fraction.ensures.none w.fraction numeral.digits.fraction
    (c.in_ok-is_strict.ensures.unique numeral.chosen w.whole _ read.1.count numeral.digits.whole read.0))

pub returns-clause-found : goal.returns-clause-found
returns-clause-found g c =
    let s = c.args.self.now in
    let whole = c.in_ok-is_strict.ensures.found in
    let fraction = c.in_ok-fraction.ensures.found in
    let w : Numeral = record { sign = c.in_ok-sign.sign; whole = whole.digits; fraction = fraction.0 } in
    let f = separated_at s whole.chosen in
    let affixes = sign_affixes s c.in_ok-sign.sign in
    let some : 0 < length whole.digits = omega (arith, whole.count, c.if-count-eq0.false) in
    let digits : AreDigits w = record { some = some; whole = whole.are_digits; fraction = fraction.2.bcd.digits } in
    let number = whole.text ∙ ap (λ l. digits_text s f whole.digits ++ l) fraction.1 in
    let text = c.in_ok-sign.ensures.found ∙ ap (λ l. affixes.prefix ++ (l ++ affixes.suffix)) number in
    let strict = numeral_if_uniform s c.requires (g.T.Input.bytes c.args.text) w whole.chosen digits text in
    let uniform = subst (λ n. c.in_ok-is_strict.is_strict ≡ true ↔ IsUniform (ends_group s.sizes) whole.chosen n)
    (sym whole.count) whole.uniform in
    let bcd = whole_bcd s c.requires f w _ _ _ _ digits number c.if-is_empty.ensures.at_most
    c.read_separated-number.ensures in (
      w,
      record {
        numeral = record { digits = digits; chosen = whole.chosen; text = text };
        sign = refl;
        whole = record { spelled = spelled_whole s c.requires f w _ digits number; bcd = bcd };
        fraction = fraction.2;
        strict = (λ h. strict.0 (uniform.0 h), λ numeral. uniform.1 (strict.1 numeral));
      },
    )
