use Rattle.std.proofs.{Common.{◌≡◌, ◌-◌, ◌++◌, List, ℕ, length, take, sym, ◌∙◌, ap, subst, arith, rules, to_z, of_z, FitsSigned, w32}, lemmas.{Int.ints, List.append_cancel_left}}
use Rattle.std.specs.Prelude.{IsTrue}
use Rattle.decimal_format.specs.{Readable.BeginsWithDigit, Reading.IsNumeral, Symbols.Symbols}
use Rattle.number_format.specs.{declared.read.scientific.ExponentForm.ExponentForm, ScientificReading.{EndsNumber, ScientificNumeral, IsScientificNumeral, IsExponent, exponent_number}}
use Rattle.number_format.proofs.lemmas.read.ScientificTexts.{front_is, separator_ends, unsigned_begins, no_sign_shown, numeral_scanned, scientific_scanned}
use Rattle.number_format.proofs.read.scientific.ExponentForm.split.Goals.{then-not-begins_with_digit-via-then-not-begins_with_digit, then-not-begins_with_digit-via-else-not-begins_with_digit+then-not-is_in_notation}
use Rattle.number_format.proofs.read.scientific.ExponentForm.split.Goals as goal

pub returns-in_err-text-clause-unique : goal.returns-in_err-text-clause-unique
returns-in_err-text-clause-unique c = λ w n.
    let x = scientific_scanned c.args.symbols.now c.args.body.now c.scan_number.result.1.now c.scan_number.result.0
    c.scan_number.ensures c.args.self.now c.requires.separator w n in
    absurd (c.in_err-text.ensures n.back (x.0 ∙ ap (λ l. l ++ n.back) (sym c.as_bytes.ensures.value)))

-- what follows the separator is the exponent
exponent_text : (s : Symbols) (f : ExponentForm) (bytes rest text separator : List ℕ) (w : ScientificNumeral)
    (n : IsScientificNumeral s f bytes w) → rest ≡ f.separator.now ++ n.back → rest ≡ separator ++ text
    → separator ≡ f.separator.now → IsExponent s f.options text w.sign w.exponent
exponent_text s f bytes rest text separator w n e cut is =
    let same : n.back ≡ text =
    append_cancel_left f.separator.now n.back text (sym e ∙ cut ∙ ap (λ l. l ++ text) is) in
    subst (λ l. IsExponent s f.options l w.sign w.exponent) same n.exponent

pub returns-in_err-exponent-clause-unique : goal.returns-in_err-exponent-clause-unique
returns-in_err-exponent-clause-unique c = λ w n.
    let x = scientific_scanned c.args.symbols.now c.args.body.now c.scan_number.result.1.now c.scan_number.result.0
    c.scan_number.ensures c.args.self.now c.requires.separator w n in
    absurd (c.in_err-exponent.ensures.unique w.sign w.exponent (exponent_text c.args.symbols.now c.args.self.now
    c.args.body.now c.scan_number.result.1.now c.in_ok-text.text.now c.as_bytes.result.now w n x.0 c.in_ok-text.ensures
    c.as_bytes.ensures.value))

pub returns-then-not-begins_with_digit-clause-unique : goal.returns-then-not-begins_with_digit-clause-unique
returns-then-not-begins_with_digit-clause-unique c = λ w n.
    let s = c.args.symbols.now in
    let x = scientific_scanned s c.args.body.now c.scan_number.result.1.now c.scan_number.result.0
    c.scan_number.ensures c.args.self.now c.requires.separator w n in
    let e = c.in_ok-exponent.ensures.unique w.sign w.exponent (exponent_text s c.args.self.now
    c.args.body.now c.scan_number.result.1.now c.in_ok-text.text.now c.as_bytes.result.now w n x.0 c.in_ok-text.ensures
    c.as_bytes.ensures.value) in
    elim c.then-not-begins_with_digit.branch [
      | then-not-begins_with_digit-via-then-not-begins_with_digit v ↦
          let t : IsTrue c.begins_with_digit.result =
          c.begins_with_digit.ensures.1
          (subst (BeginsWithDigit s) (sym x.1) (unsigned_begins s n.front w.significand n.significand n.unsigned)) in
          absurd (cc (t, v.if-not-begins_with_digit.true))
      | then-not-begins_with_digit-via-else-not-begins_with_digit+then-not-is_in_notation v ↦
          let t : IsTrue v.is_in_notation.result =
          (v.is_in_notation.ensures w.significand.whole w.significand.fraction (exponent_number w.sign w.exponent) x.2
          e).1 n.notation in
          absurd (cc (t, v.if-not-is_in_notation.true))
    ]

pub returns-clause-found : goal.returns-clause-found
returns-clause-found c =
    let s = c.args.symbols.now in
    let body = c.args.body.now in
    let rest = c.scan_number.result.1.now in
    let text = c.in_ok-text.text.now in
    let front = take (length body - length rest) body in
    let p = c.scan_number.ensures.split in
    let y = c.in_ok-exponent.ensures.found in
    let begins : BeginsWithDigit s front = c.begins_with_digit.ensures.0 c.if-not-begins_with_digit.false in
    let cut : rest ≡ c.args.self.now.separator.now ++ text =
    c.in_ok-text.ensures ∙ ap (λ l. l ++ text) c.as_bytes.ensures.value in
    let split : body ≡ front ++ rest = p.1 ∙ ap (λ l. l ++ rest) (sym (front_is body p.0 rest p.1)) in
    let ends : EndsNumber s rest =
    subst (EndsNumber s) (sym cut) (separator_ends s c.args.self.now.separator.now text c.requires.separator) in
    let fits : FitsSigned w32 c.in_ok-exponent.exponent.number = search rules in
    let same : to_z w32 (of_z w32 c.in_ok-exponent.exponent.number) ≡ c.in_ok-exponent.exponent.number =
    omega (arith, ints, fits) in record {
      sign = y.0;
      digits = y.1;
      back = text;
      text = split ∙ ap (λ l. front ++ l) cut;
      begins = begins;
      exponent = y.2;
      number_is = same ∙ y.3.number;
      notation = λ w n.
          let none = no_sign_shown s c.requires.readable front w begins n in
          let numbers = numeral_scanned s body rest c.scan_number.result.0 c.scan_number.ensures front rest w n none
          split ends in
          (c.is_in_notation.ensures w.whole w.fraction (exponent_number y.0 y.1) numbers.1 y.3).0
          c.if-not-is_in_notation.false;
    }

pub returns-clause-unique : goal.returns-clause-unique
returns-clause-unique c = λ w n.
    let s = c.args.symbols.now in
    let x = scientific_scanned s c.args.body.now c.scan_number.result.1.now c.scan_number.result.0
    c.scan_number.ensures c.args.self.now c.requires.separator w n in
    let e = c.in_ok-exponent.ensures.unique w.sign w.exponent (exponent_text s c.args.self.now
    c.args.body.now c.scan_number.result.1.now c.in_ok-text.text.now c.as_bytes.result.now w n x.0 c.in_ok-text.ensures
    c.as_bytes.ensures.value) in
    let fits : FitsSigned w32 c.in_ok-exponent.exponent.number = search rules in
    let same : to_z w32 (of_z w32 c.in_ok-exponent.exponent.number) ≡ c.in_ok-exponent.exponent.number =
    omega (arith, ints, fits) in
    (subst (λ l. IsNumeral s l w.significand) (sym x.1) n.significand, same ∙ e.number)
