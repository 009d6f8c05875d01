use Rattle.std.proofs.{Common.{◌≡◌, false, true, ◌++◌, ◌%◌, length, nat_eq, sym, ◌∙◌, ap, subst, arith, append-nil, rules, to_z, of_z, FitsSigned, w32}, lemmas.Int.ints}
use Rattle.std.specs.Prelude.{IsTrue}
use Rattle.fixed_decimal.specs.declared.variations.Sign.{Sign}
use Rattle.decimal_format.specs.{Reading.digits_text, Symbols.sign_affixes}
use Rattle.number_format.specs.{NumberText.exponent_sign, ScientificReading.{capped_exponent, exponent_number}}
use Rattle.number_format.proofs.lemmas.read.{NamedAffixes.none_is, ScientificExponents.{begins_with_zero, exponent_scanned, exponent_absolute}}
use Rattle.number_format.proofs.read.scientific.exponent.read_exponent.Goals.{then-not-is_empty-via-then-not-is_empty, then-not-is_empty-via-else-not-is_empty+then-scan, then-not-is_empty-via-else-not-is_empty+else-scan+then-scan-2}
use Rattle.number_format.proofs.read.scientific.exponent.read_exponent.Goals as goal

pub returns-then-not-is_empty-clause-unique : goal.returns-then-not-is_empty-clause-unique
returns-then-not-is_empty-clause-unique c = λ sign ds e.
    let x = exponent_scanned c.args.symbols.now c.args.options c.args.text.now c.split_sign-sign.result.1.now
    c.scan_number.result.1.now c.split_sign-sign.result.0 c.scan_number.result.0 c.split_sign-sign.ensures.unique
    c.scan_number.ensures sign ds e in
    elim c.then-not-is_empty.branch [
      | then-not-is_empty-via-then-not-is_empty w ↦
          let t : c.is_empty.result ≡ true = c.is_empty.ensures ∙ ap (λ l. nat_eq (length l) 0) x.2 in
          absurd (cc (t, w.if-not-is_empty.true))
      | then-not-is_empty-via-else-not-is_empty+then-scan w ↦ let f = x.3.0 in absurd (cc (f, w.if-scan.true))
      | then-not-is_empty-via-else-not-is_empty+else-scan+then-scan-2 w ↦
          let f = x.3.1 in absurd (cc (f, w.if-scan-2.true))
    ]

pub returns-then-not-has_least_digits-clause-unique : goal.returns-then-not-has_least_digits-clause-unique
returns-then-not-has_least_digits-clause-unique c = λ sign ds e.
    let x = exponent_scanned c.args.symbols.now c.args.options c.args.text.now c.split_sign-sign.result.1.now
    c.scan_number.result.1.now c.split_sign-sign.result.0 c.scan_number.result.0 c.split_sign-sign.ensures.unique
    c.scan_number.ensures sign ds e in
    let t : IsTrue c.has_least_digits.result =
    (c.has_least_digits.ensures ds x.4.count (begins_with_zero c.args.symbols.now c.requires c.begins_with_zero.result
    c.split_sign-sign.result.1.now ds e.digits x.1 c.begins_with_zero.ensures)).1 e.least in
    absurd (cc (t, c.if-not-has_least_digits.true))

pub returns-then-not-has_sign-clause-unique : goal.returns-then-not-has_sign-clause-unique
returns-then-not-has_sign-clause-unique c = λ sign ds e.
    let x = exponent_scanned c.args.symbols.now c.args.options c.args.text.now c.split_sign-sign.result.1.now
    c.scan_number.result.1.now c.split_sign-sign.result.0 c.scan_number.result.0 c.split_sign-sign.ensures.unique
    c.scan_number.ensures sign ds e in
    let t : IsTrue c.has_sign.result =
    (c.has_sign.ensures ds x.4.whole).1
    (subst (λ (z : Sign). z ≡ exponent_sign c.args.options.sign (exponent_number z ds)) (sym x.0) e.sign_is) in
    absurd (cc (t, c.if-not-has_sign.true))

pub returns-clause-found : goal.returns-clause-found
returns-clause-found c =
    let sign = c.split_sign-sign.result.0 in
    let x = c.scan_number.ensures.digits (c.if-scan.false, c.if-scan-2.false) in
    let ds = x.0 in
    let none = none_is c.scan_number.result.1.now (sym c.is_empty.ensures ∙ c.if-not-is_empty.false) in
    let text : c.split_sign-sign.result.1.now ≡ digits_text c.args.symbols.now (λ _. false) ds =
    x.2 ∙ ap (λ l. digits_text c.args.symbols.now (λ _. false) ds ++ l) none ∙ append-nil _ in
    let fits : FitsSigned w32 c.signed.result = search rules in
    let same : to_z w32 (of_z w32 c.signed.result) ≡ c.signed.result = omega (arith, ints, fits) in (
      sign,
      ds,
      record {
        digits = x.1;
        least =
            (c.has_least_digits.ensures ds x.3.count (begins_with_zero c.args.symbols.now c.requires
            c.begins_with_zero.result c.split_sign-sign.result.1.now ds x.1 text c.begins_with_zero.ensures)).0
            c.if-not-has_least_digits.false;
        sign_is = (c.has_sign.ensures ds x.3.whole).0 c.if-not-has_sign.false;
        text =
            c.split_sign-sign.ensures.found
            ∙ ap (λ l. (sign_affixes c.args.symbols.now sign).prefix ++ l) text;
      },
      record {
        number = same ∙ c.signed.ensures ds x.3.whole;
        remainder = x.3.remainder ∙ sym (ap (λ n. n % 3) (exponent_absolute sign ds));
      },
    )

pub returns-clause-unique : goal.returns-clause-unique
returns-clause-unique c = λ sign ds e.
    let x = exponent_scanned c.args.symbols.now c.args.options c.args.text.now c.split_sign-sign.result.1.now
    c.scan_number.result.1.now c.split_sign-sign.result.0 c.scan_number.result.0 c.split_sign-sign.ensures.unique
    c.scan_number.ensures sign ds e in
    let fits : FitsSigned w32 c.signed.result = search rules in
    let same : to_z w32 (of_z w32 c.signed.result) ≡ c.signed.result = omega (arith, ints, fits) in
    record {
      number =
          same ∙ c.signed.ensures ds x.4.whole ∙ ap (λ (z : Sign). capped_exponent (exponent_number z ds)) x.0;
      remainder = x.4.remainder ∙ sym (ap (λ n. n % 3) (exponent_absolute sign ds));
    }
