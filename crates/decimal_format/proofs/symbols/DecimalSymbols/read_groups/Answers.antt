use Rattle.std.proofs.Common.{◌≡◌, true, false, subst, sym, ◌∙◌}
use Rattle.decimal_format.specs.Reading.{Numeral, IsNumeral}
use Rattle.decimal_format.proofs.{lemmas.reader.NumeralLaws.{texts_by, lenient-unique, numeral_is_lenient, numeral_by_is_lenient, numeral_by, none_by, nothing_read, value_read}, symbols.DecimalSymbols.read_groups.Goals.{else-is_strict-via-then-is_strict+else-not-scanned, else-is_strict-via-else-is_strict}}
use Rattle.decimal_format.proofs.symbols.DecimalSymbols.read_groups.Goals as goal

-- the text is that of no digits, wherever the separators are
pub returns-in_default : goal.returns-in_default
returns-in_default g c =
    let s = c.args.self.now in
    let text = g.T.Input.bytes c.args.text in
    let strict = c.args.is_strict in
    nothing_read (texts_by strict s c.requires text) g.D.DigitStore.L
    (λ w numeral. c.in_default.ensures.none w (numeral_by_is_lenient strict s text w numeral))

-- separators are at some of the ends of groups
pub returns-then-not-scanned : goal.returns-then-not-scanned
returns-then-not-scanned g c =
    let s = c.args.self.now in
    let text = g.T.Input.bytes c.args.text in
    let strict = c.args.is_strict in
    let found = c.in-Some.ensures.found in
    let none = λ (w : Numeral) (numeral : IsNumeral s text w).
    let same = lenient-unique s c.requires text w found.0 (numeral_is_lenient s text w numeral) found.1.numeral in
    let t : c.in-Some.scanned.is_strict ≡ true = found.1.strict.1 (subst (IsNumeral s text) same numeral) in
    let n : true ≡ false = sym t ∙ c.if-not-scanned.true in let no : ⊥ = cc in no in
    nothing_read (texts_by strict s c.requires text) g.D.DigitStore.L (none_by strict s text c.if-is_strict.true none)

pub returns : goal.returns
returns g c =
    let s = c.args.self.now in
    let text = g.T.Input.bytes c.args.text in
    let strict = c.args.is_strict in
    let found = c.in-Some.ensures.found in
    let numeral = numeral_by strict c.in-Some.scanned.is_strict s text found.0 found.1.numeral found.1.strict.0
    (λ asked. elim c.else-is_strict.branch [
      | else-is_strict-via-then-is_strict+else-not-scanned w ↦ w.if-not-scanned.false
      | else-is_strict-via-else-is_strict w ↦
          let t : true ≡ false = sym asked ∙ w.if-is_strict.false in absurd (cc)
    ]) in
    value_read (texts_by strict s c.requires text) g.D.DigitStore.L found.0 numeral c.value.result
    (c.value.ensures text found.0 found.1)
