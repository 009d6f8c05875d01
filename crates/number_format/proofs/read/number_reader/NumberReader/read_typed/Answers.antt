use Rattle.std.proofs.Common.{sym, ◌∙◌, ap, subst}
use Rattle.std.specs.Prelude.{Option, IfSome}
use Rattle.number_format.specs.{declared.read.scientific.ExponentForm.ExponentForm, NumberReading.{NumberReader, IsTypedBy}, ScientificReading.IsSeparatorApart}
use Rattle.number_format.proofs.read.number_reader.NumberReader.read_typed.Goals as goal

pub read_lenient_with_exponent-requires : goal.read_lenient_with_exponent-requires
read_lenient_with_exponent-requires g c =
    subst (λ (x : Option ExponentForm). IfSome x (λ f. IsSeparatorApart c.self.inside.reader.symbols f.separator.now))
    c.in-Some.is c.self.invariant.1

pub returns-in-Some : goal.returns-in-Some
returns-in-Some g c =
    let result = c.read_lenient_with_exponent.result in
    let all = c.args.alternatives.now in
    let text = c.args.text.now in
    subst (λ (r : NumberReader). IsTypedBy g.D.DigitStore.L r.units r.texts r.exponent r.words all text result)
    c.self.view_is
    (subst (λ (x : Option ExponentForm). IsTypedBy g.D.DigitStore.L c.self.inside.units c.self.inside.reader x
    c.self.inside.words all text result)
    (sym c.in-Some.is) c.read_lenient_with_exponent.ensures)

pub returns-in-None : goal.returns-in-None
returns-in-None g c =
    let r = c.args.self.now in
    let all = c.args.alternatives.now in
    let text = c.args.text.now in
    let none = ap (λ (x : NumberReader). x.exponent) (sym c.self.view_is) ∙ c.in-None.is in
    subst (λ (x : Option ExponentForm). IsTypedBy g.D.DigitStore.L r.units r.texts x r.words all text
    c.read_typed_words.result)
    (sym none) c.read_typed_words.ensures
