use Rattle.std.proofs.Common.{sym, ◌∙◌, ap, subst}
use Rattle.std.specs.Prelude.{Option, IfSome}
use Rattle.number_format.specs.{declared.read.scientific.ExponentForm.ExponentForm, NumberReading.{NumberReader, IsReadBy}, ScientificReading.IsSeparatorApart}
use Rattle.number_format.proofs.read.number_reader.NumberReader.read.Goals as goal

pub read_with_exponent-requires : goal.read_with_exponent-requires
read_with_exponent-requires g c =
    subst (λ (x : Option ExponentForm). IfSome x (λ f. IsSeparatorApart c.self.inside.reader.symbols f.separator.now))
    c.in-Some.is c.self.invariant.1

pub returns-in-Some : goal.returns-in-Some
returns-in-Some g c =
    let result = c.read_with_exponent.result in
    let text = c.args.text.now in
    subst (λ (r : NumberReader). IsReadBy g.D.DigitStore.L r.units r.texts r.exponent r.words text result)
    c.self.view_is
    (subst (λ (x : Option ExponentForm). IsReadBy g.D.DigitStore.L c.self.inside.units c.self.inside.reader x
    c.self.inside.words text result)
    (sym c.in-Some.is) c.read_with_exponent.ensures)

pub returns-in-None : goal.returns-in-None
returns-in-None g c =
    let r = c.args.self.now in
    let text = c.args.text.now in
    let none = ap (λ (x : NumberReader). x.exponent) (sym c.self.view_is) ∙ c.in-None.is in
    subst (λ (x : Option ExponentForm). IsReadBy g.D.DigitStore.L r.units r.texts x r.words text
    c.read_words.result)
    (sym none) c.read_words.ensures
