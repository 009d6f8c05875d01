use Rattle.std.proofs.Common.{None, sym, ◌∙◌, ap, subst}
use Rattle.std.specs.Prelude.{Option}
use Rattle.locale_data.specs.declared.compact.CompactStyle.{CompactStyle}
use Rattle.number_format.specs.{declared.format.formatter.NumberFormatter.NumberFormatter, NumberReading.{NumberReader, IsTypedBy}}
use Rattle.number_format.proofs.read.number_reader.NumberReader.read_typed_words.Goals as goal

pub returns-in-Some : goal.returns-in-Some
returns-in-Some g c =
    let result = c.read_lenient.result in
    let all = c.args.alternatives.now in
    let text = c.args.text.now in
    subst (λ (r : NumberReader). IsTypedBy g.D.DigitStore.L r.units r.texts None r.words all text result) c.self.view_is
    (subst (λ (x : Option (NumberFormatter × CompactStyle)). IsTypedBy g.D.DigitStore.L c.self.inside.units
    c.self.inside.reader None x all text result)
    (sym c.in-Some.is) c.read_lenient.ensures)

pub returns-in-None : goal.returns-in-None
returns-in-None g c =
    let r = c.args.self.now in
    let none = ap (λ (x : NumberReader). x.words) (sym c.self.view_is) ∙ c.in-None.is in
    subst (λ (x : Option (NumberFormatter × CompactStyle)). IsTypedBy g.D.DigitStore.L r.units r.texts None x
    c.args.alternatives.now c.args.text.now c.read_typed_standard.result)
    (sym none) c.read_typed_standard.ensures
