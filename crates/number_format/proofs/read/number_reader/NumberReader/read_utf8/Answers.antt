use Rattle.std.proofs.Common.{inl, sym, subst}
use Rattle.number_format.specs.NumberReading.{IsReadInMode, IsReadLeniently}
use Rattle.number_format.proofs.read.number_reader.NumberReader.read_utf8.Goals as goal

pub returns-in-Ok : goal.returns-in-Ok
returns-in-Ok g c =
    let self = c.args.self.now in
    let result = c.read_lenient.result in
    let text = c.in-Ok.ensures.cases in
    subst (λ mode. IsReadInMode g.D.DigitStore.L mode self c.args.text.now result) (sym c.in-Lenient.is)
    (inl (text.1, subst (λ t. IsReadLeniently g.D.DigitStore.L self t result) text.0 c.read_lenient.ensures))
