use Rattle.std.proofs.Common.{◌≡◌}
use Rattle.number_format.proofs.lemmas.read.ScientificAffixes.{none_shown}
use Rattle.number_format.proofs.read.affix_reader.AffixReader.read_shown_exponent.Goals as goal

pub returns-in_default : goal.returns-in_default
returns-in_default g c =
    let r = c.args.self.now in
    let symbols : c.self.inside.symbols ≡ r.symbols = cc in
    let patterns : c.as_slice.result.now ≡ r.patterns = cc in
    none_shown r c.args.form.now c.args.text.now g.D.DigitStore.L (rw (symbols, patterns) at c.in_default.ensures)
