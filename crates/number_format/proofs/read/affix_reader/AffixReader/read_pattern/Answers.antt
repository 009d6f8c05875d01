use Rattle.std.proofs.Common.{◌≡◌}
use Rattle.number_format.proofs.lemmas.read.AffixedNumbers.{none_between}
use Rattle.number_format.proofs.read.affix_reader.AffixReader.read_pattern.Goals as goal

pub returns-in_default-clause-err : goal.returns-in_default-clause-err
returns-in_default-clause-err g c =
    let r = c.args.self.now in
    let symbols : c.self.inside.symbols ≡ r.symbols = cc in
    let patterns : c.as_slice.result.now ≡ r.patterns = cc in
    none_between r c.args.text.now g.D.DigitStore.L (rw (symbols, patterns) at c.in_default.ensures)
