use Rattle.std.proofs.Common.{Ok, Err, subst}
use Rattle.decimal_format.specs.{Reading.{IsNumeral, IsWritten, IsRead}}
use Rattle.number_format.specs.AffixedTexts.{Reader}
use Rattle.number_format.proofs.lemmas.read.AffixedNumbers.{IsReader, by_pattern, read_between}
use Rattle.number_format.proofs.read.affix_reader.AffixReader.read_by.Goals as goal

pub returns-in-Ok-clause-read : goal.returns-in-Ok-clause-read
returns-in-Ok-clause-read g c =
    let can : IsReader c.args.self.now = subst IsReader c.self.view_is c.self.invariant in
    let middle = c.args.middle.now in
    rw c.with_sign.ensures
    (read_between c.args.self.now c.args.text.now can.0 can.1 c.args.pattern.now middle c.requires
    g.D.DigitStore.L (Ok c.in-Ok.value)
    (subst (λ (x : Reader). IsRead g.D.DigitStore.L (IsNumeral x.symbols middle) (λ v. IsWritten x.symbols v middle)
    (Ok c.in-Ok.value)) c.self.view_is c.in-Ok.ensures))

pub returns-in-Ok-clause-by : goal.returns-in-Ok-clause-by
returns-in-Ok-clause-by g c =
    let can : IsReader c.args.self.now = subst IsReader c.self.view_is c.self.invariant in
    let read = returns-in-Ok-clause-read g c in
    by_pattern c.args.self.now c.args.text.now can.0 can.1 c.args.pattern.now c.args.middle.now c.requires _
    read.found.0 read.found.1

pub returns-in-Err-clause-read : goal.returns-in-Err-clause-read
returns-in-Err-clause-read g c =
    let can : IsReader c.args.self.now = subst IsReader c.self.view_is c.self.invariant in
    let middle = c.args.middle.now in
    read_between c.args.self.now c.args.text.now can.0 can.1 c.args.pattern.now middle c.requires g.D.DigitStore.L
    (Err c.in-Err.error)
    (subst (λ (x : Reader). IsRead g.D.DigitStore.L (IsNumeral x.symbols middle) (λ v. IsWritten x.symbols v middle)
    (Err c.in-Err.error)) c.self.view_is c.in-Err.ensures)
