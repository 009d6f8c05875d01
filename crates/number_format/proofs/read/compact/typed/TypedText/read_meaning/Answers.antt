use Rattle.std.proofs.{Common.{◌≢◌, arith}, lemmas.Bool.Decides.nat_tests}
use Rattle.number_format.specs.TypedWords.{typing}
use Rattle.number_format.proofs.lemmas.read.TypedTexts.{by_word}
use Rattle.number_format.proofs.read.compact.typed.TypedText.read_meaning.Goals as goal

pub returns : goal.returns
returns g c =
    let some : c.args.index ≢ 0 = λ e. absurd (let f = c.if-index-eq0.false in grind (arith, nat_tests)) in
    let t = typing g.D.DigitStore.L c.args.self.now in
    by_word t c.args.index c.read_without_word.result some c.read_without_word.ensures
