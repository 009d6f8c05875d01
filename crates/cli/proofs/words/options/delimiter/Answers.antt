use Rattle.std.proofs.{Common.{◌≡◌, codes, length, Some, rules, refl, ne_eqb}, lemmas.Str.chars_from_encodes}
use Rattle.std.specs.Str.{chars}
use Rattle.cli.specs.Parameters.{parameter_of}
use Rattle.cli.proofs.words.options.delimiter.Goals as goal
use Rattle.cli.proofs.words.options.delimiter.Goals.{After-count}

counted : (c : After-count) → c.count.result ≡ length (chars c.in_ok-text.text.now)
counted c = search (rules, chars_from_encodes)

found : (c : After-count) → Some c.in_ok-text.text.now ≡ parameter_of (codes "delimiter") c.args.word.now
found c = rw c.in_ok-text.was at c.parameter_of.ensures

pub returns-then-count-ne1 : goal.returns-then-count-ne1
returns-then-count-ne1 c =
    let at = (goal.at.returns-then-count-ne1 c).After-count in
    rw (← found at, ← counted at, ne_eqb _ 1 c.if-count-ne1.true) refl

pub returns : goal.returns
returns c =
    let at = (goal.at.returns c).After-count in
    rw (← found at, ← counted at, c.if-count-ne1.false, c.as_bytes.ensures.value) refl
