use Rattle.std.proofs.Common.{subst, arith}
use Rattle.std.specs.Prelude.{◌↔◌, IsTrue}
use Rattle.number_format.specs.CompactReading.{HasNumberOr}
use Rattle.number_format.proofs.lemmas.read.CompactPatterns.{number_again, one_more, HasNumberAt}
use Rattle.number_format.proofs.format.formatter.NumberFormatter.has_number_at.Goals as goal

pub returns-then-repeats_in_row : goal.returns-then-repeats_in_row
returns-then-repeats_in_row c =
    let f = c.args.self.now in
    let style = c.args.style in
    let i = c.args.index in
    let again = number_again f style i i (omega arith) c.requires.before
    (c.repeats_in_row.ensures c.if-repeats_in_row.true) in
    (λ t. one_more (HasNumberAt f style) i c.requires.before again, λ all. c.if-repeats_in_row.true)

pub returns-else-repeats_in_row : goal.returns-else-repeats_in_row
returns-else-repeats_in_row c =
    let f = c.args.self.now in
    let style = c.args.style in
    let i = c.args.index in
    let test = subst (λ k. IsTrue c.has_number_or_meaning.result ↔ HasNumberOr f style k) c.key_at.ensures
    c.has_number_or_meaning.ensures in (
      λ t. one_more (HasNumberAt f style) i c.requires.before (test.0 t),
      λ all. test.1 (all i (omega arith)),
    )
