use Rattle.std.proofs.Common.{refl, arith}
use Rattle.number_format.specs.CompactReading.{key_at}
use Rattle.number_format.proofs.lemmas.read.CompactPatterns.{each_number}
use Rattle.number_format.proofs.format.formatter.NumberFormatter.has_word_numbers.Goals as goal

pub returns-then-not-have_row_numbers : goal.returns-then-not-have_row_numbers
returns-then-not-have_row_numbers c = (
  λ t. absurd (cc),
  λ has. absurd (
      let t = c.have_row_numbers.ensures.1 (λ i below. has (key_at i)) in cc (t, c.if-not-have_row_numbers.true)
      ),
)

pub loop-row-preserved : goal.loop-row-preserved
loop-row-preserved c = λ i below.
    c.have_row_numbers.ensures.0 c.if-not-have_row_numbers.false i (omega (arith, below))

pub returns : goal.returns
returns c =
    let each = each_number c.args.self.now c.args.style c.requires in
    (λ t. each.0 (λ i below. c.loop-row.invariant i (omega (arith, below))), λ has. refl)
