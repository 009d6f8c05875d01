use Rattle.std.proofs.Common.{◌+◌, ◌*◌, refl, arith}
use Rattle.number_format.proofs.lemmas.read.CompactPatterns.{all_of, numbers_again, HasNumberAt}
use Rattle.number_format.proofs.format.formatter.NumberFormatter.have_row_numbers.Goals as goal

pub returns-then-is_same_row : goal.returns-then-is_same_row
returns-then-is_same_row c =
    let same = c.is_same_row.ensures c.if-is_same_row.true in
    (λ t. numbers_again c.args.self.now c.args.style c.args.row same.0 same.1 c.requires.before, λ all. refl)

pub returns-then-not-has_number_at : goal.returns-then-not-has_number_at
returns-then-not-has_number_at c = (
  λ t. absurd (cc),
  λ all. absurd (
      let t = c.has_number_at.ensures.1 (λ i below. all i (omega (arith, below))) in cc (t, c.if-not-has_number_at.true)
      ),
)

pub loop-index-preserved : goal.loop-index-preserved
loop-index-preserved c = c.has_number_at.ensures.0 c.if-not-has_number_at.false

pub returns : goal.returns
returns c = (
  λ t. all_of (HasNumberAt c.args.self.now c.args.style) c.loop-index.index (c.args.row * 216 + 216) (omega arith)
      c.loop-index.invariant,
  λ all. refl,
)
