use Rattle.std.proofs.{Common.{inl, inr, refl, sym, subst, arith}, lemmas.Bool.cases_eq}
use Rattle.std.specs.Prelude.{IsTrue}
use Rattle.decimal_format.specs.Readable.{code}
use Rattle.number_format.specs.ScientificReading.{AreApart}
use Rattle.number_format.proofs.read.scientific.apart.is_separator_apart.Goals as goal

pub returns-then-not-is_code_apart : goal.returns-then-not-is_code_apart
returns-then-not-is_code_apart c = (
  λ t. absurd (cc),
  λ apart.
      let t : IsTrue c.is_code_apart.result =
      c.is_code_apart.ensures.1 (apart c.loop-index.index c.loop-index-test.true) in
      absurd (cc (t, c.if-not-is_code_apart.true)),
)

pub loop-index-preserved : goal.loop-index-preserved
loop-index-preserved c = λ k below. elim (cases_eq k c.loop-index.index) [
  | inl e ↦
      subst (λ j. AreApart c.args.separator.now (code c.args.symbols.now j)) (sym e)
      (c.is_code_apart.ensures.0 c.if-not-is_code_apart.false)
  | inr other ↦ c.loop-index.invariant k (omega (arith, below, other))
]

pub returns : goal.returns
returns c = (λ t k below. c.loop-index.invariant k (omega (arith, below, c.loop-index-test.false)), λ apart. refl)
