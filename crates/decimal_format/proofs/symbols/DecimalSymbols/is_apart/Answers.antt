use Rattle.std.proofs.Common.{◌≡◌, true, false, refl, sym, arith}
use Rattle.std.specs.Prelude.{IsTrue}
use borrow.Author.Count.{below_more}
use Rattle.decimal_format.specs.Readable.{IsOther}
use Rattle.decimal_format.proofs.symbols.DecimalSymbols.is_apart.Goals as goal

pub returns-then-not-is_other : goal.returns-then-not-is_other
returns-then-not-is_other c = (
  λ t. absurd (let n : true ≡ false = sym t in cc),
  λ apart.
      let t : IsTrue c.is_other.result = c.is_other.ensures.1 (apart c.loop-all.all (omega (
        arith,
        c.loop-all-test.true,
      ))) in
      absurd (cc (t, c.if-not-is_other.true)),
)

pub loop-all-preserved : goal.loop-all-preserved
loop-all-preserved c =
    let t : IsTrue c.is_other.result = cc (c.if-not-is_other.false) in
    below_more (IsOther c.args.self.now c.args.part) c.loop-all.all c.loop-all.invariant (c.is_other.ensures.0 t)

pub returns : goal.returns
returns c = (λ t k h. c.loop-all.invariant k (omega (arith, h, c.loop-all-test.false)), λ apart. refl)
