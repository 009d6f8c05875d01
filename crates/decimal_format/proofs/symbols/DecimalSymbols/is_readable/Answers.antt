use Rattle.std.proofs.Common.{◌≡◌, true, false, refl, sym, arith}
use Rattle.std.specs.Prelude.{IsTrue}
use borrow.Author.Count.{below_more}
use Rattle.decimal_format.specs.Readable.{IsApart}
use Rattle.decimal_format.proofs.symbols.DecimalSymbols.is_readable.Goals as goal

pub returns-then-not-is_apart : goal.returns-then-not-is_apart
returns-then-not-is_apart c = (
  λ t. absurd (let n : true ≡ false = sym t in cc),
  λ readable.
      let t : IsTrue c.is_apart.result =
      c.is_apart.ensures.1 (readable.apart c.loop-part.part (omega (arith, c.loop-part-test.true))) in
      absurd (cc (t, c.if-not-is_apart.true)),
)

pub loop-part-preserved : goal.loop-part-preserved
loop-part-preserved c =
    let t : IsTrue c.is_apart.result = cc (c.if-not-is_apart.false) in
    below_more (IsApart c.args.self.now) c.loop-part.part c.loop-part.invariant (c.is_apart.ensures.0 t)

pub returns : goal.returns
returns c = (
  λ t. record { apart = λ k h. c.loop-part.invariant k (omega (arith, h, c.loop-part-test.false)) },
  λ readable. refl,
)
