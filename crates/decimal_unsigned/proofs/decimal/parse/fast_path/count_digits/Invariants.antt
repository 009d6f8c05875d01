use Rattle.std.proofs.Common.{◌*◌, ◌^◌}
use Rattle.decimal_unsigned.specs.PlainTexts.{IsReadTo}
use Rattle.decimal_unsigned.proofs.decimal.parse.fast_path.count_digits.Given as goal

abbrev pub invariant-loop-i : goal.invariant-loop-i
invariant-loop-i g l =
    IsReadTo (2 ^ (4 * g.W.BcdWord.digits)) (g.W.BcdWord.number l.fn.before) l.text l.i (g.W.BcdWord.number l.number)
