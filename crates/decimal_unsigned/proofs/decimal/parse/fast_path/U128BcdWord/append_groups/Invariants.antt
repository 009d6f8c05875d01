use Rattle.std.proofs.Common.{◌≡◌, ◌-◌, ◌^◌, ◌≤◌, length, drop}
use Rattle.decimal_unsigned.specs.PlainTexts.{IsReadTo}
use Rattle.decimal_unsigned.proofs.decimal.parse.fast_path.U128BcdWord.append_groups.Given as goal

abbrev pub invariant-loop-bytes : goal.invariant-loop-bytes
invariant-loop-bytes l = record {
  size : length l.rest ≤ length l.text;
  rest : l.rest ≡ drop (length l.text - length l.rest) l.text;
  read : IsReadTo (2 ^ 128) l.fn.self l.text (length l.text - length l.rest) l.number;
}

abbrev pub decreases-loop-bytes : goal.decreases-loop-bytes
decreases-loop-bytes l = length l.rest
