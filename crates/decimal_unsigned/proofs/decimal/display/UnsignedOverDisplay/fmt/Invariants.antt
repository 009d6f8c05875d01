use Rattle.std.proofs.Common.{◌-◌, ◌≤◌, take}
use Rattle.std.specs.Fmt.{HasWrittenStyled, IsFlush}
use Rattle.decimal_unsigned.specs.Text.{text}
use Rattle.decimal_unsigned.proofs.decimal.display.UnsignedOverDisplay.fmt.Given as goal

abbrev pub invariant-loop-written : goal.invariant-loop-written
invariant-loop-written g l = record {
  within : l.written ≤ l.length;
  wrote : IsFlush l.initial.f
      → HasWrittenStyled g.W.Write.write_str_gives l.initial.f (take l.written (text l.self)) l.f;
}

abbrev pub decreases-loop-written : goal.decreases-loop-written
decreases-loop-written g l = l.length - l.written
