use Rattle.std.proofs.Common.{◌-◌, ◌≤◌, length}
use Rattle.fixed_decimal_c.specs.Lines.{AreConverted}
use Rattle.fixed_decimal_c.proofs.convert.Forms.convert_lines.Given as goal

-- the lines up to here are converted
abbrev pub invariant-loop-done : goal.invariant-loop-done
invariant-loop-done l = record {
  converted : AreConverted l.self l.calls l.skip l.input l.done l.fn.buffer l.buffer;
  lines_few : l.done.lines ≤ l.done.read;
  failed_few : l.done.failed ≤ l.done.lines;
}

abbrev pub decreases-loop-done : goal.decreases-loop-done
decreases-loop-done l = length l.input - l.done.read
