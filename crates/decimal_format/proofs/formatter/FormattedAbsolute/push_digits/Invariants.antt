use Rattle.std.proofs.Common.{◌≡◌, ◌+◌, ◌*◌, ◌≤◌, ◌++◌, length}
use Rattle.decimal_format.proofs.lemmas.formatter.Magnitudes.{first_magnitudes}
use Rattle.decimal_format.proofs.formatter.FormattedAbsolute.push_digits.Given as goal

abbrev pub invariant-loop-below : goal.invariant-loop-below
invariant-loop-below g l = record {
  text : l.block
      ≡ (
        l.initial.block.0 ++ first_magnitudes l.self.symbols l.self.strategy l.self.value l.below,
        l.initial.block.1,
      );
  room : length l.block.0 ≤ length l.initial.block.0 + 8 * l.below;
}
