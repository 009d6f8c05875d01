use Rattle.std.proofs.KnownBytes.{Keeps-refl}
use Rattle.std.specs.Io.KnownBytes.{Keeps}
use Rattle.decimal_digits.proofs.sink.buffered_out.BufferedOut.close.Goals.{then-is_some-via-then-is_some, then-is_some-via-else-is_some+then-is_err}
use Rattle.decimal_digits.specs.Buffered.{buffered_contents}
use Rattle.decimal_digits.proofs.sink.buffered_out.BufferedOut.close.Goals as goal

pub returns-then-is_some-clause-prefix : goal.returns-then-is_some-clause-prefix
returns-then-is_some-clause-prefix g c =
    let kept : Keeps (buffered_contents g.W.Write.contents c.args.self)
    (buffered_contents g.W.Write.contents c.then-is_some.self) =
    elim c.then-is_some.branch [
      | then-is_some-via-then-is_some w ↦ rw w.self-is (Keeps-refl _)
      | then-is_some-via-else-is_some+then-is_err w ↦ rw w.self-is w.write_block.ensures.keeps
    ] in rw c.abandon.ensures (c.then-is_some.self.block, kept)
