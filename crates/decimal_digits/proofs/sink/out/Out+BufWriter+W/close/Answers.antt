use Rattle.std.proofs.Common.{◌≡◌, drop, rules}
use Rattle.std.specs.Io.Buffered.{writer_buffer, writer_inner}
use Rattle.decimal_digits.proofs.lemmas.sink.Sinks.{moved}
use Rattle.decimal_digits.proofs.sink.out.Out+BufWriter+W.close.Goals as goal

pub returns-clause-prefix : goal.returns-clause-prefix
returns-clause-prefix g c =
    let left = c.as_slice.result.now in
    let is : left ≡ writer_buffer c.args.self.0 = search rules in
    let inner : c.into_parts-writer.result.0 ≡ writer_inner c.args.self.0 = search rules in
    rw c.new-in-Err.ensures (
      drop c.in-Err.error left,
      rw (← is, ← inner) (moved _ _ c.in-Err.error left c.in-Err.ensures.err),
    )
