use Rattle.std.proofs.{Common.arith, lemmas.Grind.common_steps}
use Rattle.decimal_digits.proofs.lemmas.{rounding.Results.on_err_of, sink.Sinks.{prefix_passed, none_passed}}
use Rattle.decimal_digits.proofs.sink.buffered_out.BufferedOut.put_after_block.Goals as goal

pub returns-then-bytes-capacity-clause-err : goal.returns-then-bytes-capacity-clause-err
returns-then-bytes-capacity-clause-err g c = grind (arith, on_err_of, prefix_passed, common_steps)

pub returns-then-bytes-capacity-clause-keeps : goal.returns-then-bytes-capacity-clause-keeps
returns-then-bytes-capacity-clause-keeps g c = grind (arith, on_err_of, none_passed, common_steps)
