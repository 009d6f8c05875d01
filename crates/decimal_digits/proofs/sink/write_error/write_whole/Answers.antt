use Rattle.std.proofs.{Common.arith, lemmas.{Grind.common_steps, List.{length-drop, length-take}}}
use Rattle.decimal_digits.proofs.lemmas.sink.Sinks.{took_more}
use Rattle.decimal_digits.proofs.sink.write_error.write_whole.Goals as goal

pub loop-written-preserved : goal.loop-written-preserved
loop-written-preserved g c = grind (arith, length-take, length-drop, took_more, common_steps)
