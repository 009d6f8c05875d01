use Rattle.std.proofs.Common.{arith}
use Rattle.decimal_format.proofs.lemmas.reader.Scans.{run_none, run_push}
use Rattle.decimal_format.proofs.symbols.DecimalSymbols.read_run.Goals as goal

pub loop-count-init : goal.loop-count-init
loop-count-init g c = record { at_most = omega arith; read = run_none c.args.self.now (g.T.Input.bytes c.args.text) }

pub loop-count-preserved : goal.loop-count-preserved
loop-count-preserved g c = grind (arith, run_push)
