use Rattle.std.proofs.{Common.{◌≡◌, ℕ, length, replicate, arith}, lemmas.List.length-take}
use Rattle.fixed_decimal.proofs.Calling.{on_err}
use Rattle.decimal_format.proofs.lemmas.{formatter.Parts.{ascii_between, run_between, part_none, part_more, part_failed}, symbols.Rules.steps}
use Rattle.decimal_format.proofs.formatter.FormattedAbsolute.write_part.Goals as goal

pub loop-written-init : goal.loop-written-init
loop-written-init g c = record { within = omega arith; appended = part_none c.args.self.now c.args.below _ }

pub write_run-requires : goal.write_run-requires
write_run-requires g c = grind (steps, length-take, ascii_between)

pub returns-in_err-write_run-clause-err : goal.returns-in_err-write_run-clause-err
returns-in_err-write_run-clause-err g c =
    let f = c.args.self.now in
    let i = c.loop-written.written in
    let n = c.run_at-run.result.count in
    let bytes = c.copy_digits.new.buffer in
    let size : length bytes ≡ c.args.count =
    omega (arith, length-take {A = ℕ} c.args.count (replicate 32 48), c.copy_digits.auto.buffer) in
    let run = c.run_at-run.ensures in
    on_err c.from_residual.result _
    (part_failed f c.args.below i n c.args.count (omega (arith, run.at_most)) _ _ _ _
    (run_between f c.args.below i n bytes _ _ run.some (omega (arith, size, run.at_most)) c.copy_digits.ensures run.run
    run.before run.after) c.loop-written.invariant.appended c.in_err-write_run.ensures.err)

pub loop-written-preserved : goal.loop-written-preserved
loop-written-preserved g c = grind (arith, length-take, part_more, run_between)
