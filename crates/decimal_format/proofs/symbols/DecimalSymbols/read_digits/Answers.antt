use Rattle.std.proofs.Common.{[], ◌++◌, arith}
use Rattle.decimal_format.proofs.lemmas.reader.Scans.{none_after_last, read_none, read_run, read_all, read_last, read_fails}
use Rattle.decimal_format.proofs.symbols.DecimalSymbols.read_digits.Goals as goal

pub loop-left-init : goal.loop-left-init
loop-left-init g c = ([], read_none)

pub loop-left-preserved : goal.loop-left-preserved
loop-left-preserved g c =
    let group = rw c.sizes.ensures at c.run_to_end-most.ensures in
    let run = c.read_run-found.ensures in (
      c.loop-left.invariant.0 ++ run.digits,
      read_run c.loop-left.invariant.1 run c.skip_separator-separated.ensures group.some c.if-found-most.false
          (omega (arith, group.within, c.loop-left-test.true)) group.none_between group.last,
    )

pub returns-then-found-most-clause-none : goal.returns-then-found-most-clause-none
returns-then-found-most-clause-none g c = λ chosen ds tail size below e.
    let group = rw c.sizes.ensures at c.run_to_end-most.ensures in
    read_fails c.loop-left.invariant.1 c.requires (none_after_last c.args.self.now) chosen ds tail size below e
    c.read_run-found.ensures c.if-found-most.true (omega (arith, group.within, c.loop-left-test.true))
    group.none_between

pub returns-clause-found : goal.returns-clause-found
returns-clause-found g c = read_all c.loop-left.invariant.1 (omega (arith, c.loop-left-test.false))

pub returns-clause-unique : goal.returns-clause-unique
returns-clause-unique g c = λ chosen ds tail size below e.
    read_last c.loop-left.invariant.1 c.requires (none_after_last c.args.self.now) chosen ds tail size below e
    (omega (arith, c.loop-left-test.false))
