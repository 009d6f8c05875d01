use Rattle.std.proofs.Common.{Ok, Err, refl}
use Rattle.fixed_decimal_c.specs.declared.error.FdError.TheVariants.{Formatter}
use Rattle.fixed_decimal_c.proofs.lemmas.formatter.Made.{by_skeleton}
use Rattle.fixed_decimal_c.proofs.formatter.formatter_by_skeleton.Goals as goal

pub returns-in-Some-clause-ok : goal.returns-in-Some-clause-ok
returns-in-Some-clause-ok c =
    by_skeleton c.args.tag.now c.args.skeleton.now c.in-Ok.kept (Ok c.in-Some.formatter)
    c.in-Ok.ensures c.in-Some.ensures.some

pub returns-in-None-clause-err : goal.returns-in-None-clause-err
returns-in-None-clause-err c =
    by_skeleton c.args.tag.now c.args.skeleton.now c.in-Ok.kept (Err Formatter)
    c.in-Ok.ensures (refl, c.in-None.ensures.none)

pub returns-in-Err-clause-err : goal.returns-in-Err-clause-err
returns-in-Err-clause-err c = c.in-Err.ensures
