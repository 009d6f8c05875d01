use Rattle.std.proofs.Common.{inl}
use Rattle.fixed_decimal_c.proofs.lemmas.formatter.Kept.{made_of}
use Rattle.fixed_decimal_c.proofs.formatter.FdFormatter.by_options.Goals as goal

pub returns-in-Ok : goal.returns-in-Ok
returns-in-Ok c =
    made_of c.of.result c.args.tag.now c.args.options.now c.in-Ok.options c.in-Ok.ensures.ok c.of.ensures.ok
    c.of.ensures.err

pub returns-in-Err : goal.returns-in-Err
returns-in-Err c = inl c.in-Err.ensures.err
