use Rattle.std.proofs.Common.{inl, inr, refl}
use Rattle.fixed_decimal_c.proofs.forms.skeleton_reader.Goals as goal

pub returns-in-Ok-clause-ok : goal.returns-in-Ok-clause-ok
returns-in-Ok-clause-ok c =
    let (is, can) = c.in-Ok.ensures.ok in
    ((c.in_ok-formatter.formatter, c.in_ok-formatter.ensures.ok, can, is), c.in-Some.ensures.some)

pub returns-in_default-clause-err : goal.returns-in_default-clause-err
returns-in_default-clause-err c =
    inr (c.in_ok-formatter.formatter, c.in_ok-formatter.ensures.ok, inl (refl, c.in_default.ensures.none))

pub returns-in-Err-clause-err : goal.returns-in-Err-clause-err
returns-in-Err-clause-err c =
    inr (
      c.in_ok-formatter.formatter,
      c.in_ok-formatter.ensures.ok,
      inr (
        (c.in-Some.mode, c.in-Some.ensures.some),
        c.in-Err.ensures.err,
      ),
    )
