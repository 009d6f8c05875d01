use Rattle.std.proofs.Common.{[], ◌∷◌}
use Rattle.fixed_decimal.proofs.Calling.{on_err, prefix_more}
use Rattle.cli.proofs.plural.categories.write_category_line.Goals as goal

pub returns-in_err-put_bytes-clause-err : goal.returns-in_err-put_bytes-clause-err
returns-in_err-put_bytes-clause-err g c =
    rw (← c.name.ensures, ← c.as_bytes.ensures.value)
    (on_err c.from_residual.result _ (prefix_more _ _ _ (10 ∷ []) c.in_err-put_bytes.ensures.prefix))
