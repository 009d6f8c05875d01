use Rattle.std.proofs.{Common.{inl, inr, refl, ap, sym}, lemmas.Result.err_from_is_err_and}
use Rattle.cli.specs.{Columns.copied, Targets.IsNamed}
use Rattle.cli.proofs.words.targets.parse_target.Goals as goal

pub returns-in-Err-clause-err : goal.returns-in-Err-clause-err
returns-in-Err-clause-err c =
    let named : IsNamed (copied c.in-Some.column) c.split_fields.result.0.now c.new.result = (
      ap copied c.new.ensures.column,
      c.new.ensures.label,
      rw c.new.ensures.conversion c.in_ok-conversion.ensures.some,
    ) in
    rw (c.in-Some.is, ← c.split_fields.ensures.own, ← c.split_fields.ensures.others)
    (inr (sym c.in_default-only_index.ensures, (c.new.result, named, inl refl)))

pub returns-in_err-conversion-clause-err : goal.returns-in_err-conversion-clause-err
returns-in_err-conversion-clause-err c =
    let residual = c.from_residual-in_err-conversion in
    let p = err_from_is_err_and residual.result residual.ensures.1 in
    rw (p.1, p.2, c.in-Some.is, ← c.split_fields.ensures.own) (inl c.in_err-conversion.ensures.err)

pub returns-in_err-parse_more-clause-err : goal.returns-in_err-parse_more-clause-err
returns-in_err-parse_more-clause-err c =
    let named : IsNamed (copied c.in-Some.column) c.split_fields.result.0.now c.new.result = (
      ap copied c.new.ensures.column,
      c.new.ensures.label,
      rw c.new.ensures.conversion c.in_ok-conversion.ensures.some,
    ) in
    let residual = c.from_residual-in_err-parse_more in
    let p = err_from_is_err_and residual.result residual.ensures.1 in
    let fails =
    rw (c.in_default-push.ensures.items, c.new-fields.ensures.items) at c.in_err-parse_more.ensures.err in
    rw (p.1, p.2, c.in-Some.is, ← c.split_fields.ensures.own, ← c.split_fields.ensures.others)
    (inr (sym c.in_default-only_index.ensures, (c.new.result, named, inr fails)))

pub returns-clause-ok : goal.returns-clause-ok
returns-clause-ok c =
    let named : IsNamed (copied c.in-Some.column) c.split_fields.result.0.now c.new.result = (
      ap copied c.new.ensures.column,
      c.new.ensures.label,
      rw c.new.ensures.conversion c.in_ok-conversion.ensures.some,
    ) in
    let more =
    rw (c.in_default-push.ensures.items, c.new-fields.ensures.items) at c.in_ok-parse_more.ensures.ok in
    rw (c.in-Some.is, ← c.split_fields.ensures.own, ← c.split_fields.ensures.others, ← c.in_default-only_index.ensures)
    (refl, (c.new.result, named, more))
