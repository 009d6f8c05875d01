use Rattle.std.proofs.{Common.{◌≡◌, length, true, false, inl, inr, refl, sym, ◌∙◌, rules}, lemmas.Result.err_from_is_err_and}
use Rattle.cli.specs.Headers.{has_index}
use Rattle.cli.proofs.lemmas.lines.HeaderNames.{inserted}
use Rattle.cli.proofs.lines.headers.Header.push_named.Goals as goal

pub returns-in_err-index-clause-err : goal.returns-in_err-index-clause-err
returns-in_err-index-clause-err c =
    let p = err_from_is_err_and c.from_residual.result c.from_residual.ensures.1 in
    rw (p.1, p.2) (λ other. inl (c.in_err-index.ensures.err other))

pub returns-then-has_index-clause-err : goal.returns-then-has_index-clause-err
returns-then-has_index-clause-err c =
    let again : has_index c.args.fields.now.items c.in_ok-index.index ≡ true =
    rw c.as_slice.ensures.value at (sym c.has_index.ensures ∙ c.if-has_index.true) in
    λ _. inr (c.in_ok-index.index, c.in_ok-index.ensures.ok, again, refl)

pub returns-clause-ok : goal.returns-clause-ok
returns-clause-ok c =
    let before = c.args.fields.now.items in
    let it = c.placed-placed.result in
    let rank : c.len.result ≡ length before = search rules in
    let new : has_index before c.in_ok-index.index ≡ false =
    rw c.as_slice.ensures.value at (sym c.has_index.ensures ∙ c.if-has_index.false) in (
      c.in_ok-index.index,
      it,
      c.in_ok-index.ensures.ok,
      new,
      rw rank at c.placed-placed.ensures,
      inserted before c.in_ok-index.index c.count_before-before.result it c.insert.new.self.items
          c.placed-placed.ensures.0 (rw c.as_slice-2.ensures.value at c.count_before-before.ensures.value)
          c.in_default.ensures.items,
    )
