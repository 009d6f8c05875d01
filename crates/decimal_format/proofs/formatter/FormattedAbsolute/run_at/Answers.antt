use Rattle.std.proofs.{Common.{◌≡◌, w16, to_z, of_z, sym, ◌∙◌, ap, arith}, lemmas.Int.ints}
use Rattle.std.specs.Prelude.{nat_abs, pos}
use Rattle.fixed_decimal.proofs.Calling.{narrow_kept}
use Rattle.decimal_format.specs.{Formatted.separator_before, Parts.magnitude_of, Scanning.separator_if}
use Rattle.decimal_format.proofs.lemmas.formatter.Parts.{integer_run, after_run}
use Rattle.decimal_format.proofs.formatter.FormattedAbsolute.run_at.Goals as goal

pub returns : goal.returns
returns g c =
    let f = c.args.self.now in
    let m = nat_abs (to_z w16 (of_z w16 c.magnitude-magnitude.result)) in
    let kept = narrow_kept {z = c.magnitude-magnitude.result} c.magnitude-magnitude.type_inv in
    let is : magnitude_of f c.args.below ≡ pos m =
    omega (arith, ints, kept, c.magnitude-magnitude.ensures.value, c.if-magnitude-lt0.false) in
    let sizes : c.sizes.result ≡ f.symbols.sizes = cc in
    let strategy : c.self.inside.strategy ≡ f.strategy = cc in
    let symbols : c.self.inside.symbols.now ≡ f.symbols = cc in
    let value : c.self.inside.value.now ≡ f.value = cc in
    let hi =
    narrow_kept {z = c.highest.result} c.highest.type_inv ∙ c.highest.ensures.value ∙ ap (λ v. v.hi) value in
    let run = rw (sizes, strategy, hi) at c.run_from-count.ensures in
    record {
      some = run.some;
      at_most = run.at_most;
      run = integer_run f c.args.below m c.run_from-count.result.0 is run.within run.none_between;
      before = ap (separator_before f.symbols) (sym is);
      after =
          c.grouping_if-after.ensures.value ∙ ap (λ s. separator_if s c.run_from-count.result.1) symbols
          ∙ after_run f c.args.below m c.run_from-count.result.0 c.run_from-count.result.1 is run.some run.within
          run.last;
    }
