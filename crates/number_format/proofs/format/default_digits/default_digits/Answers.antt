use Rattle.std.proofs.Common.{refl, sym, subst, ◌∙◌, ap}
use Rattle.number_format.specs.{DefaultDigits.{is_compact, increment_by, IsDefaultPrecision}, Increments.is_increment}
use Rattle.number_format.proofs.lemmas.digits.DefaultsResolve.{default_is_increment, no_increment}
use Rattle.number_format.proofs.format.default_digits.default_digits.Goals as goal

pub default_precision-requires-clause-valid : goal.default_precision-requires-clause-valid
default_precision-requires-clause-valid c =
    let o = c.args.options.now in
    ap is_increment c.increment_by.ensures ∙ default_is_increment c.args.currency o.style (is_compact o.notation)

pub default_precision-requires-clause-compact : goal.default_precision-requires-clause-compact
default_precision-requires-clause-compact c compact =
    let o = c.args.options.now in
    c.increment_by.ensures
    ∙ ap (increment_by c.args.currency o.style) (sym c.digit_defaults_by-defaults.ensures.compact ∙ compact)
    ∙ no_increment c.args.currency o.style

pub returns : goal.returns
returns c =
    let d = c.digit_defaults_by-defaults.result in (
      sym c.shows_all_digits.ensures ∙ c.if-shows_all_digits.false,
      (
        d,
        c.digit_defaults_by-defaults.ensures,
        record {
          integer = refl;
          precision = subst (λ n. IsDefaultPrecision n d c.default_precision.result) c.increment_by.ensures
              c.default_precision.ensures;
          mode = refl;
          trailing_zeros = refl;
        },
      ),
    )
