use Rattle.std.proofs.Common.{rules, subst}
use Rattle.fixed_decimal_c.specs.{declared.styles.StyleCodes.StyleCodes, NumberOptions.style_codes_of, Styles.IsStyle}
use Rattle.fixed_decimal_c.proofs.lemmas.styles.CodedStyles.{not_sanctioned}
use Rattle.fixed_decimal_c.proofs.number_options.FdNumberOptions.style.Goals as goal

pub returns-else-has_sanctioned_unit-clause-none : goal.returns-else-has_sanctioned_unit-clause-none
returns-else-has_sanctioned_unit-clause-none c s is =
    let found = c.in-Some.style in
    let style : IsStyle (style_codes_of c.args.self.now) found =
    subst (λ (codes : StyleCodes). IsStyle codes found) c.style_codes.ensures c.in-Some.ensures.some in
    not_sanctioned (style_codes_of c.args.self.now) found style (search rules) s is.style is.sanctioned
