use Rattle.std.proofs.{Common.{◌≡◌, ◌∙◌, sym, subst, Some, arith, rules, w16, FitsSigned}, lemmas.Int.ints}
use Rattle.std.specs.Prelude.{◌↔◌, IfOk, IsSomeAnd, IsTrue, Result, Ok, Err, pos}
use Rattle.decimal_digits.specs.declared.rounding.RoundError.{RoundError}
use Rattle.decimal_unsigned.specs.Unsigned.{IsValue}
use Rattle.fixed_decimal.specs.Decimal.{Decimal}
use Rattle.number_format.specs.{declared.{notation.scale.ShownNumber.ShownNumber, format.formatter.NumberFormatter.NumberFormatter}, FormattedNumbers.IsShownNumber, NumberText.{rounded_by, rounded_in, RoundingNeedsMemory}, Scaled.scaled_value}
use Rattle.number_format.proofs.lemmas.format.StandardNotation.{unmultiplied, unscaled, unscaled-number}
use Rattle.number_format.proofs.format.formatter.NumberFormatter.shown_number.Goals as goal

shown_is : (f : NumberFormatter) (v new : Decimal) (result : Result ShownNumber RoundError) → IsValue v.absolute
    → f.options.scale ≡ pos 0
    → IfOk result (λ s. rounded_in f.notation f.digits v ≡ Some (scaled_value new s.exponent))
    → IfOk result (λ s. IsTrue s.is_zero ↔ (rounded_by f.notation f.digits v ≡ 0))
    → IfOk result (IsShownNumber f v new)
shown_is f v new (Ok s) valid scale number zero = record {
  number_is = unscaled f v valid scale ∙ number;
  zero = subst (λ n. IsTrue s.is_zero ↔ (n ≡ 0)) (sym (unscaled-number f v valid scale)) zero;
}
shown_is f v new (Err e) valid scale number zero = tt

pub returns-then-self-eq0-clause-ok : goal.returns-then-self-eq0-clause-ok
returns-then-self-eq0-clause-ok c =
    let f = c.args.self.now in
    let r = c.rounded in
    let fits : FitsSigned w16 f.options.scale = search rules in
    let scale : f.options.scale ≡ pos 0 = omega (arith, ints, c.if-self-eq0.true) in
    shown_is f c.args.value.now r.new.value r.result c.magnitude_range-range.ensures.valid scale r.ensures.ok
    r.ensures.zero

pub returns-then-self-eq0-clause-limit : goal.returns-then-self-eq0-clause-limit
returns-then-self-eq0-clause-limit c h =
    let f = c.args.self.now in
    let fits : FitsSigned w16 f.options.scale = search rules in
    let scale : f.options.scale ≡ pos 0 = omega (arith, ints, c.if-self-eq0.true) in
    unscaled f c.args.value.now c.magnitude_range-range.ensures.valid scale ∙ c.rounded.ensures.limit h

pub returns-then-self-eq0-clause-memory : goal.returns-then-self-eq0-clause-memory
returns-then-self-eq0-clause-memory c h =
    let f = c.args.self.now in
    let fits : FitsSigned w16 f.options.scale = search rules in
    let scale : f.options.scale ≡ pos 0 = omega (arith, ints, c.if-self-eq0.true) in
    subst (λ x. IsSomeAnd x (RoundingNeedsMemory f.notation f.digits))
    (sym (unmultiplied f c.args.value.now c.magnitude_range-range.ensures.valid scale)) (c.rounded.ensures.memory h)
