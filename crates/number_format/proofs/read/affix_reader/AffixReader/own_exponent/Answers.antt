use Rattle.std.proofs.{Common.{◌≡◌, ◌<◌, inl, inr, ap, subst, arith, rules, to_z, of_z, FitsSigned, w32}, lemmas.{Bool.cases_lt, Int.ints}}
use Rattle.decimal_digits.specs.Number.{size}
use Rattle.fixed_decimal.specs.Decimal.{Decimal}
use Rattle.locale_data.specs.Plurals.{IsCategoryAt}
use Rattle.number_format.specs.{NumberText.operands_with}
use Rattle.number_format.proofs.lemmas.read.{AffixedNumbers.IsReader, OwnExponents.{not_copied, beyond_limits, own_category, other_category}}
use Rattle.number_format.proofs.read.affix_reader.AffixReader.own_exponent.Goals as goal

pub returns-in_default : goal.returns-in_default
returns-in_default g c =
    let r = c.args.self.now in
    let can : IsReader r = subst IsReader c.self.view_is c.self.invariant in
    let long : g.D.DigitStore.L < size c.args.significand.absolute.number =
    elim (cases_lt g.D.DigitStore.L (size c.args.significand.absolute.number)) [
      | inl h ↦ h
      | inr h ↦ absurd (c.in_default.ensures.cases h)
    ] in
    not_copied r c.args.form.now c.args.text.now g.D.DigitStore.L can.0 can.1 c.args.pattern.now c.args.middle.now
    c.requires.split c.requires.separator c.args.significand c.args.exponent c.requires.parts long

pub returns-in-Err : goal.returns-in-Err
returns-in-Err g c =
    let r = c.args.self.now in
    let can : IsReader r = subst IsReader c.self.view_is c.self.invariant in
    let fits : FitsSigned w32 c.args.exponent = search rules in
    let same : to_z w32 (of_z w32 c.args.exponent) ≡ c.args.exponent = omega (arith, ints, fits) in
    beyond_limits r c.args.form.now c.args.text.now g.D.DigitStore.L can.0 can.1 c.args.pattern.now c.args.middle.now
    c.requires.split c.requires.separator c.args.significand c.args.exponent c.requires.parts
    c.in-Err.error (λ e h. c.in-Err.ensures e (cc (same, h)))

pub returns-in_default-split : goal.returns-in_default-split
returns-in_default-split g c =
    let r = c.args.self.now in
    let can : IsReader r = subst IsReader c.self.view_is c.self.invariant in
    let fits : FitsSigned w32 c.args.exponent = search rules in
    let same : to_z w32 (of_z w32 c.args.exponent) ≡ c.args.exponent = omega (arith, ints, fits) in
    let symbols : c.self.inside.symbols ≡ r.symbols = cc in
    let patterns : c.as_slice.result.now ≡ r.patterns = cc in
    let absolute = ap (λ (d : Decimal). d.absolute) c.in-Ok.ensures.cases in
    let of_parts : IsCategoryAt r.rules (operands_with c.args.significand.absolute c.args.exponent)
    c.category_with.result =
    subst (λ o. IsCategoryAt r.rules o c.category_with.result) (λ i. operands_with (absolute i) (same i))
    c.category_with.ensures in
    other_category r c.args.form.now c.args.text.now g.D.DigitStore.L can.0 can.1 c.args.pattern.now c.args.middle.now
    c.requires.split c.requires.separator c.args.significand c.args.exponent c.requires.parts
    c.in-Ok-times_power.value (λ e h. c.in-Ok-times_power.ensures e (cc (same, h))) c.category_with.result of_parts
    (rw (symbols, patterns) at c.in_default-split.ensures)

pub returns : goal.returns
returns g c =
    let r = c.args.self.now in
    let can : IsReader r = subst IsReader c.self.view_is c.self.invariant in
    let fits : FitsSigned w32 c.args.exponent = search rules in
    let same : to_z w32 (of_z w32 c.args.exponent) ≡ c.args.exponent = omega (arith, ints, fits) in
    let symbols : c.self.inside.symbols ≡ r.symbols = cc in
    let patterns : c.as_slice.result.now ≡ r.patterns = cc in
    let absolute = ap (λ (d : Decimal). d.absolute) c.in-Ok.ensures.cases in
    let of_parts : IsCategoryAt r.rules (operands_with c.args.significand.absolute c.args.exponent)
    c.category_with.result =
    subst (λ o. IsCategoryAt r.rules o c.category_with.result) (λ i. operands_with (absolute i) (same i))
    c.category_with.ensures in
    rw c.with_sign.ensures
    (own_category r c.args.form.now c.args.text.now g.D.DigitStore.L can.0 can.1 c.args.pattern.now c.args.middle.now
    c.requires.split c.requires.separator c.args.significand c.args.exponent c.requires.parts
    c.in-Ok-times_power.value (λ e h. c.in-Ok-times_power.ensures e (cc (same, h))) c.category_with.result of_parts _ _
    (rw (symbols, patterns) at c.in-Some.ensures))
