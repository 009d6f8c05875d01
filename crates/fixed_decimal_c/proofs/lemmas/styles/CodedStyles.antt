-- Styles that C has: each is one, and numbers of no amount and of no unit are those of no style.
use Rattle.std.proofs.{Common.{◌≡◌, ℕ, true, false, refl, sym, ◌∙◌, ap, arith}, lemmas.Bool.false≢true}
use Rattle.number_format.specs.declared.options.{CurrencyStyle.CurrencyStyle, NumberStyle.NumberStyle, UnitStyle.UnitStyle}
use Rattle.fixed_decimal_c.specs.{declared.styles.StyleCodes.StyleCodes, Styles.{IsAmount, IsStyle, IsUnitStyle, has_sanctioned_unit}}
use Rattle.fixed_decimal_c.proofs.lemmas.units.SameUnits.{same_unit}

module _ (c : StyleCodes) where
  same_amount : (a b : CurrencyStyle) → IsAmount c a → IsAmount c b → a ≡ b
  same_amount a b is js =
      let code_is = is.code in
      let code_too = js.code in
      let code : a.code ≡ b.code = cc in
      let display_is = is.display in
      let display_too = js.display in
      let display : a.display ≡ b.display = cc in
      let sign_is = is.sign in
      let sign_too = js.sign in
      let sign : a.sign ≡ b.sign = cc in
      let usage_is = is.usage in
      let usage_too = js.usage in
      let usage : a.usage ≡ b.usage = cc in
      λ i. record { code = code i; display = display i; sign = sign i; usage = usage i }

  same_unit_style : (a b : UnitStyle) → IsUnitStyle c a → IsUnitStyle c b → a ≡ b
  same_unit_style a b is js =
      let unit = same_unit c.unit c.per_unit a.unit b.unit is.unit js.unit in
      let one = is.display in
      let other = js.display in
      let display : a.display ≡ b.display = cc in
      let one_per = is.per in
      let other_per = js.per in
      let per : a.per_display ≡ b.per_display = cc in
      λ i. record { unit = unit i; display = display i; per_display = per i }

  -- the number of a style
  abbrev style_code : NumberStyle → ℕ
  style_code NumberStyle.Decimal = 0
  style_code NumberStyle.Percent = 1
  style_code NumberStyle.Permille = 2
  style_code (NumberStyle.Currency m) = 3
  style_code (NumberStyle.Unit u) = 4

  code_is : (s : NumberStyle) → IsStyle c s → c.style ≡ style_code s
  code_is NumberStyle.Decimal is = is
  code_is NumberStyle.Percent is = is
  code_is NumberStyle.Permille is = is
  code_is (NumberStyle.Currency m) is = is.0
  code_is (NumberStyle.Unit u) is = is.0

  same_of_code : (a b : NumberStyle) → IsStyle c a → IsStyle c b → style_code a ≡ style_code b → a ≡ b
  same_of_code NumberStyle.Decimal NumberStyle.Decimal is js code = refl
  same_of_code NumberStyle.Percent NumberStyle.Percent is js code = refl
  same_of_code NumberStyle.Permille NumberStyle.Permille is js code = refl
  same_of_code (NumberStyle.Currency a) (NumberStyle.Currency b) is js code =
      ap (λ m. NumberStyle.Currency m) (same_amount a b is.1 js.1)
  same_of_code (NumberStyle.Unit a) (NumberStyle.Unit b) is js code =
      ap (λ u. NumberStyle.Unit u) (same_unit_style a b is.1 js.1)
  same_of_code a b is js code = absurd (omega (arith, code))

  -- two styles with these numbers are one
  pub same_style : (a b : NumberStyle) → IsStyle c a → IsStyle c b → a ≡ b
  same_style a b is js = same_of_code a b is js (sym (code_is a is) ∙ code_is b js)

  -- so ECMA-402 has the unit of both, or of none
  pub not_sanctioned : (a : NumberStyle) → IsStyle c a → has_sanctioned_unit a ≡ false → (b : NumberStyle)
      → IsStyle c b → has_sanctioned_unit b ≡ true → ⊥
  not_sanctioned a is wrong b js right =
      false≢true (sym wrong ∙ ap has_sanctioned_unit (same_style a b is js) ∙ right)

  pub no_amount : c.style ≡ 3 → ((m : CurrencyStyle) → IsAmount c m → ⊥) → (s : NumberStyle) → IsStyle c s → ⊥
  no_amount three none NumberStyle.Decimal is = omega (arith, three, is)
  no_amount three none NumberStyle.Percent is = omega (arith, three, is)
  no_amount three none NumberStyle.Permille is = omega (arith, three, is)
  no_amount three none (NumberStyle.Currency m) is = none m is.1
  no_amount three none (NumberStyle.Unit u) is = omega (arith, three, is.0)

  pub no_unit : c.style ≡ 4 → ((u : UnitStyle) → IsUnitStyle c u → ⊥) → (s : NumberStyle) → IsStyle c s → ⊥
  no_unit four none NumberStyle.Decimal is = omega (arith, four, is)
  no_unit four none NumberStyle.Percent is = omega (arith, four, is)
  no_unit four none NumberStyle.Permille is = omega (arith, four, is)
  no_unit four none (NumberStyle.Currency m) is = omega (arith, four, is.0)
  no_unit four none (NumberStyle.Unit u) is = none u is.1
