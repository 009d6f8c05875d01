-- What chooses the texts around the whole text.
use Rattle.std.proofs.{Common.{◌≡◌, ◌≢◌, true, false, Option, Some, None, refl, ap, subst, arith, inl, inr}, lemmas.Int.ints}
use Rattle.std.specs.{Prelude.{ℤ, pos, negsuc, ◌-ℤ◌, ◌<ℤ◌, ◌⊎◌, if◌then◌else◌, Result, Ok, Err, IfOk}, Option.option_map_or}
use Rattle.decimal_unsigned.specs.{Edits.{leaves_limits, multiplied, multiplied_pow10}, Unsigned.{Unsigned, IsValue}}
use Rattle.fixed_decimal.specs.Decimal.{Decimal}
use Rattle.plural_rules.specs.Operands as operands
use Rattle.plural_rules.specs.declared.rules.PluralCategory.{PluralCategory, TheVariants.Other}
use Rattle.locale_data.specs.{Plurals.IsCategoryAt, declared.{compact.CompactStyle.CompactStyle, number_formats.NumberFormats.NumberFormats}}
use Rattle.locale_data.proofs.lemmas.tables.RulesTexts.{category_exists}
use Rattle.number_format.specs.{declared.{format.{formatter.NumberFormatter.NumberFormatter, outer.OuterTexts.OuterTexts}, options.{CompactLength.CompactLength, NumberNotation.NumberNotation, NumberStyle.NumberStyle}}, FormattedNumbers.{ChoosesOuter, ChoosesWhole}, NumberText.{exponent_operand, has_categories, is_by_category, operands_by, operands_with, outer_by, outer_operands, outer_texts, compact_style}, Scaled.ScaledValue}

-- texts that do not depend on the category
pub same_outer : (formats : NumberFormats) (texts : OuterTexts) (words : Option CompactStyle) (style : NumberStyle)
    (a b : PluralCategory) → is_by_category texts words style ≡ false
    → outer_texts formats texts words style a ≡ outer_texts formats texts words style b
same_outer formats OuterTexts.None None style a b e = refl
same_outer formats OuterTexts.None (Some w) NumberStyle.Decimal a b e = refl
same_outer formats OuterTexts.None (Some w) NumberStyle.Percent a b e = absurd (cc)
same_outer formats OuterTexts.None (Some w) NumberStyle.Permille a b e = refl
same_outer formats OuterTexts.None (Some w) (NumberStyle.Currency c) a b e = refl
same_outer formats OuterTexts.None (Some w) (NumberStyle.Unit u) a b e = refl
same_outer formats (OuterTexts.Units rows) words style a b e = absurd (cc)
same_outer formats (OuterTexts.Names names) words style a b e = absurd (cc)

-- a property of what a call returns
pub if_ok : {A E : Type 0} {P Q : A → Type 0} (r : Result A E) → ((a : A) → P a → Q a) → IfOk r P → IfOk r Q
if_ok (Ok a) weaker p = weaker a p
if_ok (Err e) weaker p = tt

-- the texts of a category that is that of the number, or any
pub chosen_texts : (f : NumberFormatter) (a b : PluralCategory)
    → (a ≡ b) ⊎ ((x y : PluralCategory) → outer_by f x ≡ outer_by f y) → outer_by f a ≡ outer_by f b
chosen_texts f a b (inl same) = ap (outer_by f) same
chosen_texts f a b (inr any) = any a b

module _ (f : NumberFormatter) (v : Decimal) where
  pub any_category : has_categories f ≡ false → ChoosesWhole f v Other
  any_category none number shown allowed =
      let own = category_exists f.rules (outer_operands f v number) f.rules_listed in
      record {
        category = own.0;
        of_whole = own.1;
        same = inr (λ a b. same_outer f.formats f.outer (compact_style f.options.notation f.options.style)
            f.options.style a b none);
      }

  pub after_rounding : has_categories f ≡ true → f.options.notation ≡ NumberNotation.Standard
      → ChoosesWhole f v Other
  after_rounding by_category standard number shown allowed = absurd (allowed by_category standard)

  -- a category by the operands
  pub by_operands : (number : ScaledValue) (x : operands.Operands) (c : PluralCategory)
      → IsCategoryAt f.rules x c → x ≡ outer_operands f v number → ChoosesOuter f v number c
  by_operands number x c of same =
      record { category = c; of_whole = subst (λ y. IsCategoryAt f.rules y c) same of; same = inl refl }

-- ---- Operands with an exponent.

-- a notation with an exponent is that of the operands with it
pub with_exponent : (n : NumberNotation) (whole : Unsigned) (number : ScaledValue) → n ≢ NumberNotation.Standard
    → ((words : CompactLength) → n ≢ NumberNotation.Compact words)
    → operands_with number.significand.absolute number.exponent ≡ operands_by n whole number
with_exponent NumberNotation.Standard whole number standard compact = absurd (standard refl)
with_exponent (NumberNotation.Compact words) whole number standard compact = absurd (compact words refl)
with_exponent (NumberNotation.Scientific o) whole number standard compact = refl
with_exponent (NumberNotation.Engineering o) whole number standard compact = refl

-- a shift beyond 16 bits leaves the limits
pub beyond : (v : Unsigned) (d : ℤ) → IsValue v → (d <ℤ negsuc 32767) ⊎ (pos 32767 <ℤ d)
    → multiplied_pow10 v d ≡ None
beyond v d valid far =
    let h = valid.hi_in in
    let l = valid.lo_in in
    let leaves : leaves_limits v d ≡ true = elim far [
      | inl below ↦ grind (arith, ints)
      | inr above ↦ grind (arith, ints)
    ] in
    ap (λ b. if b then None else Some (multiplied v d)) leaves

-- the operands, by whether the shift leaves the limits
pub operands_are : (v : Unsigned) (e : ℤ) (found : Option Unsigned)
    → multiplied_pow10 v (e -ℤ pos (exponent_operand e)) ≡ found
    → operands_with v e
    ≡ option_map_or (λ w. operands.compact w (exponent_operand e)) found (operands.plain v)
operands_are v e found is =
    ap (λ x. option_map_or (λ w. operands.compact w (exponent_operand e)) x (operands.plain v)) is
