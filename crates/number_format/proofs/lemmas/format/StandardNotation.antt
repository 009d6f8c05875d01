-- Standard notation: one rounding, and the exponent 0.
use Rattle.std.proofs.{Common.{◌≡◌, ℕ, zero, suc, ◌*◌, ◌/◌, Option, refl, sym, ◌∙◌, ap, arith}, lemmas.Int.ints}
use Rattle.std.specs.{Prelude.{Some, None, option_and_then, ℤ, pos, negsuc, ◌-ℤ◌, ◌≤ℤ◌}, Option.option_map_or}
use Rattle.decimal_digits.specs.Number.{last}
use Rattle.decimal_unsigned.specs.{Edits.multiplied_pow10, Unsigned.IsValue}
use Rattle.fixed_decimal.specs.Decimal.{Decimal, with_absolute}
use Rattle.number_format.specs.{declared.{digits.options.DigitOptions.DigitOptions, notation.Notation.TheVariants.Standard, format.formatter.NumberFormatter.NumberFormatter}, NumberText.{rounded_by, rounded_in, number_before_cut, shown_number}, ShownDigits.{rounded_with, rounded_within, shown, IsRoundedAt}, Scaled.{Settled, settled_with, settled, rounded_number, scaled_value, written, scaled}}
use Rattle.number_format.proofs.{lemmas.read.ReadBack.unshifted, lemmas.notation.Scales.scaled-some}

last_least : (n : ℕ) → negsuc 32767 ≤ℤ last n
unfolding last
last_least zero = omega (arith, ints)
last_least (suc n) = omega (arith, ints)

-- the rounded number, with the digits that the options show
pub standard-some : (o : DigitOptions) (v w : Decimal) (end : ℤ) → IsRoundedAt o 0 v w end
    → (new : Decimal) → new.sign ≡ w.sign → new.absolute ≡ shown o w.absolute.number end
    → scaled Standard o v ≡ Some (scaled_value new (pos 0))
standard-some o v w end is new signs digits =
    let n = v.absolute.number in
    let r = rounded_with o 0 v in
    let settles : settled Standard o v.sign n ≡ Some (settled_with 0 r) = rw is.within refl in
    let same : n ≡ n * 1 = omega arith in
    let whole : w.absolute.number ≡ r.number / 1 = is.number ∙ omega arith in
    let fits : negsuc 32767 ≤ℤ (last r.number -ℤ pos 0) = omega (arith, ints, last_least r.number) in
    scaled-some Standard o v (pos 0) n (settled_with 0 r) refl same settles fits new (pos 0) (signs ∙ is.sign)
    (digits ∙ (λ i. shown o (whole i) (is.shown i))) refl

pub standard-none : (o : DigitOptions) (v : Decimal) → rounded_within o v.sign 0 v.absolute.number ≡ None
    → scaled Standard o v ≡ None
standard-none o v none =
    let n = v.absolute.number in
    let same : n * 1 ≡ n = omega arith in
    ap (λ m. option_and_then (written o v.sign (pos 0)) (settled Standard o v.sign m)) same ∙ rw none refl

-- nothing is changed by the scale 0
pub unmultiplied : (f : NumberFormatter) (v : Decimal) → IsValue v.absolute → f.options.scale ≡ pos 0
    → with_absolute v (multiplied_pow10 v.absolute f.options.scale) ≡ Some v
unmultiplied f v valid none =
    (λ i. with_absolute v (multiplied_pow10 v.absolute (none i)))
    ∙ ap (λ x. with_absolute v x) (unshifted v.absolute valid)

-- a number that is not scaled is the rounded one
pub unscaled : (f : NumberFormatter) (v : Decimal) → IsValue v.absolute → f.options.scale ≡ pos 0
    → shown_number f v ≡ rounded_in f.notation f.digits v
unscaled f v valid none = ap (option_and_then (rounded_in f.notation f.digits)) (unmultiplied f v valid none)

-- the number that is rounded once
pub standard-number : (o : DigitOptions) (v w : Decimal) (end : ℤ) → IsRoundedAt o 0 v w end
    → rounded_number Standard o v ≡ w.absolute.number
standard-number o v w end is =
    let n = v.absolute.number in
    let settles : settled Standard o v.sign n ≡ Some (settled_with 0 (rounded_with o 0 v)) = rw is.within refl in
    let same : n * 1 ≡ n = omega arith in
    let number = λ (x : Option Settled). option_map_or (λ s. s.number) x 0 in
    ap (λ m. number (settled Standard o v.sign m)) same ∙ ap number settles ∙ sym is.number

pub unscaled-number : (f : NumberFormatter) (v : Decimal) → IsValue v.absolute → f.options.scale ≡ pos 0
    → number_before_cut f v ≡ rounded_by f.notation f.digits v
unscaled-number f v valid none =
    ap (λ x. option_map_or (rounded_by f.notation f.digits) x 0) (unmultiplied f v valid none)
