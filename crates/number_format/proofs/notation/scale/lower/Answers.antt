use Rattle.std.proofs.{Common.{◌≡◌, ℕ, zero, suc, ◌/◌, ◌^◌, ◌<◌, ◌≤◌, Bool, true, false, refl, ◌∙◌, ap, subst, arith, w16, to_z, of_z}, lemmas.Int.{ints, clamps}}
use Rattle.std.specs.Prelude.{if◌then◌else◌, Some, None, ℤ, pos, negsuc, ◌-ℤ◌, ◌≤ℤ◌, ◌<ℤ◌}
use Rattle.decimal_digits.specs.Number.{last}
use Rattle.decimal_unsigned.specs.{Edits.{leaves_limits, multiplied_pow10, times_power, trimmed_end}, Unsigned.{Unsigned, IsValue}}
use Rattle.number_format.proofs.notation.scale.lower.Goals as goal

-- the power by which the value is multiplied
down_is : (count : ℕ) → count ≤ 32767 → to_z w16 (of_z w16 (pos 0 -ℤ to_z w16 count)) ≡ pos 0 -ℤ pos count
down_is count few = omega (arith, ints)

times_down : (n count : ℕ) (d : ℤ) → d ≡ pos 0 -ℤ pos count → 0 < count → times_power n d ≡ n / 10 ^ count
times_down n zero d is some = absurd (omega arith)
times_down n (suc k) d is some = let down : d ≡ negsuc k = omega (arith, ints) in ap (times_power n) down

-- only the last digit can leave the limits
stays : (v : Unsigned) (count : ℕ) (d : ℤ) → d ≡ pos 0 -ℤ pos count → leaves_limits (trimmed_end v) d ≡ false
    → negsuc 32767 ≤ℤ (last v.number -ℤ pos count)
stays v count d is fits = grind (arith, ints, clamps)

leaves : (v : Unsigned) (count : ℕ) (d : ℤ) → IsValue v → count ≤ 32767 → d ≡ pos 0 -ℤ pos count
    → leaves_limits (trimmed_end v) d ≡ true → (last v.number -ℤ pos count) <ℤ negsuc 32767
leaves v count d valid few is beyond = let high = valid.hi_in.1 in grind (arith, ints, clamps)

none_if : {A : Type 0} (b : Bool) (x : A) → (if b then None else Some x) ≡ None → b ≡ true
none_if true x e = refl
none_if false x e = cc

pub returns-in-Ok : goal.returns-in-Ok
returns-in-Ok g c =
    let v = c.args.value.now in
    let count = c.args.count in
    let is = down_is count c.requires in
    let trimmed = c.trim_end.ensures.value in
    record {
      ok = ap (λ (x : Unsigned). x.number) c.in-Ok.ensures.moved
          ∙ ap (λ (x : Unsigned). times_power x.number (to_z w16 (of_z w16 (pos 0 -ℤ to_z w16 count)))) trimmed
          ∙ times_down v.number count _ is (omega (arith, c.if-count-eq0.false));
      fits = stays v count _ is (subst (λ x. leaves_limits x (to_z w16 (of_z w16 (pos 0 -ℤ to_z w16 count))) ≡ false)
          trimmed (c.in-Ok.ensures.fits.0 refl));
      err = tt;
    }

pub returns-in-Err : goal.returns-in-Err
returns-in-Err g c =
    let v = c.args.value.now in
    let count = c.args.count in
    let none = subst (λ x. multiplied_pow10 x (to_z w16 (of_z w16 (pos 0 -ℤ to_z w16 count))) ≡ None)
    c.trim_end.ensures.value c.in-Err.ensures.limit in
    record {
      ok = tt;
      fits = tt;
      err = (refl, leaves v count _ c.trim_end.ensures.valid c.requires (down_is count c.requires) (none_if _ _ none));
    }
