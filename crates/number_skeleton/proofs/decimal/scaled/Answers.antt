use Rattle.std.proofs.{Common.{◌≡◌, ℕ, ◌^◌, ◌<◌, ◌∙◌, ap, arith, rules, to_z, of_z}, lemmas.Int.ints}
use Rattle.std.specs.{Int.w128, Prelude.{ℤ, pos, negsuc, ◌+ℤ◌, ◌-ℤ◌, ◌≤ℤ◌}}
use Rattle.number_skeleton.proofs.decimal.scaled.Goals as goal

-- the power, as the code computes it in 128 bits
power_is : (count fraction : ℕ) (e : ℤ) → count < 2 ^ 64 → fraction < 2 ^ 64 → negsuc 999999999 ≤ℤ e
    → e ≤ℤ pos 999999999
    → to_z w128 (of_z w128 (to_z w128 (of_z w128 (to_z w128 count +ℤ to_z w128 (of_z w128 e))) -ℤ to_z w128 fraction))
    ≡ (pos count +ℤ e) -ℤ pos fraction
power_is count fraction e few less low high = omega (arith, ints)

pub returns : goal.returns
returns c =
    let s = c.args.significand in
    let e = c.args.exponent in
    let n = c.fraction_length.result in
    let few : s.zeros < 2 ^ 64 = search rules in
    let power = power_is s.zeros n e few c.fraction_length.type_inv c.requires.at_least c.requires.at_most
    ∙ ap (λ k. (pos s.zeros +ℤ e) -ℤ pos k) c.fraction_length.ensures.value in
    (λ i. record {
      is_negative = c.args.is_negative;
      digits = s.digits;
      power = power i;
      after_point = c.after_point.ensures i;
    })
