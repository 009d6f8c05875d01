use Rattle.std.proofs.{Common.{◌≡◌, ℕ, ◌≤◌, arith, rules, w16, w32, to_z, of_z, FitsSigned}, lemmas.Int.{ints, clamps}}
use Rattle.std.specs.{Prelude.{ℤ, pos, negsuc, max}, Int.{int_max, int_min}}
use Rattle.number_format.proofs.lemmas.digits.Applied.{padded_is, stripped_number}
use Rattle.number_format.proofs.digits.options.DigitOptions.cut_and_pad.Goals as goal

-- the casts of the two positions
least_is : (min : ℕ) → min ≤ 32767 → to_z w16 (max min 1) ≡ pos (max min 1)
least_is min few = omega (arith, ints)

end_is : (last end : ℤ) → FitsSigned w32 last
    → end ≡ int_max (negsuc 32767) (int_min (to_z w32 (of_z w32 last)) (pos 0))
    → to_z w16 (of_z w16 (to_z w32 (of_z w32 end))) ≡ int_min (int_max last (negsuc 32767)) (pos 0)
end_is last end fits is = omega (arith, ints, clamps, is, fits)

pub returns-clause-value : goal.returns-clause-value
returns-clause-value g c =
    let o = c.args.self.now in
    let start = c.pad_start.ensures in
    let end = c.pad_end.ensures in
    let strip = c.strip.ensures in
    let cut = c.cut_integer_digits in
    let least = least_is o.integer.min o.integer.few in
    let last = end_is c.args.last c.clamp.result (search rules) c.clamp.ensures.value in
    grind (arith, padded_is o cut.new.value c.args.value.now.number c.args.last cut.ensures.number)

pub returns-clause-size : goal.returns-clause-size
returns-clause-size g c =
    let cut = c.cut_integer_digits.ensures in
    grind (arith, returns-clause-value g c, stripped_number)
