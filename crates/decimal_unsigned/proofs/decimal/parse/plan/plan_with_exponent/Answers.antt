use Rattle.std.proofs.{Common.{◌≡◌, ℕ, ◌<◌, ◌≤◌, ◌+◌, ◌-◌, ◌∙◌, length, to_z, of_z, refl, arith, inl, inr, ℤ, pos, negsuc, ◌+ℤ◌, ◌-ℤ◌, ◌≤ℤ◌, w32}, lemmas.Int.ints}
use Rattle.decimal_unsigned.proofs.{lemmas.{decimal.Values.{narrow_kept, wide_kept}, parse.Plans.{length_digits, limit_scaled, makes_scaled}}, decimal.parse.plan.plan_with_exponent.Goals.{After-subtract_counts-4, then-hi-gt32767-via-then-hi-gt32767, then-hi-gt32767-via-else-hi-gt32767+then-lo-ltminus32768}}
use Rattle.decimal_unsigned.specs.Parts.{view}
use lib.Signed.{mag}
use Rattle.decimal_unsigned.proofs.decimal.parse.plan.plan_with_exponent.Goals as goal

-- ---- The moved magnitudes, as they are read again.
hi_is : (c : After-subtract_counts-4)
    → to_z w32 (of_z w32 c.shift_magnitude-hi.result) ≡ pos (length c.args.parts.now.whole.now - 1) +ℤ c.args.exponent
hi_is c = wide_kept {z = c.shift_magnitude-hi.result} c.shift_magnitude-hi.type_inv ∙ (omega (arith, ints))

lo_is : (c : After-subtract_counts-4)
    → to_z w32 (of_z w32 c.shift_magnitude-lo.result)
    ≡ (pos 0 -ℤ pos (length c.args.parts.now.fraction.now)) +ℤ c.args.exponent
lo_is c = wide_kept {z = c.shift_magnitude-lo.result} c.shift_magnitude-lo.type_inv ∙ (omega (arith, ints))

first_is : (c : After-subtract_counts-4)
    → to_z w32 (of_z w32 c.shift_magnitude-first.result)
    ≡ ((pos (length c.args.parts.now.whole.now) -ℤ pos 1) -ℤ pos c.args.start) +ℤ c.args.exponent
first_is c = wide_kept {z = c.shift_magnitude-first.result} c.shift_magnitude-first.type_inv ∙ (omega (arith, ints))

last_is : (c : After-subtract_counts-4) {r : ℤ} → mag r < 2147483648
    → r ≡ to_z w32 (of_z w32 c.subtract_counts-4.result) +ℤ to_z w32 (of_z w32 c.args.exponent)
    → to_z w32 (of_z w32 r) ≡ (pos (length c.args.parts.now.whole.now) -ℤ pos c.args.end) +ℤ c.args.exponent
last_is c {r} kept is = wide_kept {z = r} kept ∙ (omega (arith, ints))

above_low : (whole fraction end : ℕ) (e last lo : ℤ) → last ≡ (pos whole -ℤ pos end) +ℤ e
    → lo ≡ (pos 0 -ℤ pos fraction) +ℤ e → end ≤ whole + fraction → negsuc 32767 ≤ℤ lo
    → negsuc 32767 ≤ℤ last
above_low whole fraction end e last lo a b within low = omega (arith, ints)

pub shift_magnitude-first-requires-clause-magnitude_in : goal.shift_magnitude-first-requires-clause-magnitude_in
shift_magnitude-first-requires-clause-magnitude_in c = let l =
    length_digits (view c.args.parts.now) in omega (arith, ints)

pub shift_magnitude-last-requires-clause-magnitude_in : goal.shift_magnitude-last-requires-clause-magnitude_in
shift_magnitude-last-requires-clause-magnitude_in c = let l =
    length_digits (view c.args.parts.now) in omega (arith, ints)

pub returns-then-hi-gt32767-clause-none : goal.returns-then-hi-gt32767-clause-none
returns-then-hi-gt32767-clause-none c =
    let b = (goal.at.returns-then-hi-gt32767-clause-none c).After-subtract_counts-4 in
    limit_scaled (view c.args.parts.now) c.requires.digits c.requires.whole c.requires.fraction c.args.start c.args.end
    c.requires.kept _ refl c.args.exponent c.requires.exponent (elim c.then-hi-gt32767.branch [
      | then-hi-gt32767-via-then-hi-gt32767 w ↦ inl (omega (arith, ints, w.if-hi-gt32767.true, hi_is b))
      | then-hi-gt32767-via-else-hi-gt32767+then-lo-ltminus32768 w ↦
          inr (omega (arith, ints, w.if-lo-ltminus32768.true, lo_is b))
    ])

pub to_magnitude-requires-clause-low : goal.to_magnitude-requires-clause-low
to_magnitude-requires-clause-low c =
    let b = (goal.at.to_magnitude-requires-clause-low c).After-subtract_counts-4 in
    above_low (length c.args.parts.now.whole.now) (length c.args.parts.now.fraction.now) (c.args.start + 1) _ _ _
    (first_is b ∙ (omega (arith, ints))) (lo_is b) (let l = length_digits (view c.args.parts.now) in omega arith)
    (omega (arith, ints, c.if-lo-ltminus32768.false))

pub to_magnitude-requires-clause-high : goal.to_magnitude-requires-clause-high
to_magnitude-requires-clause-high c =
    let b = (goal.at.to_magnitude-requires-clause-high c).After-subtract_counts-4 in
    omega (arith, ints, first_is b, hi_is b, c.if-hi-gt32767.false)

pub lowest_shown-requires-clause-last_in : goal.lowest_shown-requires-clause-last_in
lowest_shown-requires-clause-last_in c =
    let b = (goal.at.lowest_shown-requires-clause-last_in c).After-subtract_counts-4 in
    above_low (length c.args.parts.now.whole.now) (length c.args.parts.now.fraction.now) c.args.end _ _ _
    (last_is b {r = c.shift_magnitude-last.result} c.shift_magnitude-last.type_inv c.shift_magnitude-last.ensures)
    (lo_is b)
    (let l = length_digits (view c.args.parts.now) in omega arith) (omega (arith, ints, c.if-lo-ltminus32768.false))

pub returns-clause-some : goal.returns-clause-some
returns-clause-some c =
    let b = (goal.at.returns-clause-some c).After-subtract_counts-4 in
    makes_scaled (view c.args.parts.now) c.requires.digits c.requires.whole c.requires.fraction c.args.start c.args.end
    c.requires.kept _ refl c.args.exponent _ _ _ _ _ _ _ c.requires.exponent (first_is b)
    (last_is b c.shift_magnitude-last.type_inv c.shift_magnitude-last.ensures) (hi_is b) (lo_is b)
    (omega (arith, ints, c.if-hi-gt32767.false)) (omega (arith, ints, c.if-lo-ltminus32768.false))
    (narrow_kept c.to_magnitude.type_inv ∙ c.to_magnitude.ensures)
    (narrow_kept c.highest_shown.type_inv ∙ c.highest_shown.ensures)
    (narrow_kept c.lowest_shown.type_inv ∙ c.lowest_shown.ensures)
