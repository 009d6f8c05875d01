use Rattle.std.proofs.{Common.{◌≡◌, ◌+◌, ◌-◌, ◌<◌, w16, of_z, to_z, ℤ, ℕ, pos, ◌-ℤ◌, suc, ◌++◌, ◌∷◌, length, take, drop, refl, sym, ◌∙◌, ap, arith, append-nil}, lemmas.{Grind.common_steps, List.nil_from_length}}
use Rattle.decimal_unsigned.proofs.lemmas.{decimal.Values.narrow_kept, text.{Pieces.{zeros_front, zeros_after, zeros_rest, piece_above, piece_over, piece_below, fits_above, fits_after, fits_below}, Writing.bytes_are}}
use Rattle.decimal_unsigned.specs.Text.{text}
use lib.Signed.{mag}
use Rattle.decimal_unsigned.proofs.decimal.UnsignedOver.copy_text.Goals as goal

-- a magnitude that is passed and read again, by its distance to the highest
moved_down : {hi h r : ℤ} (i : ℕ) → mag h < 32768 → h ≡ hi → mag r < 32768 → r ≡ to_z w16 (of_z w16 h) -ℤ pos i
    → to_z w16 (of_z w16 r) ≡ hi -ℤ pos i
moved_down i a p b e = narrow_kept b ∙ e ∙ ap (λ h. h -ℤ pos i) (narrow_kept a ∙ p)

pub magnitude_of-requires : goal.magnitude_of-requires
magnitude_of-requires g c =
    let hi = narrow_kept c.highest-hi.type_inv ∙ c.highest-hi.ensures.value in
    rw hi ((fits_below c.args.self.now c.dot-dot.ensures.valid _ c.dot-dot.ensures.value c.args.from
    (length c.args.buffer.now) c.if-dot-from.true c.requires.in_text).1 c.requires.some)

pub copy_digits-requires-clause-in_limits : goal.copy_digits-requires-clause-in_limits
copy_digits-requires-clause-in_limits g c =
    let hi = c.highest-hi in
    rw (moved_down (c.args.from - 1) hi.type_inv hi.ensures.value c.magnitude_of.type_inv c.magnitude_of.ensures)
    (fits_below c.args.self.now c.dot-dot.ensures.valid _ c.dot-dot.ensures.value c.args.from (length c.args.buffer.now)
    c.if-dot-from.true c.requires.in_text).0

pub returns-then-dot-from : goal.returns-then-dot-from
returns-then-dot-from g c =
    let dot_is = c.dot-dot.ensures.value in
    let hi = c.highest-hi in
    let m = moved_down (c.args.from - 1) hi.type_inv hi.ensures.value c.magnitude_of.type_inv c.magnitude_of.ensures in
    bytes_are c.args.self.now.number _ _ _ c.copy_digits.new.buffer c.copy_digits.ensures.value m
    c.copy_digits.auto.buffer
    ∙ sym (piece_below c.args.self.now c.dot-dot.ensures.valid _ dot_is c.args.from (length c.args.buffer.now)
    c.if-dot-from.true c.requires.some c.requires.in_text)

pub copy_digits-requires-2-clause-zeros : goal.copy_digits-requires-2-clause-zeros
copy_digits-requires-2-clause-zeros g c = grind (arith, zeros_front, common_steps)

pub copy_digits-requires-2-clause-in_limits : goal.copy_digits-requires-2-clause-in_limits
copy_digits-requires-2-clause-in_limits g c =
    let dot_is = c.dot-dot.ensures.value in
    let hi = c.highest-hi in
    let m = moved_down c.args.from hi.type_inv hi.ensures.value c.magnitude_of-2.type_inv c.magnitude_of-2.ensures in
    rw (m, c.split_at_mut-whole.ensures.front_len)
    (fits_above c.args.self.now c.dot-dot.ensures.valid _ dot_is c.args.from c.min-above.result
    (omega (arith, c.min-above.ensures)))

pub copy_digits-requires-in-Some-clause-zeros : goal.copy_digits-requires-in-Some-clause-zeros
copy_digits-requires-in-Some-clause-zeros g c = grind (arith, zeros_after, zeros_rest, common_steps)

pub copy_digits-requires-in-Some-clause-in_limits : goal.copy_digits-requires-in-Some-clause-in_limits
copy_digits-requires-in-Some-clause-in_limits g c =
    let rest = c.in-Some.ensures.cases.1 in
    let whole = c.split_at_mut-whole.ensures.back_len in
    fits_after c.args.self.now c.dot-dot.ensures.valid _ c.dot-dot.ensures.value c.args.from c.min-above.result _
    (omega (arith, rest, whole, c.min-above.ensures)) (omega (arith, rest, whole, c.requires.in_text))

pub returns-in-Some : goal.returns-in-Some
returns-in-Some g c =
    let dot_is = c.dot-dot.ensures.value in
    let number = c.args.self.now.number in
    let hi = c.highest-hi in
    let m = moved_down c.args.from hi.type_inv hi.ensures.value c.magnitude_of-2.type_inv c.magnitude_of-2.ensures in
    let rest = c.in-Some.ensures.cases.1 in
    let whole = c.split_at_mut-whole.ensures.back_len in
    let a = c.min-above.result in
    let k = length c.in-Some.fraction.now in
    let all : a + suc k ≡ length c.args.buffer.now = omega (arith, rest, whole) in
    let above = bytes_are number _ _ _ c.copy_digits-2.new.buffer c.copy_digits-2.ensures.value m
    (c.copy_digits-2.auto.buffer ∙ c.split_at_mut-whole.ensures.front_len) in
    let below = bytes_are number _ _ k c.copy_digits-in-Some.new.buffer c.copy_digits-in-Some.ensures.value refl
    c.copy_digits-in-Some.auto.buffer in
    (λ i. above i ++ 46 ∷ below i)
    ∙ sym (piece_over c.args.self.now c.dot-dot.ensures.valid _ dot_is c.args.from a k
    (omega (arith, rest, whole, c.min-above.ensures)) (omega (arith, rest, whole, c.requires.in_text)))
    ∙ ap (λ n. take n (drop c.args.from (text c.args.self.now))) all

pub returns-in_default : goal.returns-in_default
returns-in_default g c =
    let dot_is = c.dot-dot.ensures.value in
    let hi = c.highest-hi in
    let m = moved_down c.args.from hi.type_inv hi.ensures.value c.magnitude_of-2.type_inv c.magnitude_of-2.ensures in
    let none = nil_from_length c.split_at_mut-whole.result.1.now c.in_default.ensures.cases in
    let whole = c.split_at_mut-whole.ensures.back_len in
    let all : c.min-above.result ≡ length c.args.buffer.now = omega (arith, whole, c.in_default.ensures.cases) in
    ap (λ l. c.copy_digits-2.new.buffer ++ l) none
    ∙ append-nil c.copy_digits-2.new.buffer
    ∙ bytes_are c.args.self.now.number _ _ _ c.copy_digits-2.new.buffer c.copy_digits-2.ensures.value m
    (c.copy_digits-2.auto.buffer ∙ c.split_at_mut-whole.ensures.front_len ∙ all)
    ∙ sym (piece_above c.args.self.now c.dot-dot.ensures.valid _ dot_is c.args.from (length c.args.buffer.now)
    (omega (arith, all, c.min-above.ensures)))
