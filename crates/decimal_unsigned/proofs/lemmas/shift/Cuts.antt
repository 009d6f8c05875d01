-- The part of a number below a position, by its digits.
use Rattle.std.proofs.{Common.{◌≡◌, ℕ, ◌+◌, ◌-◌, ◌*◌, ◌%◌, ◌^◌, ◌<◌, ◌≤◌, min, List, length, get_or, take, drop, refl, sym, ◌∙◌, ap, subst, arith, inl, inr, ℤ, pos, negsuc, ◌+ℤ◌, ◌-ℤ◌, ◌≤ℤ◌}, Math.Nat.{mul-mod_left, mul-lt-mul_of_pos_right, pow-le-pow_right, mod-eq_of_lt}, lemmas.{Bool.cases_lt, Int.{ints, clamps}, List.{length-drop, length-take-le, get_or-take, get_or-drop, drop-drop}, Nat.{pow-add, mod-mul-add}}}
use Rattle.std.specs.{Int.{int_max, int_min, int_gap}, Int.Digits.number_from_digits}
use Rattle.decimal_digits.proofs.lemmas.{digits.{DigitLists.{ten_pos, number_split, below_drop, number-drop-lt}, Rules.steps}, ops.Offsets.{offset_is, gap_is}}
use Rattle.decimal_digits.specs.{Digits.{number_of, number_at}, Number.{offset, weight}}
use Rattle.decimal_unsigned.proofs.lemmas.{decimal.Values.{number_of-lt, number_of-none, lowest, stored_as, last_covered}, parse.Middle.number_zeros}
use Rattle.decimal_unsigned.specs.{Edits.with_max_position, Stored.IsStored}

-- leading digits, zeros and the other digits
number_cut : (ds : List ℕ) (a start : ℕ) → a ≤ start → start ≤ length ds
    → ((k : ℕ) → a ≤ k → k < start → get_or ds k 0 ≡ 0)
    → number_from_digits 10 ds
    ≡ number_from_digits 10 (take a ds) * 10 ^ (length ds - a) + number_from_digits 10 (drop start ds)
number_cut ds a start h w zeros =
    let rest = drop a ds in
    let long : length rest ≡ length ds - a = length-drop a ds in
    let none : number_from_digits 10 (take (start - a) rest) ≡ 0 =
    grind (arith, number_zeros, length-take-le, get_or-take, get_or-drop) in
    let split = number_split 10 (start - a) rest (omega (arith, long)) in
    grind (steps, length-drop, number_zeros, length-take-le, get_or-take, get_or-drop, drop-drop, number_split)

number_is : (ds : List ℕ) (m : ℤ) → number_of ds m ≡ number_from_digits 10 ds * 10 ^ (offset m + 1 - length ds)
unfolding number_of number_at
number_is ds m = refl

-- a value of digits ds, the first at magnitude m, cut at a position: the first `start` digits are removed
pub record Cuts (ds : List ℕ) (m lo p : ℤ) (start : ℕ) (m' hi' lo' : ℤ) : Type 0 where
  pub from : min (int_gap p (m +ℤ pos 1)) (length ds) ≤ start
  pub within : start ≤ length ds
  pub zeros : (k : ℕ) → min (int_gap p (m +ℤ pos 1)) (length ds) ≤ k → k < start → get_or ds k 0 ≡ 0
  pub found : start < length ds → 0 < get_or ds start 0
  pub some : start < length ds → m' ≡ m -ℤ pos start
  pub none : length ds ≤ start → m' ≡ pos 0
  pub hi_is : hi' ≡ int_max (p -ℤ pos 1) (pos 0)
  pub lo_is : lo' ≡ int_min lo p
  pub position : (negsuc 32767 ≤ℤ p) × (p ≤ℤ pos 32767)

module _ {ds : List ℕ} {m hi lo p m' hi' lo' : ℤ} {start : ℕ} (t : IsStored ds m hi lo)
    (c : Cuts ds m lo p start m' hi' lo') where
  left : length (drop start ds) ≡ length ds - start
  left = length-drop start ds

  -- the digits below the position are stored as those of a value
  pub stored_cut : IsStored (drop start ds) m' hi' lo'
  stored_cut =
      stored_as (below_drop 10 start ds t.digits)
      (λ q. rw get_or-drop
      (subst (λ k. 0 < get_or ds k 0) (let k : start ≡ start + 0 = omega arith in k) (c.found (omega (arith, left)))))
      (λ q. rw get_or-drop
      (subst (λ k. 0 < get_or ds k 0)
      (let k : length ds - 1 ≡ start + (length (drop start ds) - 1) = omega (arith, left) in k)
      (t.back (omega (arith, left)))))
      (λ z. c.none (omega (arith, left)))
      (λ q.
      let e = c.some (omega (arith, left)) in (
        omega (arith, ints, clamps, e, c.hi_is, c.from, left, gap_is p (m +ℤ pos 1)),
        omega (arith, ints, clamps, e, c.lo_is, left, last_covered t (omega (arith, left))),
      ))
      (omega (arith, ints, clamps, c.hi_is), omega (arith, ints, clamps, c.hi_is, c.position))
      (omega (arith, ints, clamps, c.lo_is, c.position, t.in_range), omega (arith, ints, clamps, c.lo_is, t.lo_in))

  abbrev ends : ℕ
  ends = offset m + 1 - length ds

  abbrev rest_value : ℕ
  rest_value = number_from_digits 10 (drop start ds)

  rest_lt : rest_value < 10 ^ (length ds - start)
  rest_lt = number-drop-lt 10 start ds t.digits

  rest_none : length ds ≤ start → rest_value ≡ 0
  rest_none h = omega (arith, rest_lt, ap (λ k. 10 ^ k) (let z : length ds - start ≡ 0 = omega arith in z))

  -- the remaining digits keep their magnitudes
  rest_is : number_of (drop start ds) m' ≡ rest_value * 10 ^ ends
  rest_is =
      grind (arith, ints, cases_lt, number_is, offset, left, offset_is, lowest, rest_none, number_of-none, stored_cut)

  whole : (a : ℕ) → a ≡ min (int_gap p (m +ℤ pos 1)) (length ds)
      → number_of ds m ≡ number_from_digits 10 (take a ds) * 10 ^ (length ds - a + ends) + rest_value * 10 ^ ends
  whole a e =
      let n = number_cut ds a start (omega (arith, c.from)) c.within (λ k q r. c.zeros k (omega arith) r) in
      number_is ds m ∙ (rw (n, pow-add 10 (length ds - a) ends) (omega arith))

  rest_below : (a : ℕ) → a ≤ start → rest_value * 10 ^ ends < 10 ^ (length ds - a + ends)
  rest_below a h = grind (arith, pow-le-pow_right, rest_lt, pow-add, mul-lt-mul_of_pos_right, ten_pos)

  abbrev gap : ℕ
  gap = int_gap p (m +ℤ pos 1)

  -- the position is above the digits, within them, or below them
  over : gap ≡ 0 → number_of ds m ≡ rest_value * 10 ^ ends → rest_value * 10 ^ ends ≡ number_of ds m % weight p
  over g e =
      let l : 10 ^ (offset m + 1) ≤ 10 ^ offset p =
      pow-le-pow_right (omega arith)
      (omega (arith, ints, g, gap_is p (m +ℤ pos 1), offset_is p, offset_is m, c.position, lowest t)) in
      sym (mod-eq_of_lt (omega (arith, number_of-lt t, l)) ∙ e)

  inside : 0 < gap → gap ≤ length ds → rest_value * 10 ^ ends ≡ number_of ds m % weight p
  inside g h =
      let k : length ds - gap + ends ≡ offset p = grind (arith, gap_is, offset_is, lowest) in
      sym (ap (λ n. n % 10 ^ offset p)
      (whole gap (omega arith) ∙ ap (λ k. number_from_digits 10 (take gap ds) * 10 ^ k + rest_value * 10 ^ ends) k)
      ∙ mod-mul-add _ _ _ (subst (λ k. rest_value * 10 ^ ends < 10 ^ k) k (rest_below gap (omega (arith, c.from)))))

  under : length ds < gap → rest_value * 10 ^ ends ≡ number_of ds m % weight p
  under h =
      let z : rest_value ≡ 0 = rest_none (omega (arith, c.from)) in
      let high = number_from_digits 10 ds * 10 ^ (ends - offset p) in
      let k : ends ≡ ends - offset p + offset p = grind (arith, gap_is, offset_is, lowest) in
      let e : number_of ds m ≡ high * 10 ^ offset p = grind (arith, number_is, pow-add) in
      sym (ap (λ n. n % 10 ^ offset p) e ∙ mul-mod_left high (10 ^ offset p) ∙ (rw z (omega arith)))

  number_of-cut : number_of (drop start ds) m' ≡ number_of ds m % weight p
  number_of-cut = rest_is ∙ (elim (cases_lt (length ds) gap) [
    | inl h ↦ under h
    | inr h ↦ elim (cases_lt 0 gap) [
      | inl g ↦ inside g h
      | inr g ↦ let z : gap ≡ 0 = omega arith in over z (whole 0 (omega (arith, z)) ∙ (omega arith))
    ]
  ])

  -- their value is the part below the position
  pub with_max_position_is : record { number = number_of (drop start ds) m'; hi = hi'; lo = lo' }
      ≡ with_max_position (record { number = number_of ds m; hi = hi; lo = lo }) p
  with_max_position_is = λ i. record { number = number_of-cut i; hi = c.hi_is i; lo = c.lo_is i }
