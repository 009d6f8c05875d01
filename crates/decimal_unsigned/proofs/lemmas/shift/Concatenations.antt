-- Digits, zeros and then more digits.
use Rattle.std.proofs.{Common.{◌≡◌, ℕ, ◌+◌, ◌-◌, ◌*◌, ◌^◌, ◌<◌, ◌≤◌, false, List, ◌++◌, length, replicate, refl, sym, ◌∙◌, ap, arith, ℤ, pos, negsuc, ◌+ℤ◌, ◌-ℤ◌, ◌≤ℤ◌, ◌<ℤ◌}, lemmas.{Bool.Decides.nat_tests, Int.{ints, clamps}, List.Elements.{recursion_from_All, All-from_recursion, All-append, All-replicate}, List.{length-append, length-replicate, get_or_append_left, get_or-append_right}, Nat.pow-add}}
use Rattle.std.specs.{Int.{int_max, int_min}, Int.Digits.number_from_digits}
use Rattle.decimal_digits.proofs.lemmas.{digits.{DigitLists.{number_pad, number-append}, Rules.steps}, ops.Offsets.{offset_is, gap_is}}
use Rattle.decimal_digits.specs.{Digits.{number_of, number_at}, Number.{offset, first, last}}
use Rattle.decimal_unsigned.proofs.lemmas.decimal.Values.{lowest, last-number_of, first_of, stored_as, last_covered, some_of}
use Rattle.decimal_unsigned.specs.{Concatenation.{overlaps, concatenated_end, concatenated_size}, Stored.IsStored, Unsigned.Unsigned}

-- digits stored in a range are stored in a wider range
pub wider : {ds : List ℕ} {m hi lo hi' lo' : ℤ} → IsStored ds m hi lo → hi ≤ℤ hi' → lo' ≤ℤ lo → hi' ≤ℤ pos 32767
    → negsuc 32767 ≤ℤ lo'
    → IsStored ds m hi' lo'
wider t up down high low = grind (arith, ints, offset_is)

-- digits are stored in the range of another value after that range is widened to include theirs
pub taken : (v w : Unsigned) {ds es : List ℕ} {m hi lo n hi' lo' : ℤ} → IsStored ds m hi lo → IsStored es n hi' lo'
    → record { number = number_of ds m; hi = hi; lo = lo } ≡ record v { hi = int_max v.hi w.hi; lo = int_min v.lo w.lo }
    → record { number = number_of es n; hi = hi'; lo = lo' } ≡ w
    → IsStored es n hi lo
taken v w {hi = hi} {lo = lo} {hi' = hi'} {lo' = lo'} t u p q =
    let up : hi ≡ int_max v.hi hi' = ap (λ (x : Unsigned). x.hi) p ∙ ap (λ (x : Unsigned). int_max v.hi x.hi) (sym q) in
    let down : lo ≡ int_min v.lo lo' = grind (arith) in
    wider u (omega (arith, ints, clamps, up)) (omega (arith, ints, clamps, down)) t.in_range.1 t.in_range.0

module _ (ds es : List ℕ) (zeros : ℕ) where
  length-joined : length ((ds ++ replicate zeros 0) ++ es) ≡ length ds + zeros + length es
  length-joined = grind (steps, length-append, length-replicate)

  -- the number that the first digits write is multiplied by a power of ten, by the length of the rest
  number-joined : number_from_digits 10 ((ds ++ replicate zeros 0) ++ es)
      ≡ number_from_digits 10 ds * 10 ^ (zeros + length es) + number_from_digits 10 es
  number-joined = grind (steps, number-append, number_pad, length-replicate, pow-add)

-- the second digits begin k + 1 places below the last of the first, with k zeros between
module _ {ds es : List ℕ} {m hi lo n hi' lo' : ℤ} (t : IsStored ds m hi lo) (u : IsStored es n hi' lo') (k : ℕ)
    (some : 0 < length ds) (more : 0 < length es) (distance : m ≡ n +ℤ pos (length ds + k)) where
  places : offset m ≡ offset n + (length ds + k)
  places = omega (arith, ints, distance, offset_is m, offset_is n, lowest u)

  stored : IsStored ((ds ++ replicate k 0) ++ es) m (int_max hi hi') (int_min lo lo')
  stored =
      let P = λ (d : ℕ). d < 10 in
      stored_as
      (recursion_from_All P _ (All-append P (ds ++ replicate k 0) es (All-append P ds (replicate k 0)
      (All-from_recursion P ds t.digits) (All-replicate P k 0 (omega arith))) (All-from_recursion P es u.digits)))
      (λ h.
      let s : 0 < length (ds ++ replicate k 0) = omega (arith, some, length-append ds (replicate k 0)) in
      rw (get_or_append_left (ds ++ replicate k 0) es 0 0 s, get_or_append_left ds (replicate k 0) 0 0 some)
      (t.front some))
      (λ h.
      let i : length ((ds ++ replicate k 0) ++ es) - 1 - length (ds ++ replicate k 0) ≡ length es - 1 =
      omega (arith, more, length-append (ds ++ replicate k 0) es) in
      let l : length (ds ++ replicate k 0) ≤ length ((ds ++ replicate k 0) ++ es) - 1 = grind (arith, length-append) in
      rw (get_or-append_right (ds ++ replicate k 0) es _ (length ((ds ++ replicate k 0) ++ es) - 1) 0 refl l, i)
      (u.back more))
      (λ z. absurd (omega (arith, length-joined ds es k)))
      (λ h. (
        omega (arith, ints, clamps, t.hi_covers),
        omega (arith, ints, clamps, distance, more, last_covered u more, length-joined ds es k),
      ))
      (omega (arith, ints, clamps, t.hi_in), omega (arith, ints, clamps, t.in_range, u.in_range))
      (omega (arith, ints, clamps, t.in_range, u.in_range), omega (arith, ints, clamps, t.lo_in))

  number_of-joined : number_of ((ds ++ replicate k 0) ++ es) m ≡ number_of ds m + number_of es n
  unfolding number_of number_at
  number_of-joined =
      let e = offset n + 1 - length es in
      let a : offset m + 1 - length ((ds ++ replicate k 0) ++ es) ≡ e = omega (arith, places, length-joined ds es k) in
      let b : offset m + 1 - length ds ≡ (k + length es) + e = omega (arith, places, u.fits) in
      rw (a, number-joined ds es k, b, pow-add 10 (k + length es) e) (omega arith)

-- two disjoint values with k magnitudes between
module _ {ds es : List ℕ} {m hi lo n hi' lo' : ℤ} {v w : Unsigned} (t : IsStored ds m hi lo) (u : IsStored es n hi' lo')
    (p : record { number = number_of ds m; hi = hi; lo = lo } ≡ v)
    (q : record { number = number_of es n; hi = hi'; lo = lo' } ≡ w) (k : ℕ) (first_is_nonzero : 0 < v.number)
    (second_is_nonzero : 0 < w.number) (distance : last v.number ≡ first w.number +ℤ pos (k + 1)) where
  some : 0 < length ds
  some = some_of t (rw (ap (λ (x : Unsigned). x.number) p) first_is_nonzero)

  more : 0 < length es
  more = some_of u (rw (ap (λ (x : Unsigned). x.number) q) second_is_nonzero)

  last_digit : last v.number ≡ m -ℤ pos (length ds - 1)
  last_digit = sym (ap (λ (x : Unsigned). last x.number) p) ∙ last-number_of t some

  between : m ≡ n +ℤ pos (length ds + k)
  between =
      let f : first w.number ≡ n = sym (ap (λ (x : Unsigned). first x.number) q) ∙ first_of u in
      let l = last_digit in
      let s = some in
      omega (arith, ints, distance, f, l)

  -- the concatenated number has the digits of both and k zeros
  pub append_size : concatenated_size v w ≡ length ds + k + length es
  append_size =
      let f : first v.number ≡ m = sym (ap (λ (x : Unsigned). first x.number) p) ∙ first_of t in
      let l : last w.number ≡ n -ℤ pos (length es - 1) =
      sym (ap (λ (x : Unsigned). last x.number) q) ∙ last-number_of u more in
      let b = between in
      let s = more in
      omega (arith, ints, gap_is, f, l, b)

  -- the concatenated digits are stored as those of a value
  pub append_stored : IsStored ((ds ++ replicate k 0) ++ es) m (int_max hi hi') (int_min lo lo')
  append_stored = stored t u k some more between

  -- their value is the concatenated value
  pub append_value :
      record { number = number_of ((ds ++ replicate k 0) ++ es) m; hi = int_max hi hi'; lo = int_min lo lo' }
      ≡ concatenated_end v w
  append_value =
      (λ i. record { number = number_of-joined t u k some more between i; hi = int_max hi hi'; lo = int_min lo lo' })
      ∙ (λ i. concatenated_end (p i) (q i))

-- ---- overlaps
-- 0 overlaps nothing
pub zero_overlaps : (v w : Unsigned) → v.number ≡ 0 → overlaps v w ≡ false
unfolding overlaps
zero_overlaps v w z = grind (arith, nat_tests)

-- nothing overlaps 0
pub overlaps_zero : (v w : Unsigned) → w.number ≡ 0 → overlaps v w ≡ false
unfolding overlaps
overlaps_zero v w z = grind (arith, nat_tests)

-- if two numbers do not overlap, the first digit of the second is below the last digit of the first
pub disjoint : (v w : Unsigned) → 0 < v.number → 0 < w.number → overlaps v w ≡ false → first w.number <ℤ last v.number
unfolding overlaps
disjoint v w p q f = grind (arith, nat_tests, ints)

-- and the converse
pub not_overlapping : (v w : Unsigned) → (0 < v.number → 0 < w.number → first w.number <ℤ last v.number)
    → overlaps v w ≡ false
unfolding overlaps
not_overlapping v w h = grind (arith, nat_tests, ints)
