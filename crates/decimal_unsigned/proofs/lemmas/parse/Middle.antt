-- The number that the digits between leading and trailing zeros write.
use Rattle.std.proofs.{Common.{◌≡◌, ℕ, suc, ◌+◌, ◌-◌, ◌*◌, ◌^◌, ◌<◌, ◌≤◌, List, [], ◌∷◌, length, get_or, take, drop, ◌++◌, map, min, refl, sym, ◌∙◌, ap, arith, ℤ, pos, ◌-ℤ◌}, lemmas.{Grind.{common_steps, elements}, List.{length-map, length-drop, get_or-take, get_or-drop, map-append, take-map, drop-map}, Nat.pow-add}}
use Rattle.std.specs.{Char.digit_value, Int.Digits.{number_from_digits, AllBelowBase}}
use Rattle.decimal_digits.proofs.lemmas.{digits.{DigitLists.{below_take, number_split, below_drop, number_after}, Rules.steps}, ops.Offsets.offset_is}
use Rattle.decimal_digits.specs.{Digits.{number_of, number_at}, Number.offset}
use Rattle.decimal_unsigned.specs.{ScannedDigits.{middle, IsNonzeroRange}, Stored.IsStored}

-- zeros write the number 0
pub number_zeros : (b : ℕ) (ds : List ℕ) → ((k : ℕ) → k < length ds → get_or ds k 0 ≡ 0)
    → number_from_digits b ds ≡ 0
number_zeros b [] h = refl
number_zeros b (d ∷ ds) h =
    let z : d ≡ 0 = h 0 (omega arith) in
    let e : number_from_digits b (d ∷ ds) ≡ (0 * b + d) * b ^ length ds + number_from_digits b ds =
    number_after b (0 * b + d) ds in
    let r = number_zeros b ds (λ k l. h (suc k) (omega arith)) in
    rw (e, r, z) (omega arith)

module _ (ds : List ℕ) (start end : ℕ) (n : IsNonzeroRange ds start end) where
  -- their number
  pub middle_length : length (middle start end ds) ≡ end - start
  middle_length = grind (arith, common_steps)

  -- all digits write the number of the middle digits times a power of ten
  pub number_middle : (b : ℕ)
      → number_from_digits b ds ≡ number_from_digits b (middle start end ds) * b ^ (length ds - end)
  number_middle b =
      let a = number_split b start ds (omega (arith, n.ordered, n.within)) in
      let z : number_from_digits b (take start ds) ≡ 0 = grind (steps, number_zeros, get_or-take) in
      let m : end - start ≤ length (drop start ds) = omega (arith, n.ordered, n.within, length-drop start ds) in
      let x = number_split b (end - start) (drop start ds) m in
      let y : number_from_digits b (drop (end - start) (drop start ds)) ≡ 0 =
      grind (arith, number_zeros, get_or-drop) in
      let k : length (drop start ds) - (end - start) ≡ length ds - end = grind (arith, length-drop) in
      a ∙ (rw (z, x, y, k) (omega arith))

  -- they are below ten
  pub middle_below : AllBelowBase 10 ds → AllBelowBase 10 (middle start end ds)
  middle_below h = below_take 10 (end - start) (drop start ds) (below_drop 10 start ds h)

-- the same for a integer digits and b fraction digits
pub number_of-middle : (ds : List ℕ) (start end a b : ℕ) (m : ℤ) → IsNonzeroRange ds start end → length ds ≡ a + b
    → b ≤ 32768 → offset m + (start + 1) ≡ 32768 + a
    → number_of (middle start end ds) m ≡ number_from_digits 10 ds * 10 ^ (32768 - b)
unfolding number_of number_at
number_of-middle ds start end a b m n whole few p =
    let l = middle_length ds start end n in
    let k : offset m + 1 - length (middle start end ds) ≡ (length ds - end) + (32768 - b) = grind (arith) in
    let e : number_from_digits 10 (middle start end ds) * 10 ^ (offset m + 1 - length (middle start end ds))
    ≡ (number_from_digits 10 (middle start end ds) * 10 ^ (length ds - end)) * 10 ^ (32768 - b) =
    rw (k, pow-add 10 (length ds - end) (32768 - b)) (omega arith) in
    e ∙ ap (λ x. x * 10 ^ (32768 - b)) (sym (number_middle ds start end n 10))

-- the digits between the zeros are stored as those of a value
pub stored_middle : (ds : List ℕ) (start end a b : ℕ) (m : ℤ) → IsNonzeroRange ds start end → AllBelowBase 10 ds
    → length ds ≡ a + b → a ≤ 32768 → b ≤ 32768 → m ≡ (pos a -ℤ pos 1) -ℤ pos start
    → IsStored (middle start end ds) m (pos (a - 1)) (pos 0 -ℤ pos b)
stored_middle ds start end a b m n d whole many few e = grind (steps, middle_below, offset_is)

-- ---- The digits of two concatenated lists.
take-append : (n : ℕ) (a b : List ℕ) → take n (a ++ b) ≡ take n a ++ take (n - length a) b
take-append n a b = grind (arith, elements)

drop-append : (n : ℕ) (a b : List ℕ) → drop n (a ++ b) ≡ drop n a ++ drop (n - length a) b
drop-append n a b = grind (arith, elements)

middle_front : (a : List ℕ) (start end : ℕ) → start ≤ end
    → middle start end a ≡ middle (min start (length a)) (min end (length a)) a
middle_front a start end p = grind (arith, elements)

-- a slice of a concatenation is the slice of the first list followed by that of the second
pub middle_append : (a b : List ℕ) (start end : ℕ) → start ≤ end → middle start end (a ++ b)
    ≡ middle (min start (length a)) (min end (length a)) a ++ middle (start - length a) (end - length a) b
middle_append a b start end p =
    let n : end - start - length (drop start a) ≡ (end - length a) - (start - length a) = grind (arith, length-drop) in
    rw (
      drop-append start a b,
      take-append (end - start) (drop start a) (drop (start - length a) b),
      n,
      middle_front a start end p,
    ) refl

middle-map : (f : ℕ → ℕ) (start end : ℕ) (xs : List ℕ) → map f (middle start end xs) ≡ middle start end (map f xs)
middle-map f start end xs = grind (steps, take-map, drop-map)

-- the same of two texts and the digits that they write
pub middle_written : (a b : List ℕ) (start end : ℕ) → start ≤ end
    → map digit_value (middle (min start (length a)) (min end (length a)) a)
    ++ map digit_value (middle (start - length a) (end - length a) b)
    ≡ middle start end (map digit_value (a ++ b))
middle_written a b start end p = grind (arith, length-map, middle-map, map-append, middle_append)
