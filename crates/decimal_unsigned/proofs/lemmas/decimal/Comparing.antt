-- The order and the equality of two numbers, by their digits.
use Rattle.std.proofs.{Common.{◌≡◌, ℕ, zero, suc, ◌+◌, ◌-◌, ◌*◌, ◌^◌, ◌<◌, ◌≤◌, ◌%◌, ◌/◌, List, [], ◌∷◌, ◌++◌, length, get_or, drop, take, replicate, refl, sym, ◌∙◌, ap, arith, ◌⊎◌, inl, inr, min, ℤ, ◌<ℤ◌, All, subst, pos, negsuc, ◌+ℤ◌, ◌-ℤ◌, ◌≤ℤ◌, Bool, true, false, rules, IsTrue, ◌↔◌}, Math.Nat.{mul-le-mul_right, pow-le-pow_right}, lemmas.{Bool.Decides.nat_tests, Bool.cases_lt, Cmp.{nat_list_cmp_total, tied_itself}, Grind.{common_steps, same_number_lists}, Int.Digits.number_lt, Int.{ints, clamps}, List.Elements.recursion_from_All, List.{length-drop, length-take-le, length-append, length-replicate, take-append-drop, take-take, ext_get_or}}}
use Rattle.std.specs.{Cmp.{nat_cmp_is, IsEquivalence}, Cmp.Lexicographic.slice_cmp, Int.Digits.{number_from_digits, AllBelowBase}, Ordering.{nat_cmp, ordering_then, ordering_reverse, int_cmp}, declared.cmp.Ordering.Ordering, declared.cmp.Ordering.TheVariants.{Less, Equal, Greater}}
use Rattle.decimal_digits.proofs.lemmas.{digits.{DigitLists.{below_take, below_drop, number_first, number_pad}, LeadingBytes.{below_sixteen, length-padded, padded_digits, padded_few, padded_front}, Nibbles.nibble_rules, Rules.steps}, ops.Offsets.offset_is}
use Rattle.decimal_digits.specs.{Digits.{number_of, number_at}, Nibbles.{padded, nibbles, digits_in, bcd_number, IsPacked}, Number.{offset, digit, first, last}}
use Rattle.decimal_unsigned.proofs.lemmas.{decimal.Values.{value_of_view, number_of-lt, number_of-ge, number_of-pos, number_of-none, lowest, first_of, last-number_of, none_of, digit-number_of-in}, text.ReadBack.read_text}
use Rattle.decimal_unsigned.specs.{Reading.read, Stored.IsStored, Text.text, Unsigned.{Unsigned, IsValue, same}}

-- two numbers compare as two others if each order implies the same order
pub same_order : (a b x y : ℕ) → (a < b → x < y) → (a ≡ b → x ≡ y) → (b < a → y < x) → nat_cmp a b ≡ nat_cmp x y
same_order a b x y less equal greater = grind arith

-- two numbers have the order of two integers
pub same_int_order : (a b : ℤ) (x y : ℕ) → (a <ℤ b → x < y) → (a ≡ b → x ≡ y) → (b <ℤ a → y < x)
    → int_cmp a b ≡ nat_cmp x y
same_int_order a b x y less equal greater = grind (arith, ints)

-- if one list has no items left, the comparison is that of the lengths
none_left : (xs ys : List ℕ) → (length xs ≡ 0) ⊎ (length ys ≡ 0)
    → nat_cmp (length xs) (length ys) ≡ slice_cmp nat_cmp xs ys
none_left [] [] h = refl
none_left [] (y ∷ ys) h = sym (nat_cmp_is 0 (length (y ∷ ys)) Less (omega arith))
none_left (x ∷ xs) [] h = sym (nat_cmp_is (length (x ∷ xs)) 0 Greater (omega arith))
none_left (x ∷ xs) (y ∷ ys) (inl e) = absurd (omega (arith, e))
none_left (x ∷ xs) (y ∷ ys) (inr e) = absurd (omega (arith, e))

-- after the items of the shorter list, comparing the rest compares the lengths
pub lengths_decide : (xs ys : List ℕ) (i : ℕ) → i ≡ min (length xs) (length ys)
    → nat_cmp (length xs) (length ys) ≡ slice_cmp nat_cmp (drop i xs) (drop i ys)
lengths_decide xs ys i e =
    let same : nat_cmp (length xs) (length ys) ≡ nat_cmp (length (drop i xs)) (length (drop i ys)) =
    grind (arith, common_steps) in
    same ∙ none_left (drop i xs) (drop i ys) (grind (arith, common_steps))

-- ---- numbers and lists of digits, in any base
-- sums whose second parts are below p compare as their first parts, and if these are equal, as their second parts
sums_order : (p a b r s : ℕ) → r < p → s < p
    → nat_cmp (a * p + r) (b * p + s) ≡ ordering_then (nat_cmp a b) (nat_cmp r s)
sums_order p a b r s l m = search (rules, arith, nat_cmp, mul-le-mul_right, same_order)

then_assoc : (q r s : Ordering) → ordering_then (ordering_then q r) s ≡ ordering_then q (ordering_then r s)
then_assoc Less r s = refl
then_assoc Equal r s = refl
then_assoc Greater r s = refl

-- lists that begin with lists of the same length compare as these, and if these are equal, as the rest
append_order : (xs ys us vs : List ℕ) → length xs ≡ length ys
    → slice_cmp nat_cmp (xs ++ us) (ys ++ vs) ≡ ordering_then (slice_cmp nat_cmp xs ys) (slice_cmp nat_cmp us vs)
append_order [] [] us vs e = refl
append_order [] (y ∷ ys) us vs e = absurd (omega (arith, e))
append_order (x ∷ xs) [] us vs e = absurd (omega (arith, e))
append_order (x ∷ xs) (y ∷ ys) us vs e =
    ap (ordering_then (nat_cmp x y)) (append_order xs ys us vs (omega (arith, e))) ∙ sym (then_assoc (nat_cmp x y) _ _)

-- lists of the same length compare as the numbers that they write
numbers_decide : (base : ℕ) (ds es : List ℕ) → AllBelowBase base ds → AllBelowBase base es → length ds ≡ length es
    → slice_cmp nat_cmp ds es ≡ nat_cmp (number_from_digits base ds) (number_from_digits base es)
numbers_decide base [] [] b c e = nat_cmp_is 0 0 Equal refl
numbers_decide base [] (y ∷ es) b c e = absurd (omega (arith, e))
numbers_decide base (x ∷ ds) [] b c e = absurd (omega (arith, e))
numbers_decide base (x ∷ ds) (y ∷ es) b c e =
    grind (arith, number_first, number_lt, sums_order, numbers_decide base ds es b.1 c.1)

-- ---- lists of digits whose last digit is not 0
abbrev EndsInDigit : List ℕ → Type 0
EndsInDigit ds = 0 < length ds → 0 < get_or ds (length ds - 1) 0

others_end : (d : ℕ) (ds : List ℕ) → EndsInDigit (d ∷ ds) → EndsInDigit ds
others_end d ds ends some = grind steps

zeros_less : (i j d : ℕ) (ds : List ℕ) → EndsInDigit (d ∷ ds)
    → slice_cmp nat_cmp (replicate i 0) (d ∷ (ds ++ replicate j 0)) ≡ Less
zeros_less zero j d ds ends = refl
zeros_less (suc i) j d [] ends = let some : 0 < d = ends (omega arith) in grind (arith, nat_tests, some)
zeros_less (suc i) j d (e ∷ ds) ends =
    grind (arith, nat_tests, others_end, (zeros_less i j e ds (others_end d (e ∷ ds) ends)))

-- trailing zeros do not change their order
zeros_after : (i j : ℕ) (ds es : List ℕ) → EndsInDigit ds → EndsInDigit es → (length ds ≡ length es → i ≡ j)
    → slice_cmp nat_cmp (ds ++ replicate i 0) (es ++ replicate j 0) ≡ slice_cmp nat_cmp ds es
zeros_after i j [] [] p q e = rw (e refl) (tied_itself nat_list_cmp_total (replicate j 0))
zeros_after i j [] (d ∷ es) p q e = zeros_less i j d es q
zeros_after i j (d ∷ ds) [] p q e =
    nat_list_cmp_total.antisymm ((d ∷ ds) ++ replicate i 0) (replicate j 0)
    ∙ ap ordering_reverse (zeros_less j i d ds p)
zeros_after i j (d ∷ ds) (c ∷ es) p q e =
    ap (ordering_then (nat_cmp d c))
    (zeros_after i j ds es (others_end d ds p) (others_end c es q) (λ l. e (ap suc l)))

-- digits, with zeros up to `top` of them, are digits
below_padded : (base k : ℕ) (ds : List ℕ) → 0 < base → AllBelowBase base ds → AllBelowBase base (ds ++ replicate k 0)
below_padded base k ds some b = grind (steps, recursion_from_All)

-- they compare as the numbers that they write, the first digits in the same place
digits_order : (base top : ℕ) (ds es : List ℕ) → 0 < base → AllBelowBase base ds → AllBelowBase base es
    → length ds ≤ top → length es ≤ top → EndsInDigit ds → EndsInDigit es
    → slice_cmp nat_cmp ds es
    ≡ nat_cmp (number_from_digits base ds * base ^ (top - length ds))
    (number_from_digits base es * base ^ (top - length es))
digits_order base top ds es some b c f g p q =
    let i = top - length ds in
    let j = top - length es in
    sym (zeros_after i j ds es p q (λ l. omega (arith, l)))
    ∙ numbers_decide base (ds ++ replicate i 0) (es ++ replicate j 0) (below_padded base i ds some b)
    (below_padded base j es some c) (grind (arith, length-append, length-replicate))
    ∙ (λ k. nat_cmp (number_pad base i ds k) (number_pad base j es k))

-- ---- lists of 8 to 16 bytes
front_ties : (k : ℕ) (xs ys : List ℕ) → slice_cmp nat_cmp xs ys ≡ Equal
    → slice_cmp nat_cmp (take k xs) (take k ys) ≡ Equal
front_ties zero xs ys e = refl
front_ties (suc k) [] [] e = refl
front_ties (suc k) [] (y ∷ ys) e = absurd (cc)
front_ties (suc k) (x ∷ xs) [] e = absurd (cc)
front_ties (suc k) (x ∷ xs) (y ∷ ys) e = grind (arith, nat_cmp, slice_cmp, (front_ties k xs ys))

-- lists of 8 to 16 bytes with the same first eight have the order of their last eight
pub ends_order : (xs ys : List ℕ) → AllBelowBase 256 xs → AllBelowBase 256 ys → length xs ≡ length ys → 8 ≤ length xs
    → length xs ≤ 16 → number_from_digits 256 (take 8 xs) ≡ number_from_digits 256 (take 8 ys)
    → nat_cmp (number_from_digits 256 (drop (length xs - 8) xs)) (number_from_digits 256 (drop (length xs - 8) ys))
    ≡ slice_cmp nat_cmp xs ys
ends_order xs ys b c same enough few fronts =
    let k = length xs - 8 in
    let ties : slice_cmp nat_cmp (take 8 xs) (take 8 ys) ≡ Equal =
    numbers_decide 256 (take 8 xs) (take 8 ys) (below_take 256 8 xs b) (below_take 256 8 ys c)
    (grind (arith, length-take-le)) ∙ sym (nat_cmp_is _ _ Equal fronts) in
    let front : slice_cmp nat_cmp (take k xs) (take k ys) ≡ Equal =
    rw (take-take k 8 xs (omega arith), take-take k 8 ys (omega arith)) at
    (front_ties k (take 8 xs) (take 8 ys) ties) in
    let both = append_order (take k xs) (take k ys) (drop k xs) (drop k ys) (grind (arith, length-take-le)) in
    grind (steps, length-drop, numbers_decide, below_drop, take-append-drop)

-- ---- packed bytes
byte_order : (b c : ℕ) (r : Ordering)
    → ordering_then (nat_cmp b c) r
    ≡ ordering_then (nat_cmp (b / 16) (c / 16)) (ordering_then (nat_cmp (b % 16) (c % 16)) r)
byte_order b c r = search (rules, arith, nat_cmp, sums_order, then_assoc)

-- bytes compare as their nibbles
nibbles_order : (bs cs : List ℕ) → slice_cmp nat_cmp bs cs ≡ slice_cmp nat_cmp (nibbles bs) (nibbles cs)
unfolding nibbles
nibbles_order [] [] = refl
nibbles_order [] (c ∷ cs) = refl
nibbles_order (b ∷ bs) [] = refl
nibbles_order (b ∷ bs) (c ∷ cs) = ap (ordering_then (nat_cmp b c)) (nibbles_order bs cs) ∙ byte_order b c _

-- the nibbles are the digits, and a zero after an odd number of them
nibbles_are : (bytes ds : List ℕ) → IsPacked bytes (length ds) → digits_in bytes (length ds) ≡ ds
    → nibbles bytes ≡ ds ++ replicate (length ds % 2) 0
nibbles_are bytes ds packed same = grind (steps, same_number_lists, nibble_rules)

-- ---- lists of decimal digits
module _ (ds es : List ℕ) (p : EndsInDigit ds) (q : EndsInDigit es) where
  -- the order of the numbers of their first sixteen digits, if these differ or there are no others
  pub fronts_order : All (λ d. d < 10) ds → All (λ d. d < 10) es
      → (¬ (bcd_number ds ≡ bcd_number es)) ⊎ ((length ds ≤ 16) × (length es ≤ 16))
      → nat_cmp (bcd_number ds) (bcd_number es) ≡ slice_cmp nat_cmp ds es
  unfolding bcd_number
  fronts_order h g which = sym fronts ∙ go which
    where
      fronts : slice_cmp nat_cmp (padded 16 ds) (padded 16 es) ≡ nat_cmp (bcd_number ds) (bcd_number es)
      fronts =
          numbers_decide 16 (padded 16 ds) (padded 16 es) (below_sixteen _ (padded_digits 16 ds h))
          (below_sixteen _ (padded_digits 16 es g)) (length-padded 16 ds ∙ sym (length-padded 16 es))

      go : (¬ (bcd_number ds ≡ bcd_number es)) ⊎ ((length ds ≤ 16) × (length es ≤ 16))
          → slice_cmp nat_cmp (padded 16 ds) (padded 16 es) ≡ slice_cmp nat_cmp ds es
      go (inl differ) =
          let top = length ds + length es + 16 in
          let xs = ds ++ replicate (top - length ds) 0 in
          let ys = es ++ replicate (top - length es) 0 in
          let left : take 16 xs ≡ padded 16 ds = padded_front 16 top ds (omega arith) (omega arith) in
          let right : take 16 ys ≡ padded 16 es = padded_front 16 top es (omega arith) (omega arith) in
          let decided : (r : Ordering) → ordering_then (nat_cmp (bcd_number ds) (bcd_number es)) r
          ≡ nat_cmp (bcd_number ds) (bcd_number es) = λ r. grind (arith, differ) in
          fronts
          ∙ sym (decided (slice_cmp nat_cmp (drop 16 xs) (drop 16 ys)))
          ∙ ap (λ r. ordering_then r (slice_cmp nat_cmp (drop 16 xs) (drop 16 ys))) (sym fronts)
          ∙ sym (append_order (padded 16 ds) (padded 16 es) (drop 16 xs) (drop 16 ys)
          (length-padded 16 ds ∙ sym (length-padded 16 es)))
          ∙ (λ k. slice_cmp nat_cmp (sym left k ++ drop 16 xs) (sym right k ++ drop 16 ys))
          ∙ (λ k. slice_cmp nat_cmp (take-append-drop 16 xs k) (take-append-drop 16 ys k))
          ∙ zeros_after (top - length ds) (top - length es) ds es p q (λ l. omega (arith, l))
      go (inr few) =
          (λ k. slice_cmp nat_cmp (sym (padded_few 16 ds few.0) k) (sym (padded_few 16 es few.1) k))
          ∙ zeros_after (16 - length ds) (16 - length es) ds es p q (λ l. omega (arith, l))

  -- packed bytes have the order of their digits
  pub bytes_order : (bs cs : List ℕ) → IsPacked bs (length ds) → digits_in bs (length ds) ≡ ds
      → IsPacked cs (length es) → digits_in cs (length es) ≡ es
      → slice_cmp nat_cmp bs cs ≡ slice_cmp nat_cmp ds es
  bytes_order bs cs m e n f =
      nibbles_order bs cs
      ∙ (λ k. slice_cmp nat_cmp (nibbles_are bs ds m e k) (nibbles_are cs es n f k))
      ∙ zeros_after (length ds % 2) (length es % 2) ds es p q (ap (λ l. l % 2))

pub all_below : (base : ℕ) (xs : List ℕ) → ((i : ℕ) → get_or xs i 0 < base) → AllBelowBase base xs
all_below base [] h = tt
all_below base (x ∷ xs) h = (h 0, all_below base xs (λ i. h (suc i)))

-- ---- two values
module _ {ds es : List ℕ} {m m' hi lo hi' lo' : ℤ} (s : IsStored ds m hi lo) (t : IsStored es m' hi' lo') where
  -- digits from the same magnitude down compare as the numbers
  pub numbers_order : m ≡ m' → slice_cmp nat_cmp ds es ≡ nat_cmp (number_of ds m) (number_of es m')
  unfolding number_of number_at
  numbers_order same = grind (steps, digits_order)

  -- if one list is empty, the lengths compare as the numbers
  pub none_order : (length ds ≡ 0) ⊎ (length es ≡ 0)
      → nat_cmp (length ds) (length es) ≡ nat_cmp (number_of ds m) (number_of es m')
  none_order none =
      same_order (length ds) (length es) (number_of ds m) (number_of es m')
      (λ l. let z : length ds ≡ 0 = omega arith in omega (arith, number_of-none s z, number_of-pos t (omega arith)))
      (λ e. let z : length ds ≡ 0 = omega arith in number_of-none s z ∙ sym (number_of-none t (omega arith)))
      (λ l. let z : length es ≡ 0 = omega arith in omega (arith, number_of-none t z, number_of-pos s (omega arith)))

  -- if the first magnitudes differ, they compare as the numbers
  pub magnitudes_order : 0 < length ds → 0 < length es → ¬ (m ≡ m')
      → int_cmp m m' ≡ nat_cmp (number_of ds m) (number_of es m')
  magnitudes_order some some' differ =
      same_int_order m m' (number_of ds m) (number_of es m') (λ l.
      let up : offset m + 1 ≤ offset m' = omega (arith, ints, offset_is m, offset_is m', lowest s, lowest t) in
      let higher : 10 ^ (offset m + 1) ≤ 10 ^ offset m' = pow-le-pow_right (omega arith) up in
      omega (arith, number_of-lt s, number_of-ge t some', higher))
      (λ e. absurd (differ e))
      (λ l.
      let up : offset m' + 1 ≤ offset m = omega (arith, ints, offset_is m, offset_is m', lowest s, lowest t) in
      let higher : 10 ^ (offset m' + 1) ≤ 10 ^ offset m = pow-le-pow_right (omega arith) up in
      omega (arith, number_of-lt t, number_of-ge s some, higher))

  -- a comparison of the stored numbers is a comparison of the values
  pub ordered : {v w : Unsigned} → record { number = number_of ds m; hi = hi; lo = lo } ≡ v
      → record { number = number_of es m'; hi = hi'; lo = lo' } ≡ w → {r : Ordering}
      → r ≡ nat_cmp (number_of ds m) (number_of es m')
      → record { order : r ≡ nat_cmp v.number w.number; valid : IsValue v × IsValue w }
  ordered p q e = record {
    order = e ∙ (λ k. nat_cmp (p k).number (q k).number);
    valid = (value_of_view s p, value_of_view t q);
  }

-- ---- A number has one list of digits.
module _ {ds es : List ℕ} {m n hi lo hi' lo' : ℤ} (t : IsStored ds m hi lo) (u : IsStored es n hi' lo')
    (e : number_of ds m ≡ number_of es n) where
  -- one number has one first magnitude
  pub same_magnitude : m ≡ n
  same_magnitude = sym (first_of t) ∙ ap first e ∙ first_of u

  -- one count of digits
  pub same_length : length ds ≡ length es
  same_length = elim (cases_lt 0 (length ds)) [
    | inl h ↦ elim (cases_lt 0 (length es)) [
      | inl k ↦
          let a = last-number_of t h in
          let b = last-number_of u k in
          let l = ap last e in
          let m' = same_magnitude in
          omega (arith, ints, a, b, l, m')
      | inr k ↦ let z : length es ≡ 0 = omega arith in let y = none_of t (e ∙ number_of-none u z) in omega arith
    ]
    | inr h ↦ let z : length ds ≡ 0 = omega arith in let y = none_of u (sym e ∙ number_of-none t z) in omega arith
  ]

  -- and one list of digits
  pub same_digits : ds ≡ es
  same_digits = ext_get_or 0 ds es same_length (λ i h.
      let k : i < length es = omega (arith, same_length) in
      let m' = same_magnitude in
      let p : (m -ℤ pos i) +ℤ pos i ≡ m = omega (arith, ints) in
      let q : (m -ℤ pos i) +ℤ pos i ≡ n = omega (arith, ints, m') in
      let b : negsuc 32767 ≤ℤ (m -ℤ pos i) = grind (arith, offset_is, lowest) in
      sym (digit-number_of-in t (m -ℤ pos i) i p b h)
      ∙ ap (λ x. digit x (m -ℤ pos i)) e
      ∙ digit-number_of-in u (m -ℤ pos i) i q b k)

-- values that pass the test are equal
pub same_is : (v w : Unsigned) → same v w ≡ true → v ≡ w
same_is v w h = grind (arith, nat_tests, h)

same_equiv : IsEquivalence same
same_equiv = search (rules, arith, ints, clamps, nat_tests)

-- equal values pass the test
pub is_same : (v w : Unsigned) → v ≡ w → same v w ≡ true
is_same v w e = subst (λ u. same v u ≡ true) e (same_equiv.refl v)

-- unequal values fail it
pub not_same : (v w : Unsigned) → ¬ (v ≡ w) → same v w ≡ false
not_same v w n = grind (arith, nat_tests, ints)

-- equal texts are those of equal values
text_same : (v w : Unsigned) → IsValue v → IsValue w → text v ≡ text w → v ≡ w
text_same v w p q e = let r = sym (read_text v p) ∙ ap read e ∙ read_text w q in cc

-- a test for equality of two values decides equality of the values and of their texts
pub tells : (b : Bool) (v w : Unsigned) → IsValue v × IsValue w → b ≡ same v w → record {
  same : b ≡ same v w;
  value : IsTrue b ↔ (v ≡ w);
  texts : IsTrue b ↔ (text v ≡ text w);
  valid : IsValue v × IsValue w;
}
tells b v w valid e = record {
  same = e;
  value = (λ x. same_is v w (sym e ∙ x), λ p. e ∙ is_same v w p);
  texts = (λ x. ap text (same_is v w (sym e ∙ x)), λ t. e ∙ is_same v w (text_same v w valid.0 valid.1 t));
  valid = valid;
}
