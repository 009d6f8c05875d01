-- Blocks and pieces of the text of a value, and texts of at most sixteen digits.
use Rattle.std.proofs.{Common.{◌≡◌, ℕ, suc, ◌+◌, ◌-◌, ◌<◌, ◌≤◌, List, [], ◌∷◌, ◌++◌, length, take, drop, refl, sym, ◌∙◌, ap, arith, ℤ, pos, negsuc, ◌+ℤ◌, ◌-ℤ◌, ◌≤ℤ◌, get_or, replicate, inl, inr, min, ◌<ℤ◌, Option, None, Some, append-nil, IfSome, IfNone}, Math.Seq.{take-append-add, drop-append-add}, lemmas.{Bool.cases_lt, Grind.{common_steps, elements}, Int.ints, List.{length-append, length-drop, take_all, get_or-take, get_or-drop, length-take-le, length-map, length-replicate, get_or-map, take-append-le, drop-append-le, get_or-replicate, take_at}}}
use Rattle.std.specs.{Int.int_gap, Option.unwrap_or}
use Rattle.decimal_digits.proofs.lemmas.{digits.Rules.steps, ops.Offsets.{offset_is, gap_is}}
use Rattle.decimal_digits.specs.{Digits.{number_of, text_of}, Number.{offset, digit}}
use Rattle.decimal_unsigned.proofs.lemmas.{decimal.Values.{digit-number_of-above, digit-number_of-in, digit-number_of-below}, text.{Lengths.length-text, Writing.{byte, bytes_down, length-bytes_down, bytes_down-part, fraction_text, text_is, bytes_are}}}
use Rattle.decimal_unsigned.specs.{Stored.IsStored, Text.text, Unsigned.{Unsigned, IsValue}}

-- ---- An element of a list after a write to the k places from a on.
module _ (a k : ℕ) (xs ys : List ℕ) (fits : a + k ≤ length xs) (full : length ys ≡ k) where
  part_length : length (take a xs ++ (ys ++ drop k (drop a xs))) ≡ length xs
  part_length = grind (arith, common_steps)

  part_before : (i : ℕ) → i < a → get_or (take a xs ++ (ys ++ drop k (drop a xs))) i 0 ≡ get_or xs i 0
  part_before i h = grind (arith, common_steps)

  part_within : (i : ℕ) → a ≤ i → i < a + k → get_or (take a xs ++ (ys ++ drop k (drop a xs))) i 0 ≡ get_or ys (i - a) 0
  part_within i h l = grind (arith, common_steps)

  part_after : (i : ℕ) → a + k ≤ i → get_or (take a xs ++ (ys ++ drop k (drop a xs))) i 0 ≡ get_or xs i 0
  part_after i h = grind (arith, common_steps)

-- ---- Places that hold zeros, byte by byte.
-- a block of n zeros
abbrev pub block_of : ℕ → List ℕ
block_of n = replicate n 48

module _ (xs : List ℕ) (zeros : xs ≡ replicate (length xs) 48) where
  -- the first places hold zeros too
  pub zeros_front : (a : ℕ) → a ≤ length xs → take a xs ≡ replicate (length (take a xs)) 48
  zeros_front a h = grind (arith, elements)

  -- and so do the remaining places
  pub zeros_after : (a : ℕ) → drop a xs ≡ replicate (length (drop a xs)) 48
  zeros_after a = grind (arith, elements)

-- and all but one
pub zeros_rest : (xs ys : List ℕ) (x : ℕ) → xs ≡ replicate (length xs) 48 → xs ≡ x ∷ ys
    → ys ≡ replicate (length ys) 48
zeros_rest xs ys x zeros e = grind (arith, elements)

-- the first places of a block hold zeros
pub zeros_first : (n a : ℕ) → a ≤ n → take a (block_of n) ≡ replicate (length (take a (block_of n))) 48
zeros_first n a h = grind (arith, elements)

-- the distance of a magnitude below the first one, or 0
pub index_gap : (index : Option ℕ) (first magnitude : ℤ) → IfSome index (λ i. magnitude +ℤ pos i ≡ first)
    → IfNone index (first <ℤ magnitude)
    → unwrap_or index 0 ≡ int_gap magnitude first
index_gap None first magnitude some none = omega (arith, ints, gap_is magnitude first, none)
index_gap (Some i) first magnitude some none = omega (arith, ints, gap_is magnitude first, some)

module _ {ds : List ℕ} {m hi lo : ℤ} (t : IsStored ds m hi lo) (q : ℤ) (low : negsuc 32767 ≤ℤ q)
    (n from start count : ℕ) (few : n ≤ offset q + 1) (from_is : from ≡ min (int_gap q m) (length ds))
    (start_is : start ≡ min (int_gap m q) n) (count_is : count ≡ min (length ds - from) (n - start)) where
  length-copied : length (take count (drop from ds)) ≡ count
  length-copied = length-take-le count (drop from ds) (omega (arith, length-drop from ds))

  -- the digits of a block of zeros in which the stored digits are written
  pub block_digit : (zeros ys : List ℕ) (k j : ℕ) → zeros ≡ replicate n 48 → k ≡ count → j ≡ count
      → ys ≡ text_of (take j (drop from ds))
      → (i : ℕ) → i < length (take start zeros ++ (ys ++ drop k (drop start zeros)))
      → get_or (take start zeros ++ (ys ++ drop k (drop start zeros))) i 0 ≡ 48 + digit (number_of ds m) (q -ℤ pos i)
  block_digit zeros ys k j zeros_are k_is j_is ys_are i inside = elim (cases_lt i start) [
    | inl before ↦
        part_before start k zeros ys fits full i before ∙ zero_byte
        ∙ sym (ap (λ d. 48 + d)
        (digit-number_of-above t (q -ℤ pos i) (omega (arith, ints, gap_is m q, start_is)) in_range))
    | inr from_start ↦ elim (cases_lt i (start + k)) [
      | inl within ↦
          let short : i - start < count = omega arith in
          let long : i - start < length (take count (drop from ds)) = omega (arith, length-copied) in
          let e : (q -ℤ pos i) +ℤ pos (from + (i - start)) ≡ m = omega (arith, ints, gap_is) in
          part_within start k zeros ys fits full i from_start within
          ∙ ap (λ l. get_or l (i - start) 0) letters
          ∙ get_or-map (λ d. 48 + d) (take count (drop from ds)) (i - start) 0 0 long
          ∙ ap (λ d. 48 + d) (get_or-take count (drop from ds) (i - start) 0 short ∙ get_or-drop from ds (i - start) 0
          ∙ sym (digit-number_of-in t (q -ℤ pos i) (from + (i - start)) e in_range (omega (arith, count_is))))
      | inr following ↦
          let b = i + int_gap q m - int_gap m q in
          let e : (q -ℤ pos i) +ℤ pos b ≡ m = omega (arith, ints, gap_is m q, gap_is q m, start_is, h) in
          part_after start k zeros ys fits full i following ∙ zero_byte
          ∙ sym (ap (λ d. 48 + d)
          (digit-number_of-below t (q -ℤ pos i) b e in_range
          (omega (arith, gap_is m q, gap_is q m, from_is, start_is, count_is, k_is, h))))
    ]
  ]
    where
      zeros_length : length zeros ≡ n
      zeros_length = ap length zeros_are ∙ length-replicate n 48

      letters : ys ≡ text_of (take count (drop from ds))
      letters = ys_are ∙ ap (λ c. text_of (take c (drop from ds))) j_is

      fits : start + k ≤ length zeros
      fits = omega (arith, zeros_length, start_is, count_is)

      full : length ys ≡ k
      full = ap length letters ∙ length-map (take count (drop from ds)) (λ d. 48 + d) ∙ length-copied ∙ sym k_is

      h : i < n
      h = omega (arith, inside, part_length start k zeros ys fits full, zeros_length)

      zero_byte : get_or zeros i 0 ≡ 48
      zero_byte = ap (λ l. get_or l i 0) zeros_are ∙ get_or-replicate n i 48 0 h

      in_range : negsuc 32767 ≤ℤ (q -ℤ pos i)
      in_range = omega (arith, ints, offset_is q, h)

-- ---- The bytes from an index on of the text of a value.
module _ (v : Unsigned) (valid : IsValue v) (dot : ℕ) (dot_is : dot ≡ int_gap (pos 0) v.hi + 1) where
  abbrev whole : List ℕ
  whole = bytes_down v.number v.hi dot

  abbrev rest : List ℕ
  rest = fraction_text v.number v.lo

  whole_length : length whole ≡ dot
  whole_length = length-bytes_down v.number v.hi dot

  -- the decimal point follows magnitude 0
  dot_at : pos dot ≡ (v.hi +ℤ pos 1)
  dot_at = omega (arith, ints, gap_is (pos 0) v.hi, valid.hi_in)

  split : text v ≡ whole ++ rest
  split = text_is v valid.hi_in.0 valid.lo_in.1 ∙ ap (λ n. bytes_down v.number v.hi n ++ rest) (sym dot_is)

  -- a text longer than the index of the decimal point has one there, followed by b digits
  past : (i : ℕ) → dot < i → i ≤ length (text v)
      → (b : ℕ) × (rest ≡ 46 ∷ bytes_down v.number (negsuc 0) b) × (i ≤ dot + suc b) × (b ≤ 32768)
  past i h l = go v.lo (ap length split ∙ length-append whole rest) valid.lo_in.0
    where
      go : (lo : ℤ) → length (text v) ≡ length whole + length (fraction_text v.number lo) → negsuc 32767 ≤ℤ lo
          → (b : ℕ) × (fraction_text v.number lo ≡ 46 ∷ bytes_down v.number (negsuc 0) b) × (i ≤ dot + suc b)
          × (b ≤ 32768)
      go (pos k) e low = absurd (omega (arith, e, whole_length))
      go (negsuc b) e low =
          let some = length-bytes_down v.number (negsuc 0) (suc b) in
          (suc b, refl, omega (arith, e, whole_length, some), omega (arith, ints))

  -- a piece before the decimal point
  pub piece_above : (from n : ℕ) → from + n ≤ dot
      → take n (drop from (text v)) ≡ bytes_down v.number (v.hi -ℤ pos from) n
  piece_above from n h =
      grind (arith, split, drop-append-le, whole_length, take-append-le, length-drop, bytes_down-part)

  -- a piece of a digits, the decimal point and k digits
  pub piece_over : (from a k : ℕ) → from + a ≡ dot → from + (a + suc k) ≤ length (text v)
      → take (a + suc k) (drop from (text v))
      ≡ bytes_down v.number (v.hi -ℤ pos from) a ++ 46 ∷ bytes_down v.number (negsuc 0) k
  piece_over from a k e l =
      let p = past (dot + suc k) (omega arith) (omega arith) in
      let some : length (drop from whole) ≡ a = omega (arith, length-drop from whole, whole_length) in
      let front : drop from whole ≡ bytes_down v.number (v.hi -ℤ pos from) a =
      sym (take_all a (drop from whole) (omega (arith, some)))
      ∙ bytes_down-part v.number v.hi dot from a (omega arith) in
      let back : take k (bytes_down v.number (negsuc 0) p.0) ≡ bytes_down v.number (negsuc 0) k =
      bytes_down-part v.number (negsuc 0) p.0 0 k (omega (arith, p.2)) in
      grind (steps, past, length-drop, whole_length, take_all, bytes_down-part, split, drop-append-le, take-append-add)

  -- a piece after the decimal point
  pub piece_below : (from n : ℕ) → dot < from → 0 < n → from + n ≤ length (text v)
      → take n (drop from (text v)) ≡ bytes_down v.number (v.hi -ℤ pos (from - 1)) n
  piece_below from n h some l =
      let j = from - dot - 1 in
      let p = past (from + n) (omega arith) l in
      let at : from ≡ length whole + suc j = omega (arith, whole_length) in
      let m : negsuc 0 -ℤ pos j ≡ v.hi -ℤ pos (from - 1) = omega (arith, ints, dot_at) in
      grind (steps, past, whole_length, dot_at, split, drop-append-add, bytes_down-part)

  -- a text of one byte is the digit of magnitude 0
  pub one_byte : length (text v) ≡ 1 → byte v.number (pos 0) ∷ [] ≡ text v
  one_byte e =
      let n = length-text v valid.hi_in.0 valid.lo_in.1 in
      let top : pos 0 ≡ v.hi -ℤ pos 0 = omega (arith, ints, valid.hi_in, gap_is (pos 0) v.hi, n) in
      ap (λ m. byte v.number m ∷ []) top
      ∙ sym (piece_above 0 1 (omega (arith, dot_is)))
      ∙ take_all 1 (text v) (omega (arith, e))

  -- ---- The magnitudes of a piece are within the limits.
  -- before the decimal point
  pub fits_above : (from n : ℕ) → from + n ≤ dot → n ≤ offset (v.hi -ℤ pos from) + 1
  fits_above from n h = omega (arith, ints, offset_is (v.hi -ℤ pos from), dot_at)

  -- after a decimal point within the piece
  pub fits_after : (from a k : ℕ) → from + a ≡ dot → from + (a + suc k) ≤ length (text v)
      → k ≤ offset (negsuc 0) + 1
  fits_after from a k e l =
      let p = past (dot + suc k) (omega arith) (omega arith) in
      omega (arith, offset_is (negsuc 0), p.2, p.3)

  -- after the decimal point
  pub fits_below : (from n : ℕ) → dot < from → from + n ≤ length (text v)
      → (n ≤ offset (v.hi -ℤ pos (from - 1)) + 1) × (0 < n → negsuc 32767 ≤ℤ (v.hi -ℤ pos (from - 1)))
  fits_below from n h l =
      let p = past (from + n) (omega arith) l in (
        omega (arith, ints, offset_is (v.hi -ℤ pos (from - 1)), dot_at, p.2, p.3),
        λ some. omega (arith, ints, dot_at, p.2, p.3),
      )

-- ---- The text of a value of at most sixteen digits, by their nibbles.
module _ (v : Unsigned) (valid : IsValue v) (dot : ℕ) (dot_is : dot ≡ int_gap (pos 0) v.hi + 1)
    (few : int_gap v.lo v.hi < 16) (ns : List ℕ) (size : length ns ≡ 16)
    (same : (k : ℕ) → k < 16 → get_or ns k 0 ≡ digit v.number (v.hi -ℤ pos k))
  where
    dot_in : dot ≤ 16
    dot_in = omega (arith, ints, gap_is v.lo v.hi, gap_is (pos 0) v.hi, valid.hi_in, valid.lo_in)

    integer_bytes : text_of (take dot ns) ≡ bytes_down v.number v.hi dot
    integer_bytes =
        let long : length (take dot ns) ≡ dot = length-take-le dot ns (omega (arith, dot_in)) in
        let count = length-map (take dot ns) (λ (d : ℕ). 48 + d) in
        bytes_are v.number v.hi v.hi dot (text_of (take dot ns)) (λ k h.
        let l : k < dot = omega (arith, count) in
        get_or-map (λ d. 48 + d) (take dot ns) k 0 0 (omega arith)
        ∙ ap (λ d. 48 + d) (get_or-take dot ns k 0 l ∙ same k (omega (arith, dot_in)))) refl (count ∙ long)

    fraction_bytes : text_of (drop dot ns) ≡ bytes_down v.number (negsuc 0) (16 - dot)
    fraction_bytes =
        let long : length (drop dot ns) ≡ 16 - dot = omega (arith, length-drop dot ns) in
        let count = length-map (drop dot ns) (λ (d : ℕ). 48 + d) in
        let top : v.hi -ℤ pos dot ≡ negsuc 0 = omega (arith, ints, gap_is (pos 0) v.hi, valid.hi_in) in
        bytes_are v.number (v.hi -ℤ pos dot) (negsuc 0) (16 - dot) (text_of (drop dot ns)) (λ k h.
        let l : dot + k < 16 = omega (arith, count) in
        let e : v.hi -ℤ pos (dot + k) ≡ (v.hi -ℤ pos dot) -ℤ pos k = omega (arith, ints) in
        get_or-map (λ d. 48 + d) (drop dot ns) k 0 0 (omega (arith, count))
        ∙ ap (λ d. 48 + d) (get_or-drop dot ns k 0 ∙ same (dot + k) l ∙ ap (digit v.number) e)) top (count ∙ long)

    -- the integer digits and what follows them, from the digits on both sides of a decimal point
    cut : (lo : ℤ) → lo ≡ v.lo → (n : ℕ) → n ≡ dot + length (fraction_text v.number lo)
        → take n (bytes_down v.number v.hi dot ++ 46 ∷ bytes_down v.number (negsuc 0) (16 - dot))
        ≡ bytes_down v.number v.hi dot ++ fraction_text v.number lo
    cut (pos k) e n is = grind (steps, take_at, length-bytes_down, append-nil)
    cut (negsuc b) e n is =
        let front = length-bytes_down v.number v.hi dot in
        let back = length-bytes_down v.number (negsuc 0) (suc b) in
        let inside : 0 + suc b ≤ 16 - dot = grind (arith, gap_is) in
        let at : n ≡ length (bytes_down v.number v.hi dot) + suc (suc b) = omega (arith, front, back) in
        rw at
        (take-append-add (bytes_down v.number v.hi dot) (46 ∷ bytes_down v.number (negsuc 0) (16 - dot)) (suc (suc b)))
        ∙ ap (λ l. bytes_down v.number v.hi dot ++ 46 ∷ l)
        (bytes_down-part v.number (negsuc 0) (16 - dot) 0 (suc b) inside)

    -- they begin with the text
    pub short_text_is : (block : List ℕ) → block ≡ text_of (take dot ns) ++ 46 ∷ text_of (drop dot ns)
        → take (length (text v)) block ≡ text v
    short_text_is block e =
        grind (arith, text, fraction_text, length-text, integer_bytes, fraction_bytes, cut, text_is, bytes_down)
