-- The nibbles of a number in base 16, the highest first.
use Rattle.std.proofs.{Common.{◌≡◌, ℕ, zero, suc, ◌+◌, ◌-◌, ◌*◌, ◌/◌, ◌^◌, ◌<◌, ◌≤◌, List, [], ◌∷◌, ◌++◌, length, get_or, take, replicate, refl, sym, ◌∙◌, ap, arith, All}, lemmas.{Bool.Decides.nat_tests, Grind.{common_steps, same_number_lists}, Int.Digits.number_lt, Int.{clamps, ints}, List.Elements.{recursion_from_All, All-append, All-from_recursion, All-replicate}, List.{length-append, length-replicate, get_or_past, take_all}, Nat.{div-mul-add, mod-mul-add, pow-add, mul-pow}}}
use Rattle.std.specs.{Int.{w64, to_be_bytes, bytes_high_first, byte_at}, Int.Digits.{number_from_digits_after, number_from_digits, AllBelowBase}}
use Rattle.decimal_digits.proofs.lemmas.digits.{DigitLists.{below_take, number_after, number_pad}, Nibbles.nibble_rules, Packing.{encodes, front_digits}, Rules.steps}
use Rattle.decimal_digits.specs.{Nibbles.{digits_in, nibbles, leading_bytes, wide_leading_bytes, padded, IsPacked}, Packing.Encodes}

-- two nibbles to a byte
pub squares : (k : ℕ) → 16 ^ (2 * k) ≡ 256 ^ k
squares k = let e : 2 * k ≡ k + k = omega arith in rw (e, pow-add) (sym (mul-pow 16 16 k))

-- a digit takes four bits
pub hex_pow : (k : ℕ) → 2 ^ (4 * k) ≡ 16 ^ k
hex_pow zero = refl
hex_pow (suc k) =
    let h = hex_pow k in
    let e : 4 * suc k ≡ suc (suc (suc (suc (4 * k)))) = omega arith in
    rw e (omega arith)

-- one byte of a number
byte_is : (k high x low n : ℕ) → low < 256 ^ k → x < 256 → n ≡ (high * 256 + x) * 256 ^ k + low → byte_at k n ≡ x
byte_is zero high x low n l s e = omega arith
byte_is (suc k) high x low n l s e = rw (e, div-mul-add (high * 256 + x) (256 ^ suc k) low l) (mod-mul-add high 256 x s)

-- the lowest nibbles of a number are those of the list that it was computed from
pub nibbles_of_bytes : (k high : ℕ) (ds : List ℕ) → length ds ≡ 2 * k → AllBelowBase 16 ds
    → nibbles (bytes_high_first k (number_from_digits_after 16 high ds)) ≡ ds
unfolding nibbles
nibbles_of_bytes zero high [] l h = refl
nibbles_of_bytes zero high (d ∷ ds) l h = absurd (omega arith)
nibbles_of_bytes (suc k) high [] l h = absurd (omega arith)
nibbles_of_bytes (suc k) high (a ∷ []) l h = absurd (omega arith)
nibbles_of_bytes (suc k) high (a ∷ (b ∷ r)) l h =
    let front = (high * 16 + a) * 16 + b in
    let len : length r ≡ 2 * k = omega arith in
    let places : 16 ^ length r ≡ 256 ^ k = rw len (squares k) in
    let byte = byte_is k high (a * 16 + b) (number_from_digits 16 r) (number_from_digits_after 16 front r)
    (omega (arith, number_lt 16 r h.1.1)) (omega (arith, h))
    (omega (arith, number_after 16 front r, ap (λ p. front * p) places)) in
    grind (steps, h, (nibbles_of_bytes k front r len h.1.1))

-- decimal digits are nibbles
pub below_sixteen : (ds : List ℕ) → AllBelowBase 10 ds → AllBelowBase 16 ds
below_sixteen [] h = tt
below_sixteen (d ∷ ds) h = (omega (arith, h), below_sixteen ds h.1)

-- ---- the first k digits, with zeros after fewer
pub length-padded : (k : ℕ) (ds : List ℕ) → length (padded k ds) ≡ k
unfolding padded
length-padded k ds = grind (arith, nibble_rules)

pub get_or-padded : (k : ℕ) (ds : List ℕ) (i : ℕ) → i < k → get_or (padded k ds) i 0 ≡ get_or ds i 0
unfolding padded
get_or-padded k ds i h = grind (arith, nibble_rules)

pub padded_digits : (k : ℕ) (ds : List ℕ) → All (λ d. d < 10) ds → AllBelowBase 10 (padded k ds)
unfolding padded
padded_digits k ds h =
    grind (arith, ints, clamps, nat_tests, common_steps, below_take, recursion_from_All, All-append, All-replicate)

-- they are the first k of the digits that are padded to more
pub padded_front : (k top : ℕ) (ds : List ℕ) → k ≤ top → length ds ≤ top
    → take k (ds ++ replicate (top - length ds) 0) ≡ padded k ds
padded_front k top ds l h = grind (arith, same_number_lists, nibble_rules, length-padded, get_or-padded)

-- fewer digits are only padded
pub padded_few : (k : ℕ) (ds : List ℕ) → length ds ≤ k → ds ++ replicate (k - length ds) 0 ≡ padded k ds
padded_few k ds h =
    let size : length (ds ++ replicate (k - length ds) 0) ≤ k =
    omega (arith, length-append ds (replicate (k - length ds) 0), length-replicate {A = ℕ} (k - length ds) 0) in
    sym (take_all k _ size)
    ∙ padded_front k k ds (omega arith) h

-- ---- the first sixteen digits
module _ (ds : List ℕ) (h : All (λ d. d < 10) ds) where
  abbrev pub sixteen : List ℕ
  sixteen = padded 16 ds

  pub sixteen_are : length sixteen ≡ 16
  sixteen_are = length-padded 16 ds

  -- they are digits
  pub sixteen_digits : AllBelowBase 10 sixteen
  sixteen_digits = padded_digits 16 ds h

  -- the nibbles of eight bytes are the sixteen digits
  pub sixteen_nibbles : nibbles (to_be_bytes w64 (number_from_digits 16 sixteen)) ≡ sixteen
  sixteen_nibbles = nibbles_of_bytes 8 0 sixteen sixteen_are (below_sixteen sixteen sixteen_digits)

-- digits, as the highest of the 2 * k nibbles of a number, are packed in the first of its k bytes
bytes_encode : (k : ℕ) (ds : List ℕ) (len n : ℕ) → length ds ≡ len → len ≤ 2 * k → AllBelowBase 10 ds
    → n ≡ number_from_digits 16 ds * 16 ^ (2 * k - len)
    → Encodes (take ((len + 1) / 2) (bytes_high_first k n)) len ds
bytes_encode k ds len n l few h e =
    let all = All-from_recursion (λ d. d < 10) ds h in
    let size = length-padded (2 * k) ds in
    let whole : nibbles (bytes_high_first k n) ≡ padded (2 * k) ds =
    rw (e, ← l, ← (number_pad 16 (2 * k - length ds) ds), padded_few (2 * k) ds (omega arith))
    (nibbles_of_bytes k 0 (padded (2 * k) ds) size (below_sixteen _ (padded_digits (2 * k) ds all))) in
    encodes _ _ _ (
      record {
        many = l;
        same = λ j q. grind (arith, nibble_rules, get_or-padded, ap (λ xs. get_or xs j 0) whole);
        decimal = λ j q. all j 0 (omega arith);
        unused = grind (arith, nibble_rules, get_or-padded, get_or_past, ap (λ xs. get_or xs len 0) whole);
      },
      grind (arith, nibble_rules, size, ap length whole),
    )

pub leading_bytes_encode : (ds : List ℕ) (len n : ℕ) → length ds ≡ len → len ≤ 16 → AllBelowBase 10 ds
    → n ≡ number_from_digits 16 ds * 16 ^ (16 - len)
    → Encodes (leading_bytes n len) len ds
unfolding leading_bytes
leading_bytes_encode ds len n l few h e = bytes_encode 8 ds len n l few h e

pub wide_bytes_encode : (ds : List ℕ) (len n : ℕ) → length ds ≡ len → len ≤ 32 → AllBelowBase 10 ds
    → n ≡ number_from_digits 16 ds * 16 ^ (32 - len)
    → Encodes (wide_leading_bytes n len) len ds
unfolding wide_leading_bytes
wide_bytes_encode ds len n l few h e = bytes_encode 16 ds len n l few h e

-- all bytes of a number begin with the digits in its first bytes
pub leading_digits : (number len : ℕ) → IsPacked (leading_bytes number len) len
    → (len ≤ 16) × (digits_in (to_be_bytes w64 number) len ≡ digits_in (leading_bytes number len) len)
unfolding leading_bytes
leading_digits number len p = grind (arith, ints, clamps, nat_tests, common_steps, front_digits)

-- the number of the nibbles in base 16 is that of the bytes in base 256
pub bytes_number : (n : ℕ) (bs : List ℕ)
    → number_from_digits_after 16 n (nibbles bs) ≡ number_from_digits_after 256 n bs
unfolding nibbles
bytes_number n [] = refl
bytes_number n (b ∷ bs) = grind (arith, (bytes_number (n * 256 + b) bs))
