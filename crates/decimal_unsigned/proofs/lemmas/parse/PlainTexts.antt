-- Eight bytes of a text at a time.
use Rattle.std.proofs.{Common.{◌≡◌, ℕ, zero, suc, ◌+◌, ◌-◌, ◌*◌, ◌/◌, ◌%◌, ◌^◌, ◌<◌, ◌≤◌, List, [], ◌∷◌, ◌++◌, length, get_or, take, refl, sym, ◌∙◌, ap, subst, arith, rules, map, bit_and, bit_or}, Math.Nat.pow-suc, lemmas.{Int.Digits.{digits_value_is, number_lt, all_below_base_from_digits, number_more, digits_value_more, digits_more}, List.Elements.All-from_recursion, List.{length-map, take_all}, Nat.{and_block, and_mask, or_block, or_of_8, le_or_l, le_or_r}, Str.digit_value_digit}}
use Rattle.std.specs.{Char.digit_value, Int.{w64, from_be_bytes}, Int.Digits.{number_from_digits, AllBelowBase}, Str.Parse.{AllDigits, digits_value, digits_value_after}}
use Rattle.decimal_digits.proofs.lemmas.digits.{LeadingBytes.below_sixteen, Rules.steps, Words.eight_bytes}
use Rattle.decimal_unsigned.proofs.lemmas.{decimal.Comparing.all_below, from_bcd.BcdNumber.{Lanes, joined, value, value_front, mask, top, stepped, value_joined}}
use Rattle.decimal_unsigned.specs.PlainTexts.{bytes_below}

-- ---- The bytes that are below ten.
-- the high nibble of each of k bytes
high_nibbles : ℕ → ℕ
high_nibbles zero = 0
high_nibbles (suc k) = high_nibbles k * 256 + 240

-- k bytes that are 6
sixes : ℕ → ℕ
sixes zero = 0
sixes (suc k) = sixes k * 256 + 6

both_clear : (r s : ℕ) → r < 256 → s < 256 → bit_and (bit_or r s) 240 ≡ 0 → (r < 16) × (s < 16)
both_clear r s p q h = grind (steps, and_block, and_mask, or_of_8, le_or_l, le_or_r)

-- if no byte of either number has a bit in its high nibble, each is below sixteen
nibbles_clear : (k y z : ℕ) → bit_and (bit_or y z) (high_nibbles k) ≡ 0 → bytes_below 16 k y × bytes_below 16 k z
unfolding high_nibbles
nibbles_clear zero y z h = (tt, tt)
nibbles_clear (suc k) y z h =
    let r = y % 256 in
    let s = z % 256 in
    let m = bit_or (y / 256) (z / 256) in
    let ey : y / 256 * 2 ^ 8 + r ≡ y = omega arith in
    let ez : z / 256 * 2 ^ 8 + s ≡ z = omega arith in
    let o : bit_or y z ≡ m * 2 ^ 8 + bit_or r s =
    ap (λ n. bit_or n z) (sym ey) ∙ ap (λ n. bit_or (y / 256 * 2 ^ 8 + r) n) (sym ez)
    ∙ or_block 8 (y / 256) (z / 256) r s (omega arith) (omega arith) in
    let a : bit_and (bit_or y z) (high_nibbles k * 2 ^ 8 + 240) ≡ bit_and m (high_nibbles k) * 2 ^ 8
    + bit_and (bit_or r s) 240 =
    ap (λ n. bit_and n (high_nibbles k * 2 ^ 8 + 240)) o
    ∙ and_block 8 m (high_nibbles k) (bit_or r s) 240 (or_of_8 r s (omega arith) (omega arith)) (omega arith) in
    let b = both_clear r s (omega arith) (omega arith) (omega (arith, h, a)) in
    let others = nibbles_clear k (y / 256) (z / 256) (omega (arith, h, a)) in
    ((b.0, others.0), (b.1, others.1))

bound : (k y : ℕ) → y < 256 ^ k → bytes_below 16 k y → y * 17 < 256 ^ k
bound zero y l h = omega arith
bound (suc k) y l h = omega (arith, pow-suc 256 k, bound k (y / 256) (omega (arith, pow-suc 256 k)) h.1)

below_wider : (k y : ℕ) → bytes_below 10 k y → bytes_below 16 k y
below_wider zero y h = tt
below_wider (suc k) y h = (omega (arith, h.0), below_wider k (y / 256) h.1)

-- adding 6 to each byte keeps only those below ten below sixteen
below_ten : (k y : ℕ) → bytes_below 16 k y → bytes_below 16 k (y + sixes k) → bytes_below 10 k y
unfolding sixes
below_ten zero y h g = tt
below_ten (suc k) y h g =
    let upper : (y + (sixes k * 256 + 6)) / 256 ≡ y / 256 + sixes k = omega (arith, h.0) in
    (omega (arith, h.0, g.0), below_ten k (y / 256) h.1 (subst (bytes_below 16 k) upper g.1))

pub flags_clear : (y : ℕ) → y < 2 ^ 64
    → bit_and (bit_or y ((y + 0x0606_0606_0606_0606) % 2 ^ 64)) 0xf0f0_f0f0_f0f0_f0f0 ≡ 0 → bytes_below 10 8 y
unfolding high_nibbles sixes
flags_clear y l h =
    let z = (y + 0x0606_0606_0606_0606) % 2 ^ 64 in
    let n = nibbles_clear 8 y z h in
    let small = bound 8 y l n.0 in
    let same : z ≡ y + sixes 8 = omega (arith, small) in
    below_ten 8 y n.0 (subst (bytes_below 16 8) same n.1)

-- ---- The digits of a text.
-- k bytes `0`
zeros : ℕ → ℕ
zeros zero = 0
zeros (suc k) = zeros k * 256 + 48

-- if the bytes of a text exceed those of `0` by less than ten, it is digits
digits_found : (text : List ℕ) (i k y : ℕ) → AllBelowBase 256 text → i ≤ length text → i ≤ k
    → number_from_digits 256 (take i text) ≡ y + zeros i → bytes_below 10 k y
    → AllDigits 10 (take i text) × (digits_value 256 (take i text) ≡ y)
unfolding zeros
digits_found text zero k y h l m e b = (tt, omega (arith, e))
digits_found text (suc i) zero y h l m e b = absurd (omega arith)
digits_found text (suc i) (suc k) y h l m e b =
    let c = get_or text i 0 in
    let one : suc i ≡ i + 1 = omega arith in
    let below : c < 256 = All-from_recursion (λ x. x < 256) text h i 0 l in
    let front = number_more 256 text i l in
    let all : number_from_digits 256 (take i text) * 256 + c ≡ y + (zeros i * 256 + 48) = grind arith in
    let byte : c ≡ y % 256 + 48 = omega (arith, all, below, b.0) in
    let others : number_from_digits 256 (take i text) ≡ y / 256 + zeros i = omega (arith, all, below, b.0) in
    let found = digits_found text i k (y / 256) h (omega arith) (omega arith) others b.1 in
    let digit : digit_value c ≡ y % 256 = omega (arith, digit_value_digit c (search (arith, rules)), byte) in
    rw one (
      digits_more 10 text i l found.0 (omega (arith, digit, b.0)),
      digits_value_more 256 text i l ∙ omega (arith, found.1, digit),
    )

-- ---- The number in base 16.
bytes_wider : (ds : List ℕ) → AllBelowBase 16 ds → AllBelowBase 256 ds
bytes_wider [] h = tt
bytes_wider (d ∷ ds) h = (omega (arith, h.0), bytes_wider ds h.1)

byte_lanes : Lanes 8 16
byte_lanes = grind steps

two_lanes : Lanes 16 256
two_lanes = grind steps

module _ (n : ℕ) (h : n < 2 ^ 64) where
  abbrev pub pairs : ℕ
  pairs = n - 240 * bit_and (n / 2 ^ 8) 0x00ff_00ff_00ff_00ff

  abbrev pub fours : ℕ
  fours = pairs - 65280 * bit_and (pairs / 2 ^ 16) 0x0000_ffff_0000_ffff

  abbrev pub packed : ℕ
  packed = fours - 4294901760 * (fours / 2 ^ 32)

  packed_is : packed ≡ value 256 16 8 n
  unfolding value mask top
  packed_is =
      let a : pairs ≡ joined 8 16 4 n = stepped byte_lanes 4 n 0x00ff_00ff_00ff_00ff h refl in
      let b : fours ≡ joined 16 256 2 pairs = stepped two_lanes 2 pairs 0x0000_ffff_0000_ffff (omega arith) refl in
      let last : packed ≡ value (2 ^ 32) (2 ^ 16) 2 fours = omega arith in
      last ∙ ap (value (2 ^ 32) (2 ^ 16) 2) b ∙ value_joined two_lanes 2 pairs
      ∙ ap (value (2 ^ 16) (2 ^ 8) 4) a ∙ value_joined byte_lanes 4 n

  -- the number in base 16 of the digits that write n in base 256
  pub packed_digits : (ds : List ℕ) → AllBelowBase 16 ds → length ds ≤ 8 → n ≡ number_from_digits 256 ds
      → packed ≡ number_from_digits 16 ds
  packed_digits ds b few is =
      let whole = take_all (length ds) ds (omega arith) in
      grind (arith, packed_is, value_front, bytes_wider)

-- eight digits
module _ (bytes : List ℕ) (word y : ℕ) (eight : length bytes ≡ 8) (below : (i : ℕ) → get_or bytes i 0 < 256)
    (is : word ≡ from_be_bytes w64 bytes) (less : y ≡ (word + (2 ^ 64 - 0x3030_3030_3030_3030)) % 2 ^ 64)
    (tens : bytes_below 10 8 y) where
  pub group_found : AllDigits 10 bytes × (y ≡ number_from_digits 256 (map digit_value bytes))
  unfolding zeros
  group_found =
      let h = all_below 256 bytes below in
      let small = bound 8 y (omega arith) (below_wider 8 y tens) in
      let number : word ≡ number_from_digits 256 bytes = is ∙ eight_bytes bytes eight in
      let lt : number_from_digits 256 bytes < 2 ^ 64 = rw eight at (number_lt 256 bytes h) in
      let sum : word ≡ y + zeros 8 = omega (arith, lt, small, number, less) in
      let whole = take_all 8 bytes (omega arith) in
      let found =
      digits_found bytes 8 8 y h (omega arith) (omega arith)
      (ap (number_from_digits 256) whole ∙ sym number ∙ sum) tens in
      (subst (AllDigits 10) whole found.0, sym (rw whole at found.1) ∙ digits_value_is 256 bytes)

  pub group_number : {number : ℕ}
      → ((ds : List ℕ) → AllBelowBase 16 ds → length ds ≤ 8 → y ≡ number_from_digits 256 ds
      → number ≡ number_from_digits 16 ds)
      → number ≡ digits_value 16 bytes
  group_number packs =
      let l : length (map digit_value bytes) ≡ 8 = length-map bytes digit_value ∙ eight in
      packs (map digit_value bytes) (below_sixteen _ (all_below_base_from_digits 10 bytes group_found.0)) (omega arith)
      group_found.1
      ∙ sym (digits_value_is 16 bytes)

-- ---- Two texts after each other.
pub value_after : (n : ℕ) (text : List ℕ)
    → digits_value_after 16 n text ≡ n * 16 ^ length text + digits_value 16 text
value_after n [] = omega arith
value_after n (c ∷ cs) =
    let d = digit_value c in
    let e : digits_value 16 (c ∷ cs) ≡ (0 * 16 + d) * 16 ^ length cs + digits_value 16 cs =
    value_after (0 * 16 + d) cs in
    let p : 16 ^ length (c ∷ cs) ≡ 16 ^ length cs * 16 = pow-suc 16 (length cs) in
    value_after (n * 16 + d) cs ∙ (rw (e, p) (omega arith))

pub after_append : (n : ℕ) (a b : List ℕ)
    → digits_value_after 16 n (a ++ b) ≡ digits_value_after 16 (digits_value_after 16 n a) b
after_append n [] b = refl
after_append n (c ∷ a) b = after_append (n * 16 + digit_value c) a b
