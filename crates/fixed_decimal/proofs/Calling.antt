-- The lemmas for callers: what a proof outside these libraries cites of them, each with its use.
use Rattle.std.proofs.{Common.{◌≡◌, ℕ, zero, suc, ◌+◌, ◌-◌, ◌*◌, ◌/◌, ◌<◌, ◌≤◌, false, List, [], ◌∷◌, ◌++◌, refl, sym, ◌∙◌, ap, arith, Ok, Err, Some, ℤ, pos, ◌-ℤ◌, ◌%◌, ◌^◌, inl, inr, append_assoc, Option, ◌↔◌, unsigned_abs, negsuc, ◌+ℤ◌, ◌≤ℤ◌, ◌<ℤ◌, ◌==◌}, Math.Nat.{mod-lt, mul_assoc, mul-le-mul_right, mul-lt-mul_of_pos_right, le-mul_of_pos_right, mul-div_cancel, mul-mod_left, div-add-mod', pow-le-pow_right}, lemmas.{Bool.Decides.nat_tests, Bool.cases_lt, Int.{ints, clamps}}}
use Rattle.std.specs.{Int.{int_gap, abs_diff}, Io.KnownBytes.Appends}
use Rattle.decimal_digits.proofs.lemmas.rounding.Ends.{no_more_zeros}
use Rattle.decimal_digits.specs.{AppendsPrefix.AppendsPrefix, Number.{weight, digit, size, offset, magnitude_at, first, last}, Rounding.IsNearest}
use Rattle.decimal_unsigned.proofs.lemmas.{decimal.FirstLast.{top_lt, first_sum, last_sum}, laws.ConcatenationLaws.extent_of}
use Rattle.decimal_unsigned.specs.{Reading.read, Rounded.{with_number, rounded_to}, Text.{dot_before, text_down, text}, ToInteger.as_integer, Unsigned.{Unsigned, IsValue}, ValueLaws.trimmed, declared.error.IntegerError.TheVariants.{NotWhole, OutOfRange}}
use Rattle.fixed_decimal.specs.Decimal.{Decimal, signed_number, with_absolute}
-- for `omega`: an offset is the magnitude plus 32768
pub use Rattle.decimal_digits.proofs.lemmas.ops.Offsets.{offset_is}
-- for `omega`: how far one magnitude is above another
pub use Rattle.decimal_digits.proofs.lemmas.ops.Offsets.{gap_is}
-- a power of ten is above 0, as a divisor has to be
pub use Rattle.decimal_digits.proofs.lemmas.digits.DigitLists.{ten_pos}
-- a power of ten is the product of two
pub use Rattle.decimal_digits.proofs.lemmas.rounding.NumberAt.{powers}
-- the number of a list of digits is below the power of ten of its places
pub use Rattle.decimal_digits.proofs.lemmas.rounding.NumberAt.{number_at-lt}
-- the number that a concatenation of digits writes
pub use Rattle.decimal_digits.proofs.lemmas.digits.DigitLists.{number-append}
-- and that of digits after others; the first digit of a number
pub use Rattle.decimal_digits.proofs.lemmas.digits.DigitLists.{number_after, number_first}
-- digits below ten are below sixteen, and a digit takes four bits
pub use Rattle.decimal_digits.proofs.lemmas.digits.LeadingBytes.{below_sixteen, hex_pow}
-- a magnitude that 16 bits hold is read as it was written
pub use Rattle.decimal_unsigned.proofs.lemmas.decimal.Values.{narrow_kept}
-- the greatest number that passes a test
pub use Rattle.decimal_digits.proofs.lemmas.rounding.Ends.{greatest_is}
-- a number times a power of ten, without its digits below an offset
pub use Rattle.decimal_digits.proofs.lemmas.rounding.Ends.{shift_down}
-- the first digit of a number between two powers of ten
pub use Rattle.decimal_digits.proofs.lemmas.rounding.Ends.{first_is}
-- the last nonzero digit of v * 10 ^ e is at the offset e, if v does not end in 0
pub use Rattle.decimal_digits.proofs.lemmas.rounding.Ends.{last_is}
-- the last digit of a number that a power of ten divides, and no higher one; the first and the last one of 0
pub use Rattle.decimal_digits.proofs.lemmas.rounding.Ends.{last_at, last_zero, first_zero}
-- the first and the last digit of a number above 0: its powers of ten, and the two magnitudes
pub use Rattle.decimal_unsigned.proofs.lemmas.decimal.FirstLast.{Extent, extent, ordered, first_of, last_of}
-- a value is below 10 to the 32768
pub use Rattle.decimal_unsigned.proofs.lemmas.laws.ValueLaws.{below_limit}
-- a number that a range up to hi holds has its first digit at hi or below
pub use Rattle.decimal_unsigned.proofs.lemmas.decimal.FirstLast.{first_le}
-- values do not overlap if the second, unless one of them is 0, begins below the end of the first
pub use Rattle.decimal_unsigned.proofs.lemmas.shift.Concatenations.{not_overlapping}
-- a text is constructed digit by digit: one magnitude, and then the others
pub use Rattle.decimal_unsigned.proofs.lemmas.text.Writing.{text_down-suc}
-- and the text of no magnitudes is empty
pub use Rattle.decimal_unsigned.proofs.lemmas.text.Writing.{text_down-zero}
-- the text of a value reads as the value
pub use Rattle.decimal_unsigned.proofs.lemmas.text.ReadBack.{read_text}
-- each text is read as the grammar says
pub use Rattle.decimal_unsigned.proofs.lemmas.parse.ReadingGrammar.{follows_grammar}
-- two values have one number exactly if they are equal after both trims
pub use Rattle.decimal_unsigned.proofs.lemmas.laws.ValueLaws.{trimmed_is_normal_form}
-- a multiple of the unit is rounded to itself
pub use Rattle.decimal_digits.proofs.lemmas.rounding.RoundingLaws.{rounded_number-multiple}
-- the same rounding again changes nothing
pub use Rattle.decimal_digits.proofs.lemmas.rounding.RoundingLaws.{rounded_number-idempotent}
-- a greater number is rounded to no less
pub use Rattle.decimal_digits.proofs.lemmas.rounding.RoundingLaws.{rounded_number-monotone}
-- a prefix is a prefix of a longer text; a text and then a prefix of the next
pub use Rattle.decimal_digits.proofs.lemmas.sink.Sinks.{prefix_more, then_prefix}
-- a true proposition holds on an error
pub use Rattle.decimal_digits.proofs.lemmas.rounding.Results.{on_err}

-- ---- Magnitudes. `omega (arith, ints, offset_is m)` compares the offsets of magnitudes.
-- the weight of a magnitude k higher is 10 to the k times as much
pub weight_up : (m : ℤ) (k : ℕ) → negsuc 32767 ≤ℤ m → weight (m +ℤ pos k) ≡ weight m * 10 ^ k
weight_up m k h = powers (offset m) k (offset (m +ℤ pos k)) (omega (arith, ints, offset_is m, offset_is (m +ℤ pos k)))

-- ---- The number of digits from the first to the last nonzero one.
size_some : (n : ℕ) → 0 < n → size n ≡ int_gap (last n) (first n) + 1
size_some n h = let t : (n == 0) ≡ false = grind (arith, nat_tests) in rw t refl

-- a number m without digits below 10 ^ cut, and a number n that has only such digits
module _ (m n cut b : ℕ) (divides : m % 10 ^ cut ≡ 0) (less : n < 10 ^ cut) (few : m + n < 10 ^ b)
    (limit : b ≤ 65536) where
  upper : 0 < m → Extent m
  upper some = extent b m some (omega (arith, few)) limit

  lower : 0 < n → Extent n
  lower more = extent b n more (omega (arith, few)) limit

  apart : (some : 0 < m) (more : 0 < n) → (lower more).top < (upper some).bottom
  apart some more =
      let u = upper some in
      let top = top_lt (lower more) cut less in
      grind (arith, ints, clamps, nat_tests, no_more_zeros)

  -- n begins below the end of m
  pub first_below_last : 0 < m → 0 < n → first n <ℤ last m
  first_below_last some more =
      omega (arith, ints, apart some more, first_of (lower more), last_of (upper some))

  -- their sum has the digits from the first one of m to the last one of n
  pub size_joined : 0 < m → 0 < n → size (m + n) ≡ int_gap (last n) (first m) + 1
  size_joined some more =
      let a = first_sum (upper some) (lower more) (apart some more) in
      let z = last_sum (upper some) (lower more) (apart some more) in
      size_some (m + n) (omega arith) ∙ (λ i. int_gap (z i) (a i) + 1)

  -- so it has no fewer digits than either of them
  sizes : (size m ≤ size (m + n)) × (size n ≤ size (m + n))
  sizes = elim (cases_lt 0 m) [
    | inr none ↦ (grind (arith, ints, clamps, nat_tests), grind (arith, ints, clamps, nat_tests))
    | inl some ↦ elim (cases_lt 0 n) [
      | inr none ↦ (grind (arith, ints, clamps, nat_tests), grind (arith, ints, clamps, nat_tests))
      | inl more ↦
          let u = upper some in
          let l = lower more in
          let first_m = first_of u in
          let first_n = first_of l in
          let last_m = last_of u in
          let last_n = last_of l in
          let between = apart some more in
          let joined = size_joined some more in
          let size_m = size_some m some in
          let size_n = size_some n more in
          (omega (arith, ints, gap_is, ordered u, ordered l), omega (arith, ints, gap_is, ordered u, ordered l))
    ]
  ]

  pub size_left : size m ≤ size (m + n)
  size_left = sizes.0

  pub size_right : size n ≤ size (m + n)
  size_right = sizes.1

module _ (n i : ℕ) (e : Extent n) where
  reaches_up : 10 ^ (e.top + i) ≤ n * 10 ^ i
  reaches_up =
      let low : 10 ^ (e.top + i) ≡ 10 ^ e.top * 10 ^ i = powers e.top i (e.top + i) refl in
      omega (arith, low, mul-le-mul_right (10 ^ i) e.reaches)

  limit_up : (b : ℕ) → n * 10 ^ i < 10 ^ b → b ≤ 65536 → e.top + i < 65536
  limit_up b few limit = grind (arith, ints, clamps, nat_tests, pow-le-pow_right, reaches_up)

  module _ (b : ℕ) (few : n * 10 ^ i < 10 ^ b) (limit : b ≤ 65536) where
    first_at : first (n * 10 ^ i) ≡ magnitude_at (e.top + i)
    first_at =
        let high : 10 ^ (e.top + i + 1) ≡ 10 ^ (e.top + 1) * 10 ^ i =
        powers (e.top + 1) i (e.top + i + 1) (omega arith) in
        grind (arith, ints, clamps, nat_tests, first_is, reaches_up, mul-lt-mul_of_pos_right, ten_pos, limit_up)

    last_at_up : last (n * 10 ^ i) ≡ magnitude_at (e.bottom + i)
    last_at_up =
        let split : n * 10 ^ i ≡ e.factor * 10 ^ (e.bottom + i) =
        grind (arith, ints, clamps, nat_tests, mul_assoc, powers) in
        ap last split
        ∙ last_is e.factor (e.bottom + i) e.odd (omega (arith, limit_up b few limit, ordered e))

    size_at : 0 < n → size (n * 10 ^ i) ≡ e.top - e.bottom + 1
    size_at some =
        grind (arith, ints, clamps, nat_tests, reaches_up, ten_pos, size_some, first_at, last_at_up, gap_is)

-- a number times two powers of ten
module _ (n i j b c : ℕ) (few : n * 10 ^ i < 10 ^ b) (less : n * 10 ^ j < 10 ^ c) (limit : b ≤ 65536)
    (limits : c ≤ 65536) where
  both : 0 < n → Extent n
  both some = extent b n some (omega (arith, few, le-mul_of_pos_right n (ten_pos i))) limit

  -- their first digits are as far apart as the exponents
  pub first_up : 0 < n → first (n * 10 ^ i) +ℤ pos j ≡ first (n * 10 ^ j) +ℤ pos i
  first_up some =
      let e = both some in
      omega (arith, ints, first_at n i e b few limit, first_at n j e c less limits)

  -- and they have the same number of digits
  pub size_up : size (n * 10 ^ i) ≡ size (n * 10 ^ j)
  size_up = elim (cases_lt 0 n) [
    | inl some ↦
        let e = both some in
        size_at n i e b few limit some ∙ sym (size_at n j e c less limits some)
    | inr none ↦ grind (arith, ints, clamps, nat_tests)
  ]

-- ---- Integers.
-- the first digit of an integer's value: at k for an integer of k + 1 digits
pub first_of_integer : (n k : ℕ) → 10 ^ k ≤ n → n < 10 ^ (k + 1) → k < 32768 → first (n * weight (pos 0)) ≡ pos k
first_of_integer n k least most few =
    let top = k + offset (pos 0) in
    let low : 10 ^ top ≡ 10 ^ k * weight (pos 0) = powers k (offset (pos 0)) top refl in
    let high : 10 ^ (top + 1) ≡ 10 ^ (k + 1) * weight (pos 0) = grind (arith, ints, clamps, nat_tests, powers) in
    let reaches = mul-le-mul_right (weight (pos 0)) least in
    let below = mul-lt-mul_of_pos_right most (ten_pos (offset (pos 0))) in
    first_is (n * weight (pos 0)) top (omega (arith, low, reaches)) (omega (arith, high, below))
    (omega (arith, offset_is (pos 0)))
    ∙ (omega (arith, ints, offset_is (pos 0)))

-- an integer n divided by 10 ^ (k + 1) is n at the magnitude -(k + 1)
pub integer_down : (n k : ℕ) → k < 32768 → n * weight (pos 0) / 10 ^ suc k ≡ n * weight (negsuc k)
integer_down n k h =
    let split : weight (pos 0) ≡ weight (negsuc k) * 10 ^ suc k =
    grind (arith, ints, clamps, nat_tests, powers, offset_is) in
    (rw (split, ← mul_assoc n (weight (negsuc k)) (10 ^ suc k))
    (mul-div_cancel (n * weight (negsuc k)) (ten_pos (suc k))))

-- ---- What the results of `try_to_u64` and `try_to_u128`, at 2 to the 64 and to the 128, imply about the number.
module _ (bound number : ℕ) where
  -- `Ok(n)`: the number is the integer n
  pub integer_is : (n : ℕ) → as_integer bound number ≡ Ok n → number ≡ n * weight (pos 0)
  integer_is n h = grind (arith, nat_tests, div-add-mod' number (weight (pos 0)))

  -- `NotWhole`: a fraction digit is not 0
  pub not_whole : as_integer bound number ≡ Err NotWhole → ¬ (number % weight (pos 0) ≡ 0)
  not_whole h e = grind (arith, nat_tests)

  -- `OutOfRange`: the number is the bound or more
  pub out_of_range : as_integer bound number ≡ Err OutOfRange → bound * weight (pos 0) ≤ number
  out_of_range h =
      let more : bound ≤ number / weight (pos 0) → bound * weight (pos 0) ≤ number / weight (pos 0) * weight (pos 0) =
      mul-le-mul_right (weight (pos 0)) in
      grind (arith, nat_tests, div-add-mod' number (weight (pos 0)), more)

  -- `OutOfRange`: each fraction digit is 0
  pub out_of_range_whole : as_integer bound number ≡ Err OutOfRange → number % weight (pos 0) ≡ 0
  out_of_range_whole h = grind (arith, nat_tests)

-- ---- Texts.
-- the bytes of the last k digits of n, the first at magnitude m, with a decimal point before magnitude -1
abbrev pub digits_down : ℕ → ℤ → ℕ → List ℕ
digits_down n m zero = []
digits_down n m (suc k) = (dot_before m ++ (48 + n / 10 ^ k % 10) ∷ []) ++ digits_down n (m -ℤ pos 1) k

-- the text of n at the lowest magnitude is the digits of n; these compute if all three arguments are literals
pub text_of_literal : (n : ℕ) (hi lo : ℤ) → negsuc 32767 ≤ℤ lo → lo ≤ℤ hi
    → text (record { number = n * weight lo; hi = hi; lo = lo }) ≡ digits_down n hi (int_gap lo hi + 1)
text_of_literal n hi lo low order = down (int_gap lo hi + 1) hi (omega (arith, ints, gap_is lo hi))
  where
    down : (count : ℕ) (m : ℤ) → m +ℤ pos 1 ≡ lo +ℤ pos count
        → text_down (n * weight lo) m count ≡ digits_down n m count
    down zero m e = text_down-zero (n * weight lo) m
    down (suc k) m e =
        let height : offset m - offset lo ≡ k = omega (arith, ints, offset_is m, offset_is lo) in
        let above : offset lo ≤ offset m = omega (arith, ints, offset_is m, offset_is lo) in
        let here : digit (n * weight lo) m ≡ n / 10 ^ k % 10 = grind (arith, ints, clamps, nat_tests, shift_down) in
        text_down-suc (n * weight lo) m k
        ∙ ap (λ d. (dot_before m ++ (48 + d) ∷ []) ++ text_down (n * weight lo) (m -ℤ pos 1) k) here
        ∙ ap (λ rest. (dot_before m ++ (48 + n / 10 ^ k % 10) ∷ []) ++ rest)
        (down k (m -ℤ pos 1) (omega (arith, ints)))

-- the text of i + j magnitudes is that of the first i and that of the other j
pub text_down-add : (number : ℕ) (m : ℤ) (i j : ℕ)
    → text_down number m (i + j) ≡ text_down number m i ++ text_down number (m -ℤ pos i) j
text_down-add number m zero j = grind (arith, ints, clamps, nat_tests, text_down-zero)
text_down-add number m (suc i) j =
    let here = dot_before m ++ (48 + digit number m) ∷ [] in
    let next : (m -ℤ pos 1) -ℤ pos i ≡ m -ℤ pos (suc i) = omega (arith, ints) in
    ap (text_down number m) (let e : suc i + j ≡ suc (i + j) = omega arith in e)
    ∙ text_down-suc number m (i + j)
    ∙ ap (λ l. here ++ l) (text_down-add number (m -ℤ pos 1) i j)
    ∙ sym (append_assoc here (text_down number (m -ℤ pos 1) i) (text_down number ((m -ℤ pos 1) -ℤ pos i) j))
    ∙ ap (λ l. l ++ text_down number ((m -ℤ pos 1) -ℤ pos i) j) (sym (text_down-suc number m i))
    ∙ ap (λ x. text_down number m (suc i) ++ text_down number x j) next

-- ---- A text of three pieces.
-- the prefix of the text that a sink has taken, if the first, the second or the third piece fails
module _ (xs ys zs : List ℕ) where
  pub first_of_three : (a b : Option (List ℕ)) → AppendsPrefix a b xs → AppendsPrefix a b (xs ++ (ys ++ zs))
  first_of_three a b p = prefix_more a b xs (ys ++ zs) p

  pub second_of_three : (a b c : Option (List ℕ)) → Appends a b xs → AppendsPrefix b c ys
      → AppendsPrefix a c (xs ++ (ys ++ zs))
  second_of_three a b c p q = then_prefix a b c xs (ys ++ zs) p (prefix_more b c ys zs q)

  pub third_of_three : (a b c d : Option (List ℕ)) → Appends a b xs → Appends b c ys → AppendsPrefix c d zs
      → AppendsPrefix a d (xs ++ (ys ++ zs))
  third_of_three a b c d p q r = then_prefix a b d xs (ys ++ zs) p (then_prefix b c d ys zs q r)

-- ---- Normal forms, roundings.

-- a value after both trims is valid
pub trimmed_valid : (v : Unsigned) → IsValue v → IsValue (trimmed v)
trimmed_valid v valid =
    let few = first_le v.number v.hi valid.below valid.hi_in.0 valid.hi_in.1 in
    elim (cases_lt 0 v.number) [
      | inl some ↦
          let e = extent_of v valid some in
          let top : 10 ^ (e.top + 1) ≤ 10 ^ (offset (trimmed v).hi + 1) =
          pow-le-pow_right (omega arith) (omega (arith, ints, clamps, first_of e, offset_is (trimmed v).hi)) in
          let low : offset (trimmed v).lo ≤ e.bottom =
          omega (arith, ints, clamps, last_of e, offset_is (trimmed v).lo) in
          record {
            hi_in = omega (arith, ints, clamps, few, valid.hi_in);
            lo_in = (omega (arith, ints, clamps, last_of e), omega (arith, ints, clamps));
            below = omega (arith, e.below, top);
            whole = ends_low e.factor e.bottom (offset (trimmed v).lo) low e.is;
          }
      | inr none ↦ grind (arith, ints, clamps, nat_tests, last_zero, ten_pos, mul-mod_left)
    ]
  where
    ends_low : (factor bottom low : ℕ) → low ≤ bottom → v.number ≡ factor * 10 ^ bottom → v.number % 10 ^ low ≡ 0
    ends_low factor bottom low h is =
        let split = ap (λ x. factor * x) (powers (bottom - low) low bottom (omega arith)) in
        let all = is ∙ split ∙ sym (mul_assoc factor (10 ^ (bottom - low)) (10 ^ low)) in
        ap (λ n. n % 10 ^ low) all ∙ mul-mod_left (factor * 10 ^ (bottom - low)) (10 ^ low)

-- two values have one number exactly if their texts are equal after both trims
pub trimmed_texts : (v w : Unsigned) → IsValue v → IsValue w
    → (v.number ≡ w.number) ↔ (text (trimmed v) ≡ text (trimmed w))
trimmed_texts v w p q = (
  λ e. ap text ((trimmed_is_normal_form v w).0 e),
  λ t.
      let r = sym (read_text (trimmed v) (trimmed_valid v p)) ∙ ap read t ∙ read_text (trimmed w) (trimmed_valid w q) in
      (trimmed_is_normal_form v w).1 (cc),
)

-- if a rounding to a multiple has a result, it is the value with that multiple
pub rounded_to-some : (v new : Unsigned) (position : ℤ) (multiple : ℕ) → rounded_to v position multiple ≡ Some new
    → with_number v position multiple ≡ new
rounded_to-some v new position multiple e = grind arith

-- the same for a decimal, with its sign unchanged
pub signed_rounded_to-some : (v new : Decimal) (position : ℤ) (multiple : ℕ)
    → with_absolute v (rounded_to v.absolute position multiple) ≡ Some new
    → record v { absolute = with_number v.absolute position multiple } ≡ new
signed_rounded_to-some v new position multiple e = grind arith

-- without its sign the number of a decimal is that of its absolute value
pub absolute_number : (v : Decimal) → unsigned_abs (signed_number v) ≡ v.absolute.number
absolute_number v = grind (arith, ints)

-- no number is more than half a unit away from the nearest multiple
pub nearest_within : (unit n multiple : ℕ) → 0 < unit → IsNearest unit (pos n) (pos multiple)
    → 2 * abs_diff n multiple ≤ unit
nearest_within unit n multiple some nearest =
    omega (arith, ints, nearest (pos (n / unit)), nearest (pos (n / unit + 1)), div-add-mod' n unit, mod-lt n some)
