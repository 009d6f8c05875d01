-- The text of a value is read as that value.
use Rattle.std.proofs.Common.{◌≡◌, ℕ, zero, suc, ◌+◌, ◌-◌, ◌*◌, ◌/◌, ◌%◌, ◌^◌, ◌<◌, ◌≤◌, nat_lt, false, List, [], ◌∷◌, ◌++◌, length, map, refl, ◌∙◌, ap, arith, append-nil, ℤ, pos, negsuc, ◌+ℤ◌, ◌-ℤ◌, ◌≤ℤ◌, None, Ok}
use Rattle.std.proofs.{Math.Arith.mod-mul, Math.Nat.{pow-suc, mod-lt, mod-eq_of_lt, div-div-eq-div-mul, div-lt_iff_lt-mul, div-add-mod'}}
use Rattle.std.proofs.lemmas.{Bool.Decides.nat_tests, Int.ints, Int.Digits.digits_value_is, List.length-map, Nat.pow-add, Str.digit_value_digit}
use Rattle.std.specs.{Char.digit_value, Int.int_gap, Str.Parse.{AllDigits, digits_value}}
use Rattle.decimal_digits.proofs.lemmas.{digits.{DigitLists.{ten_pos, number_first}, Rules.steps}, ops.Offsets.{offset_is, gap_is}}
use Rattle.decimal_digits.specs.Number.{offset, weight, digit}
use Rattle.decimal_unsigned.proofs.lemmas.{parse.ReadingGrammar.read_grammar, text.Writing.{byte, bytes_down, length-bytes_down, fraction_text, text_is}}
use Rattle.decimal_unsigned.specs.{Grammar.{Literal, integer, decimal}, Reading.{read, scaled, value_of}, Text.text, Unsigned.{Unsigned, IsValue}}

-- ---- The numbers that ASCII digits write.
-- the ASCII byte of a digit has its value
digit_byte : (d : ℕ) → d < 10 → digit_value (48 + d) ≡ d
digit_byte d h = grind (arith, digit_value_digit)

low_digit : (number : ℕ) (m : ℤ) → digit number m < 10
low_digit number m = mod-lt (number / weight m) (omega arith)

bytes_digits : (number : ℕ) (m : ℤ) (n : ℕ) → AllDigits 10 (bytes_down number m n)
bytes_digits number m zero = tt
bytes_digits number m (suc n) = grind (arith, low_digit, digit_byte, digit, (bytes_digits number (m -ℤ pos 1) n))

bytes_worth : (number low : ℕ) (m : ℤ) (n : ℕ) → (0 < n → low + n ≡ offset m + 1)
    → digits_value 10 (bytes_down number m n) ≡ number / 10 ^ low % 10 ^ n
bytes_worth number low m zero h = omega arith
bytes_worth number low m (suc n) h =
    let d = digit number m in
    let cs = bytes_down number (m -ℤ pos 1) n in
    let at : offset m ≡ low + n = omega (arith, h (omega arith)) in
    let rest = bytes_worth number low (m -ℤ pos 1) n
    (λ p. omega (arith, ints, at, offset_is m, offset_is (m -ℤ pos 1))) in
    let e : digits_value 10 ((48 + d) ∷ cs) ≡ d * 10 ^ n + number / 10 ^ low % 10 ^ n =
    digits_value_is 10 ((48 + d) ∷ cs)
    ∙ number_first 10 (digit_value (48 + d)) (map digit_value cs)
    ∙ (rw (
      ← digits_value_is 10 cs,
      rest,
      digit_byte d (low_digit number m),
      length-map cs digit_value,
      length-bytes_down number (m -ℤ pos 1) n,
    ) refl) in
    grind (steps, pow-add, div-div-eq-div-mul, mod-mul, ten_pos, pow-suc)

bytes-append : (number : ℕ) (m k : ℤ) (a b : ℕ) → k ≡ m -ℤ pos a
    → bytes_down number m a ++ bytes_down number k b ≡ bytes_down number m (a + b)
bytes-append number m k zero b e = grind steps
bytes-append number m k (suc a) b e =
    let n : suc (a + b) ≡ suc a + b = omega arith in
    ap (λ l. byte number m ∷ l) (bytes-append number (m -ℤ pos 1) k a b (omega (arith, ints)))
    ∙ ap (bytes_down number m) n

-- ---- The value of a text of digits.
module _ (number : ℕ) (hi : ℤ) (dot b low : ℕ) (dot_is : pos dot ≡ hi +ℤ pos 1) (positive : pos 0 ≤ℤ hi)
    (high : hi ≤ℤ pos 32767) (split : low + b ≡ 32768) (below : number < 10 ^ (offset hi + 1))
    (none : number % 10 ^ low ≡ 0) where
  abbrev whole : List ℕ
  whole = bytes_down number hi dot

  abbrev fraction : List ℕ
  fraction = bytes_down number (negsuc 0) b

  worth : digits_value 10 (whole ++ fraction) ≡ number / 10 ^ low
  worth =
      let n : low + (dot + b) ≡ offset hi + 1 = omega (arith, ints, offset_is hi) in
      let k : offset hi + 1 ≡ dot + b + low = omega arith in
      let l : number / 10 ^ low < 10 ^ (dot + b) = grind (arith, div-lt_iff_lt-mul, ten_pos, pow-add) in
      ap (digits_value 10) (bytes-append number hi (negsuc 0) dot b (omega (arith, ints)))
      ∙ bytes_worth number low hi (dot + b) (λ p. n)
      ∙ mod-eq_of_lt l

  value_written : value_of (record { whole = whole; fraction = fraction; exponent = None })
      ≡ Ok (record { number = number; hi = hi; lo = pos 0 -ℤ pos b })
  unfolding value_of scaled
  value_written =
      let p = length-bytes_down number hi dot in
      let q = length-bytes_down number (negsuc 0) b in
      let few : dot ≤ 32768 = omega (arith, ints) in
      let s : nat_lt 32768 (length whole) ≡ false = grind (arith, nat_tests, p, few) in
      let t : nat_lt 32768 (length fraction) ≡ false = grind (arith, nat_tests, q, split) in
      let low_is : 32768 - b ≡ low = omega arith in
      grind (steps, div-add-mod', worth)

module _ (v : Unsigned) (valid : IsValue v) where
  abbrev dot : ℕ
  dot = int_gap (pos 0) v.hi + 1

  abbrev written : List ℕ → Literal
  written fraction = record { whole = bytes_down v.number v.hi dot; fraction = fraction; exponent = None }

  value : (b : ℕ) → pos 0 -ℤ pos b ≡ v.lo → value_of (written (bytes_down v.number (negsuc 0) b)) ≡ Ok v
  value b e =
      value_written v.number v.hi dot b (offset v.lo) (omega (arith, ints, gap_is (pos 0) v.hi, valid.hi_in))
      valid.hi_in.0 valid.hi_in.1 (omega (arith, ints, e, offset_is v.lo, valid.lo_in)) valid.below valid.whole
      ∙ (λ i. Ok (record { number = v.number; hi = v.hi; lo = e i }))

  read_shown : (lo : ℤ) → v.lo ≡ lo
      → read (bytes_down v.number v.hi dot ++ fraction_text v.number lo) ≡ Ok v
  read_shown (pos k) e =
      read_grammar _ (written [])
      (record {
        whole = bytes_digits v.number v.hi dot;
        fraction = tt;
        form = integer (omega (arith, length-bytes_down v.number v.hi dot)) refl refl (append-nil _);
      })
      ∙ value 0 (omega (arith, ints, e, valid.lo_in))
  read_shown (negsuc b) e =
      read_grammar _ (written (bytes_down v.number (negsuc 0) (suc b)))
      (record {
        whole = bytes_digits v.number v.hi dot;
        fraction = bytes_digits v.number (negsuc 0) (suc b);
        form = decimal (omega arith) refl refl;
      })
      ∙ value (suc b) (omega (arith, ints, e))

  -- the text of a value is read as that value
  pub read_text : read (text v) ≡ Ok v
  read_text = ap read (text_is v valid.hi_in.0 valid.lo_in.1) ∙ read_shown v.lo refl
