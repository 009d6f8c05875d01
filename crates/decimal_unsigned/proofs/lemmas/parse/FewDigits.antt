-- The number of digits of a text's value, and when a text has a value.
use Rattle.std.proofs.{Common.{◌≡◌, ℕ, suc, ◌+◌, ◌-◌, ◌*◌, ◌%◌, ◌^◌, ◌<◌, ◌≤◌, Bool, true, false, ◌||◌, List, ◌++◌, length, refl, sym, ◌∙◌, ap, subst, arith, rules, inl, inr, Result, Ok, Err, Option, Some, None, ℤ, pos, negsuc, ◌+ℤ◌, ◌-ℤ◌, ◌≤ℤ◌, IsOkAnd, nat_eq}, Math.Nat.{mul-mod_left, mul-le-mul_right, mul_assoc}, lemmas.{Bool.{cases_lt, or_parts}, Int.Digits.{number_lt, digits_value_is}, Int.ints, Nat.pow-add}}
use Rattle.std.specs.Str.Parse.{AllDigits, digits_value}
use Rattle.decimal_digits.proofs.lemmas.{digits.{DigitLists.ten_pos, Rules.steps}, ops.Offsets.gap_is, rounding.Ends.{no_more_zeros, shift_up}}
use Rattle.decimal_digits.specs.Number.{size, first, last}
use Rattle.decimal_unsigned.proofs.lemmas.{decimal.FirstLast.{Extent, extent, ordered, top_lt, first_of, last_of}, parse.{Plans.{append_digits, long_whole, long_fraction, all_digits, value_scaled}, ReadingGrammar.{read_grammar, result_follows_grammar, result_limit}}}
use Rattle.decimal_unsigned.specs.{Edits.{leaves_limits, multiplied, times_power}, Grammar.{Literal, Grammar}, ParseResult.{IsParseResult, IsPlain, Parses, digit_count}, Reading.{limit, is_outside, value_of, read, mantissa, ReadError, zeros_trimmed, scaled}, Unsigned.Unsigned, declared.error.ParseError.ParseError}

-- ---- Numbers.

-- a number whose first digit is below len + k and whose last is at k or above has at most len digits
size_between : {n : ℕ} (x : Extent n) (k len : ℕ) → 0 < n → x.top < len + k → k ≤ x.bottom → size n ≤ len
size_between {n} x k len some high low =
    let e : nat_eq n 0 ≡ false = search rules in
    let f : first n ≡ pos x.top -ℤ pos 32768 = first_of x in
    let l : last n ≡ pos x.bottom -ℤ pos 32768 = last_of x in
    rw e (omega (arith, ints, gap_is (last n) (first n), f, l, ordered x))

-- a number of at most len digits with k trailing zeros has at most len digits
size_le : (n m k len : ℕ) → n ≡ m * 10 ^ k → m < 10 ^ len → len + k ≤ 65536 → size n ≤ len
size_le n m k len is few top = elim (cases_lt 0 n) [
  | inl some ↦
      let b : (m + 1) * 10 ^ k ≤ 10 ^ len * 10 ^ k = grind (arith, mul-le-mul_right) in
      let below : n < 10 ^ (len + k) = omega (arith, is, b, pow-add 10 len k, ten_pos k) in
      go some (extent (len + k) n some below top) below
  | inr none ↦ let z : n ≡ 0 = omega arith in rw z (omega arith)
]
  where
    go : 0 < n → (x : Extent n) → n < 10 ^ (len + k) → size n ≤ len
    go some x below = size_between x k len some (top_lt x (len + k) below) (elim (cases_lt x.bottom k) [
      | inl h ↦
          absurd (no_more_zeros x.factor x.bottom k x.odd h
          (ap (λ y. y % 10 ^ k) (sym x.is ∙ is) ∙ mul-mod_left m (10 ^ k)))
      | inr h ↦ h
    ])

-- a range that does not leave the limits stays in them
stays : (v : Unsigned) (d : ℤ) → leaves_limits v d ≡ false
    → ((v.hi +ℤ d) ≤ℤ pos 32767) × (negsuc 32767 ≤ℤ (v.lo +ℤ d))
stays v d e = grind (arith, ints)

-- ---- The parts of a text.
module _ (w : Literal) (digits : AllDigits 10 (w.whole ++ w.fraction)) (few : length w.whole ≤ 32768)
    (short : length w.fraction ≤ 32768) where
  written : ℕ
  written = digits_value 10 (w.whole ++ w.fraction)

  written_lt : written < 10 ^ (length w.whole + length w.fraction)
  unfolding written
  written_lt = grind (steps, number_lt, all_digits, digits_value_is)

  -- the number before an exponent
  size_mantissa : size (mantissa w.whole w.fraction).number ≤ length w.whole + length w.fraction
  unfolding written
  size_mantissa = grind (steps, size_le, written, written_lt)

  -- and that number times a power of ten
  size_times : (d : ℤ) → leaves_limits (mantissa w.whole w.fraction) d ≡ false
      → size (times_power (mantissa w.whole w.fraction).number d) ≤ length w.whole + length w.fraction
  unfolding written
  size_times (pos d) stay =
      let within = stays (mantissa w.whole w.fraction) (pos d) stay in
      size_le _ written (32768 - length w.fraction + d) (length w.whole + length w.fraction)
      (mul_assoc written (10 ^ (32768 - length w.fraction)) (10 ^ d)
      ∙ ap (λ x. written * x) (sym (pow-add 10 (32768 - length w.fraction) d))) written_lt
      (omega (arith, ints, within.0))
  size_times (negsuc d) stay =
      let within = stays (mantissa w.whole w.fraction) (negsuc d) stay in
      size_le _ written (32768 - length w.fraction - suc d) (length w.whole + length w.fraction)
      (shift_up written (32768 - length w.fraction) (suc d) (omega (arith, ints, within.1))) written_lt (omega arith)

  size_scaled : (e : Option ℤ) (v : Unsigned) → scaled (mantissa w.whole w.fraction) e ≡ Ok v
      → size v.number ≤ length w.whole + length w.fraction
  unfolding scaled
  size_scaled None v is = grind (steps, size_mantissa)
  size_scaled (Some d) v is =
      go (nat_eq (mantissa w.whole w.fraction).number 0) refl
      (is_outside d || leaves_limits (mantissa w.whole w.fraction) d) refl
    where
      go : (z : Bool) → nat_eq (mantissa w.whole w.fraction).number 0 ≡ z → (o : Bool)
          → (is_outside d || leaves_limits (mantissa w.whole w.fraction) d) ≡ o
          → size v.number ≤ length w.whole + length w.fraction
      go true z o e =
          let same : mantissa w.whole w.fraction ≡ v = (let k = rw z at is in cc) in
          subst (λ (x : Unsigned). size x.number ≤ length w.whole + length w.fraction) same size_mantissa
      go false z true e = absurd (let k = rw (z, e) at is in cc)
      go false z false e =
          let same : zeros_trimmed (multiplied (mantissa w.whole w.fraction) d) ≡ v = (let k = rw (z, e) at is in cc) in
          grind (arith, ints, size_times, or_parts)

-- the value of the parts has no more digits than they have
size_value : (w : Literal) (v : Unsigned) → AllDigits 10 (w.whole ++ w.fraction) → value_of w ≡ Ok v
    → size v.number ≤ length w.whole + length w.fraction
size_value w v digits is = grind (arith, long_whole, long_fraction, size_scaled, value_scaled)

-- parts without an exponent have a value
plain_value : (w : Literal) → AllDigits 10 (w.whole ++ w.fraction) → IsPlain w
    → value_of w ≡ Ok (mantissa w.whole w.fraction)
unfolding scaled
plain_value w digits plain = grind (steps, value_scaled)

-- ---- The result of a parser.

parts_digits : (text : List ℕ) (w : Literal) → Grammar text w → AllDigits 10 (w.whole ++ w.fraction)
parts_digits text w g = append_digits w.whole w.fraction g.whole g.fraction

-- parts without an exponent do not meet the limit
pub plain_is_read : (text : List ℕ) (w : Literal) → Grammar text w → IsPlain w → read text ≡ Err limit → ⊥
plain_is_read text w g plain e =
    let r = read_grammar text w g in
    let v = plain_value w (parts_digits text w g) plain in
    cc

-- the value of parts with few digits is not long
pub few_are_held : (held : ℕ) (text : List ℕ) (w : Literal) → Grammar text w → digit_count w ≤ held
    → IsOkAnd (read text) (λ v. held < size v.number)
    → ⊥
few_are_held held text w g few long = go (value_of w) refl (rw (read_grammar text w g) at long)
  where
    go : (q : Result Unsigned ReadError) → value_of w ≡ q → IsOkAnd q (λ v. held < size v.number) → ⊥
    go (Ok v) e l = omega (arith, size_value w v (parts_digits text w g) e, l, few)
    go (Err x) e l = absurd l

-- so a parser does not fail with `Limit`, nor with `Memory`
pub parsed : (held : ℕ) (text : List ℕ) (r : Result Unsigned ParseError)
    → IsParseResult (λ v. held < size v.number) r (read text) → Parses held text r
parsed held text r a = record {
  parses = a;
  grammar = result_follows_grammar _ text r a;
  plain = λ w g plain e. plain_is_read text w g plain ((result_limit _ r (read text) a).0 e);
  at_most = λ w g few e. few_are_held held text w g few (rw e at a);
}
