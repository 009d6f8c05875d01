-- Plain texts: their digits as a number in base 16, and the value of their parts.
use Rattle.std.proofs.Common.{◌≡◌, ℕ, suc, ◌+◌, ◌-◌, ◌*◌, ◌/◌, ◌%◌, ◌^◌, ◌<◌, ◌≤◌, inl, inr, true, List, [], ◌∷◌, ◌++◌, length, get_or, take, drop, map, refl, sym, ◌∙◌, ap, subst, arith, Some, None, option_map, Result, Ok, pos, ◌-ℤ◌, append-nil, replicate, ℤ, rules, IsOkAnd}
use Rattle.std.proofs.{Math.ListN.get_or-eq_default, Math.Nat.{mul-lt-mul_of_pos_right, pow-le-pow_right, pow-suc, mod-eq_of_lt, zero-div, one-le-pow, div-eq_of_lt-le, mod-add-mod}, Math.Seq.take-add}
use Rattle.std.proofs.lemmas.{Bool.cases_lt, Bool.Decides.nat_tests, Int.ints, Int.Digits.{number_lt, digits_value_is, all_below_base_from_digits, number_more as number_more_digits}, List.{take_all, length-append, length-drop, length-take, length-take-le, length-map, drop-drop, drop_all, at_drop_more, take_more}, List.Sums.{prefix_len-le-length, prefix_len-drop_yes}, Nat.{pow-add, mod-mul-add, mul-mod_first, leading_top, leading_le}, Nat.Bits.{bit_at_above, bit_at-trailing_zeros}}
use Rattle.std.specs.{Char.{is_ascii_digit, digit_value}, Int.{int_min, Width, w64, bit_at, leading_zeros, trailing_zeros}, Int.Digits.{number_from_digits, AllBelowBase}, List.prefix_len, Str.Parse.{AllDigits, digits_value, digits_value_after}}
use Rattle.decimal_digits.proofs.lemmas.{digits.{DigitLists.{number-div, below_at}, LeadingBytes.{below_sixteen, hex_pow, leading_bytes_encode}, Rules.steps, TrailingNibbles.{clear_nibble, some_nibble}, Words.zeros_of_digits}, ops.Offsets.offset_is}
use Rattle.decimal_digits.specs.{Ascii.decimal_point, Digits.{number_of, number_at}, Nibbles.{digits_in, leading_bytes, word_nibbles}, Number.size, Packing.{Encodes, length-nibbles}}
use Rattle.decimal_unsigned.proofs.lemmas.{decimal.Values.{size-number_of, number_of_empty, stored_as}, parse.{GrammarParts.{value_of_digit, count_group, tests_digits}, Middle.{number_zeros, middle_length, middle_below, number_middle, number_of-middle, stored_middle}, PlainTexts.{after_append, value_after}, Plans.{read_some, digits_some, all_digits, length_digits, value_scaled}}}
use Rattle.decimal_unsigned.specs.{DigitValues.{IsBcd, value_of_first}, Grammar.Literal, Parts.saturated_parts, PlainTexts.{IsReadTo, IsPlainText, plain_parts}, Reading.{read, ReadError, scaled, parts_of, after_whole, after_fraction}, ScannedDigits.{middle, IsNonzeroRange, digits_of, IsBcdValue}, Stored.IsStored, Unsigned.Unsigned, declared.decimal.parse.fast_path.PlainText.PlainText, declared.decimal.parse.plan.Bounds.Bounds}
use mir.Val.{bits}

-- ---- The loops over a text.
-- a remainder is continued as the number
mod_step : (n q v p : ℕ) → (n % p * q + v) % p ≡ (n * q + v) % p
mod_step n q v p =
    sym (mod-add-mod (n % p * q) p v) ∙ ap (λ a. (a + v) % p) (mul-mod_first n q p) ∙ mod-add-mod (n * q) p v

module _ {p before : ℕ} {text : List ℕ} {i number : ℕ} (read : IsReadTo p before text i number) where
  -- the number after more digits
  continued : (j q v : ℕ) (more : List ℕ) → take j text ≡ take i text ++ more → q ≡ 16 ^ length more
      → v ≡ digits_value 16 more → (number * q % p + v) % p ≡ digits_value_after 16 before (take j text) % p
  continued j q v more all places is = grind (arith, mod-add-mod, mod_step, after_append, value_after)

  -- a digit more
  pub read_digit : i < length text → is_ascii_digit (get_or text i 0) ≡ true
      → IsReadTo p before text (i + 1) ((number * 16 % p + (get_or text i 0 - 48)) % p)
  read_digit h d = record {
    digits = omega (arith, prefix_len-drop_yes is_ascii_digit text i 0 h d, read.digits);
    value = grind (steps, continued, take_more, value_of_digit);
  }

  -- eight digits more
  pub read_eight : (group : ℕ) → i + 8 ≤ length text → AllDigits 10 (take 8 (drop i text))
      → group ≡ digits_value 16 (take 8 (drop i text))
      → IsReadTo p before text (i + 8) ((number * 2 ^ 32 % p + group) % p)
  read_eight group h d e =
      let bytes = take 8 (drop i text) in
      let eight : length bytes ≡ 8 = length-take-le 8 (drop i text) (omega (arith, length-drop i text)) in
      record {
        digits = count_group text i 8 (omega arith) (tests_digits.from bytes d) read.digits;
        value = continued (i + 8) (2 ^ 32) group bytes (take-add i 8 text) (ap (λ k. 16 ^ k) (sym eight)) e;
      }

-- ---- The integer digits and the fraction digits.
-- the number of the integer digits continued by the fraction digits is the number of both
fraction_numbered : (p : ℕ) (whole fraction : List ℕ) (number more : ℕ) → number ≡ digits_value 16 whole % p
    → more ≡ digits_value_after 16 number fraction % p → more ≡ digits_value 16 (whole ++ fraction) % p
fraction_numbered p whole fraction number more e f = grind (arith, value_after, mod_step, after_append)

-- k digits fit into 4 * k bits
digits_fit : (k : ℕ) (text : List ℕ) → AllDigits 10 text → length text ≤ k → digits_value 16 text < 2 ^ (4 * k)
digits_fit k text h few =
    let below = below_sixteen _ (all_below_base_from_digits 10 text h) in
    let lt : digits_value 16 text < 16 ^ length text =
    rw (digits_value_is 16 text, ← length-map text digit_value) (number_lt 16 (map digit_value text) below) in
    rw (hex_pow k) (omega (arith, lt, pow-le-pow_right {n = 16} (omega arith) few))

-- ---- The digits between the zeros.
-- the number without its leading zero nibbles, of k nibbles in all, begins with the digits from `start` to `end`
pub middle_number : (ds : List ℕ) (k number zeros start end : ℕ) → AllBelowBase 10 ds
    → number ≡ number_from_digits 16 ds → IsNonzeroRange ds start end → length ds - start ≤ k
    → zeros ≡ k - (length ds - start)
    → number * 2 ^ (4 * zeros) % 2 ^ (4 * k)
    ≡ number_from_digits 16 (middle start end ds) * 16 ^ (k - (end - start))
middle_number ds k number zeros start end below is n few z =
    let len = end - start in
    let mid = middle start end ds in
    let m = number_from_digits 16 mid in
    let l = middle_length ds start end n in
    let below_mid = middle_below ds start end n below in
    let m_lt : m < 16 ^ len = subst (λ i. m < 16 ^ i) l (number_lt 16 mid (below_sixteen mid below_mid)) in
    let places : 16 ^ len * 16 ^ (k - len) ≡ 2 ^ (4 * k) = grind (arith, pow-add, hex_pow) in
    let lt : m * 16 ^ (k - len) < 2 ^ (4 * k) = grind (arith, mul-lt-mul_of_pos_right, one-le-pow) in
    let following : (length ds - end) + zeros ≡ k - len = omega (arith, n.ordered, n.within, few) in
    let moved : number * 2 ^ (4 * zeros) ≡ m * 16 ^ (k - len) =
    rw (is, number_middle ds start end n 16, hex_pow zeros, ← following, pow-add 16 (length ds - end) zeros)
    (omega arith) in
    ap (λ x. x % 2 ^ (4 * k)) moved ∙ mod-eq_of_lt lt

-- ---- The nibbles of a number and its digits.
-- a digit of a number is a quotient
digit_is : (ds : List ℕ) (k : ℕ) → AllBelowBase 10 ds → k < length ds
    → get_or ds k 0 ≡ number_from_digits 16 ds / 16 ^ (length ds - 1 - k) % 16
digit_is ds k h l =
    let e : length ds - 1 - k ≡ length ds - (k + 1) = omega arith in
    grind (steps, below_at, number-div, below_sixteen, number_more_digits, mod-mul-add)

-- the highest and the lowest set bit are in the first and the last nonzero digit
inner_bits : (ds : List ℕ) (n top low : ℕ) → AllBelowBase 10 ds → n ≡ number_from_digits 16 ds → bit_at n top ≡ 1
    → n < 2 ^ suc top → bit_at n low ≡ 1 → ((i : ℕ) → i < low → bit_at n i ≡ 0)
    → (top / 4 + 1 ≤ length ds) × IsNonzeroRange ds (length ds - (top / 4 + 1)) (length ds - low / 4)
inner_bits ds n top low below is first above last none =
    let len = length ds in
    let lt : n < 2 ^ (4 * len) = rw (is, hex_pow len) (number_lt 16 ds (below_sixteen ds below)) in
    let fits : top / 4 < len = grind (arith, cases_lt, bit_at_above) in
    let order : low ≤ top = grind (arith, cases_lt, bit_at_above) in
    let at : (k j : ℕ) → k < len → j ≡ len - 1 - k → get_or ds k 0 ≡ n / 16 ^ j % 16 = grind (arith, digit_is) in (
      omega arith,
      record {
        ordered = omega arith;
        within = omega arith;
        before = λ k h.
            at k (len - 1 - k) (omega arith) refl
            ∙ clear_nibble n (len - 1 - k)
            (λ i l. bit_at_above n (suc top) (4 * (len - 1 - k) + i) above (omega arith));
        after = λ k h. elim (cases_lt k len) [
          | inl l ↦ grind (arith, ints, nat_tests, clear_nibble)
          | inr l ↦ get_or-eq_default ds 0 l
        ];
        front = rw (at (len - (top / 4 + 1)) (top / 4) (omega arith) (omega arith)) (some_nibble n top first);
        back = rw (at (len - low / 4 - 1) (low / 4) (omega arith) (omega arith)) (some_nibble n low last);
      },
    )

-- the leading and trailing zero nibbles of a number of k nibbles are the leading and trailing zeros of its digits
pub inner_number : (w : Width) (k : ℕ) → bits w ≡ 4 * k → (ds : List ℕ) (n : ℕ) → AllBelowBase 10 ds → n < 2 ^ bits w
    → n ≡ number_from_digits 16 ds → 0 < n
    → (k - leading_zeros w n / 4 ≤ length ds)
    × IsNonzeroRange ds (length ds - (k - leading_zeros w n / 4)) (length ds - trailing_zeros w n / 4)
inner_number w k size ds n below fits is some =
    let t = leading_top (bits w) n some fits in
    let low = bit_at-trailing_zeros w n some fits in
    let one : n / 2 ^ t.0 ≡ 1 = grind (arith, div-eq_of_lt-le, pow-suc) in
    let first : bit_at n t.0 ≡ 1 = ap (λ q. q % 2) one in
    let before : k - leading_zeros w n / 4 ≡ t.0 / 4 + 1 = omega (arith, t.1, size) in
    rw before (inner_bits ds n t.0 (trailing_zeros w n) below is first t.3 low.1 low.2)

-- if the number is 0, each digit is 0
pub zero_digits : (ds : List ℕ) → AllBelowBase 10 ds → number_from_digits 16 ds ≡ 0
    → (k : ℕ) → k < length ds → get_or ds k 0 ≡ 0
zero_digits ds below z k h = grind (steps, digit_is, zero-div)

-- ---- The parts of a short text.
after_whole_end : (whole : List ℕ) → 0 < length whole
    → after_whole whole [] ≡ Some (record { whole = whole; fraction = []; exponent = None })
unfolding after_whole
after_whole_end whole h = grind (arith, nat_tests)

after_whole_point : (whole rest : List ℕ) → 0 < length rest → prefix_len is_ascii_digit rest ≡ length rest
    → after_whole whole (decimal_point ∷ rest) ≡ Some (record { whole = whole; fraction = rest; exponent = None })
unfolding after_whole after_fraction
after_whole_point whole rest h all = grind (steps, drop_all, take_all)

-- the bytes after the one at an index
pub after_byte : (text : List ℕ) (i : ℕ)
    → take (length (take (length text - i) (drop i text)) - 1) (drop 1 (take (length text - i) (drop i text)))
    ≡ drop (i + 1) text
after_byte text i =
    let rest = drop i text in
    let all : take (length text - i) rest ≡ rest = grind (arith, take_all, length-drop) in
    rw all (take_all (length rest - 1) (drop 1 rest) (omega (arith, length-drop 1 rest)) ∙ drop-drop 1 i text)

module _ (text : List ℕ) (whole : ℕ) (digits : whole ≡ prefix_len is_ascii_digit text) where
  within : whole ≤ length text
  within = omega (arith, digits, prefix_len-le-length is_ascii_digit text)

  pub long : length (take whole text) ≡ whole
  long = length-take-le whole text within

  -- a text of digits
  pub parts_whole : 0 < whole → drop whole text ≡ [] → parts_of text ≡ Some (plain_parts text whole)
  unfolding parts_of
  parts_whole some none =
      let following : drop (whole + 1) text ≡ [] = sym (drop-drop 1 whole text) ∙ ap (drop 1) none in
      rw (sym digits, none, following) (after_whole_end (take whole text) (omega (arith, long, some)))

  -- digits with a decimal point
  pub parts_point : whole < length text → get_or text whole 0 ≡ decimal_point
      → prefix_len is_ascii_digit (drop (whole + 1) text) ≡ length (drop (whole + 1) text)
      → 0 < length (drop (whole + 1) text) → parts_of text ≡ Some (plain_parts text whole)
  unfolding parts_of
  parts_point in_text byte all some = grind (steps, at_drop_more, after_whole_point)

-- a text of up to k digits
module _ (text : List ℕ) (whole number k : ℕ) (most : k ≤ 32) (few : length text ≤ k + 1) (short : whole ≤ k)
    (digits : whole ≡ prefix_len is_ascii_digit text)
    (numbered : number ≡ digits_value 16 (take whole text) % 2 ^ (4 * k)) where
  at_most : length (take whole text ++ drop (whole + 1) text) ≤ k
  at_most = grind (steps, length-append, long, length-drop)

  plain : (fraction n : ℕ) → parts_of text ≡ Some (plain_parts text whole) → length (drop (whole + 1) text) ≡ fraction
      → n ≡ digits_value 16 (take whole text ++ drop (whole + 1) text) % 2 ^ (4 * k)
      → IsPlainText text whole fraction n
  plain fraction n parts size e =
      let all = digits_some text (plain_parts text whole) (sym (ap (option_map saturated_parts) parts)) in
      grind (steps, at_most, long, digits, mod-eq_of_lt, digits_fit)

  pub plain_whole : 0 < whole → drop whole text ≡ [] → IsPlainText text whole 0 number
  plain_whole some none =
      let following : drop (whole + 1) text ≡ [] = sym (drop-drop 1 whole text) ∙ ap (drop 1) none in
      plain 0 number (parts_whole text whole digits some none) (ap length following)
      (rw (following, append-nil) numbered)

  pub plain_point : (rest : List ℕ) (fraction more : ℕ) → whole < length text → get_or text whole 0 ≡ decimal_point
      → rest ≡ drop (whole + 1) text → fraction ≡ prefix_len is_ascii_digit rest → 0 < fraction → length rest ≤ fraction
      → more ≡ digits_value_after 16 number (take fraction rest) % 2 ^ (4 * k)
      → IsPlainText text whole fraction more
  plain_point rest fraction more in_text byte rest_is digits' some all n =
      let following = sym rest_is in
      let size : length rest ≡ fraction = omega (arith, all, digits', prefix_len-le-length is_ascii_digit rest) in
      plain fraction more
      (parts_point text whole digits in_text byte (rw following (omega (arith, size, digits')))
      (rw following (omega (arith, some, size))))
      (rw following size)
      (rw following (fraction_numbered (2 ^ (4 * k)) (take whole text) rest number more numbered
      (n ∙ ap (λ t. digits_value_after 16 number t % 2 ^ (4 * k)) (take_all fraction rest all))))

-- a value of more digits than fit in place allocates
pub wide_allocates : (reading : Result Unsigned ReadError) (bytes : List ℕ) (len most : ℕ) (b : Bounds)
    → IsBcdValue reading bytes len b → ¬ (len ≤ most) → IsOkAnd reading (λ v. most < size v.number)
wide_allocates reading bytes len most b h more =
    let count : length (digits_in bytes len) ≡ len =
    simp (length-take, length-nibbles) (omega (arith, h.packed.count)) in
    rw h.value (omega (arith, more, size-number_of h.stored, count))

-- ---- The value of digits.
pub ok_is : {a b : Unsigned} → (let r : Result Unsigned ReadError = Ok a in r) ≡ Ok b → a ≡ b
ok_is h = cc

module _ (whole fraction number : ℕ) (ds : List ℕ) (bcd : IsBcd number (whole + fraction) ds)
    (few : whole + fraction ≤ 32768) where
  -- the value by the number of the digits
  value_is : value_of_first whole ds
      ≡ record {
        number = number_from_digits 10 ds * 10 ^ (32768 - fraction);
        hi = pos (whole - 1);
        lo = pos 0 -ℤ pos fraction;
      }
  unfolding number_at
  value_is =
      let top : whole + 32768 - length ds ≡ 32768 - fraction = omega (arith, bcd.count) in
      let lo : int_min (pos whole -ℤ pos (length ds)) (pos 0) ≡ pos 0 -ℤ pos fraction = grind (arith) in
      λ i. record { number = number_from_digits 10 ds * 10 ^ top i; hi = pos (whole - 1); lo = lo i }

  -- zero
  pub zero_stored : (m hi lo : ℤ) → m ≡ pos 0 → hi ≡ pos (whole - 1) → lo ≡ pos 0 -ℤ pos fraction
      → IsStored [] m hi lo
  zero_stored m hi lo a b e =
      stored_as tt (λ p. absurd (omega arith)) (λ p. absurd (omega arith)) (λ p. a) (λ p. absurd (omega arith))
      (omega (arith, ints), omega (arith, ints)) (omega (arith, ints), omega (arith, ints))

  pub zero_is : (m hi lo : ℤ) → number ≡ 0 → hi ≡ pos (whole - 1) → lo ≡ pos 0 -ℤ pos fraction
      → record { number = number_of [] m; hi = hi; lo = lo } ≡ value_of_first whole ds
  zero_is m hi lo z b e = grind (arith, number_zeros, zero_digits, number_of_empty, value_is)

  -- any other number, of k nibbles
  module _ (width : Width) (k : ℕ) (size : bits width ≡ 4 * k) (fits : number < 2 ^ bits width) (some : 0 < number)
    where
      found : (k - leading_zeros width number / 4 ≤ length ds)
          × IsNonzeroRange ds (length ds - (k - leading_zeros width number / 4))
          (length ds - trailing_zeros width number / 4)
      found = inner_number width k size ds number bcd.digits fits bcd.number some

      -- the zero nibbles bound the nonzero digits, which are no more than the digits
      pub bcd_sizes : (trailing_zeros width number / 4 < k - leading_zeros width number / 4)
          × (k - leading_zeros width number / 4 ≤ whole + fraction)
      bcd_sizes = (omega (arith, found.0, found.1.ordered, found.1.within), omega (arith, found.0, bcd.count))

      -- what holds of the nonzero digits, at the top of the shifted number
      pub bcd_inner : (F : List ℕ → Type 0) (zeros len : ℕ) → zeros ≡ leading_zeros width number / 4
          → len ≡ (k - zeros) - trailing_zeros width number / 4
          → ((es : List ℕ) → length es ≡ len → len ≤ k → AllBelowBase 10 es
          → number * 2 ^ (4 * zeros) % 2 ^ (4 * k) ≡ number_from_digits 16 es * 16 ^ (k - len) → F es)
          → F (middle (length ds - (k - zeros)) (length ds - trailing_zeros width number / 4) ds)
      bcd_inner F skipped len z l holds =
          grind (steps, found, leading_le, middle_number, within, middle_length, middle_below)

      pub bcd_value : (zeros len : ℕ) (bytes : List ℕ) (b : Bounds) → zeros ≡ leading_zeros width number / 4
          → len ≡ (k - zeros) - trailing_zeros width number / 4
          → b.magnitude ≡ pos (k - zeros) -ℤ pos (fraction + 1) → b.hi ≡ pos (whole - 1)
          → b.lo ≡ pos 0 -ℤ pos fraction
          → ((ds : List ℕ) → length ds ≡ len → len ≤ k → AllBelowBase 10 ds
          → number * 2 ^ (4 * zeros) % 2 ^ (4 * k) ≡ number_from_digits 16 ds * 16 ^ (k - len) → Encodes bytes len ds)
          → IsBcdValue (Ok (value_of_first whole ds)) bytes len b
      bcd_value zeros len bytes b z l m hi lo encoded =
          let start = length ds - (k - zeros) in
          let end = length ds - trailing_zeros width number / 4 in
          let places : k - zeros ≤ length ds = omega (arith, z, found.0) in
          let n : IsNonzeroRange ds start end = rw z found.1 in
          let at : b.magnitude ≡ (pos whole -ℤ pos 1) -ℤ pos start = omega (arith, ints, m, places, bcd.count) in
          let stored = stored_middle ds start end whole fraction b.magnitude n bcd.digits bcd.count
          (omega (arith, few)) (omega (arith, few)) at in
          let units =
          number_of-middle ds start end whole fraction b.magnitude n bcd.count (omega (arith, few))
          (omega (arith, ints, at, offset_is b.magnitude, n.ordered, n.within, bcd.count)) in
          let packed = bcd_inner (Encodes bytes len) zeros len z l encoded in
          grind (arith, ints, nat_tests, value_is)

-- up to sixteen digits, in 64 bits
module _ (whole fraction number : ℕ) (fits : number < 2 ^ 64) (some : 0 < number) (few : whole + fraction ≤ 16)
    (ds : List ℕ) (bcd : IsBcd number (whole + fraction) ds) where
  abbrev places : ℕ
  places = 16 - leading_zeros w64 number / 4

  abbrev len : ℕ
  len = places - trailing_zeros w64 number / 4

  pub short_sizes : (trailing_zeros w64 number / 4 < places) × (places ≤ whole + fraction)
  short_sizes = bcd_sizes whole fraction number ds bcd (omega (arith, few)) w64 16 refl fits some

  pub short_value : (b : Bounds) → b.magnitude ≡ pos places -ℤ pos (fraction + 1) → b.hi ≡ pos (whole - 1)
      → b.lo ≡ pos 0 -ℤ pos fraction
      → IsBcdValue (Ok (value_of_first whole ds))
      (leading_bytes (number * 2 ^ (4 * (leading_zeros w64 number / 4)) % 2 ^ 64) len) len b
  short_value b m hi lo =
      bcd_value whole fraction number ds bcd (omega (arith, few)) w64 16 refl fits some _ _ _ b refl refl m hi lo
      (λ ds l few below e. leading_bytes_encode ds _ _ l few below e)

  -- the nibbles after them are 0
  pub short_zeros : drop len (word_nibbles (number * 2 ^ (4 * (leading_zeros w64 number / 4)) % 2 ^ 64))
      ≡ replicate (16 - len) 0
  short_zeros =
      bcd_inner whole fraction number ds bcd (omega (arith, few)) w64 16 refl fits some
      (λ _. drop len (word_nibbles (number * 2 ^ (4 * (leading_zeros w64 number / 4)) % 2 ^ 64))
      ≡ replicate (16 - len) 0)
      _ _ refl refl (λ es l few below e. zeros_of_digits es _ _ l few below e)

-- ---- The value of a plain text.
module _ (text : List ℕ) (p : PlainText ℕ) (plain : IsPlainText text p.whole p.fraction p.number) where
  abbrev w : Literal
  w = plain_parts text p.whole

  abbrev pub plain_digits : List ℕ
  plain_digits = digits_of w

  digits : AllDigits 10 (w.whole ++ w.fraction)
  digits = digits_some text w (sym (ap (option_map saturated_parts) plain.parts))

  -- its digits
  pub plain_bcd : IsBcd p.number (p.whole + p.fraction) plain_digits
  plain_bcd = search (rules, arith, digits, all_digits, length_digits, digits_value_is)

  few_digits : p.whole + p.fraction ≤ 32
  few_digits = omega (arith, plain.few, plain.integer_digits, plain.fraction_digits, length-append w.whole w.fraction)

  pub number_fits : p.number < 2 ^ 128
  number_fits = rw plain.value (digits_fit 32 (w.whole ++ w.fraction) digits plain.few)

  -- reading gives their value
  pub plain_read : read text ≡ Ok (value_of_first p.whole plain_digits)
  unfolding scaled
  plain_read =
      read_some text w (sym (ap (option_map saturated_parts) plain.parts))
      ∙ value_scaled w digits (omega (arith, plain.integer_digits, few_digits))
      (omega (arith, plain.fraction_digits, few_digits))
      ∙ (λ i. Ok (record {
        number = digits_value_is 10 (w.whole ++ w.fraction) i * 10 ^ (32768 - plain.fraction_digits i);
        hi = pos (plain.integer_digits i - 1);
        lo = pos 0 -ℤ pos (plain.fraction_digits i);
      }))
      ∙ ap Ok (sym (value_is p.whole p.fraction p.number plain_digits plain_bcd (omega (arith, few_digits))))
