-- The value of digits, appended from left to right.
use Rattle.std.proofs.{Common.{◌≡◌, ℕ, ◌+◌, ◌-◌, ◌*◌, ◌%◌, ◌^◌, ◌<◌, ◌≤◌, false, List, [], ◌++◌, length, length-append, append_assoc, append-nil, refl, sym, ◌∙◌, ap, subst, arith, FitsSigned, w16, to_z, of_z}, Math.Nat.{mul-mod_left, mul_assoc, mul-le-mul_right, pow-le-pow_right}, lemmas.{Int.{ints, clamps, to_z-of_z, Digits.number_lt}, Bool.{cases_lt, Decides.nat_tests}, List.nil_from_length}}
use lib.Signed.{mag}
use Rattle.std.specs.{Int.{Digits.{AllBelowBase, number_from_digits}, int_max, int_min}, Prelude.{Result, Ok, Err, IsOk, OnErr, ℤ, pos, negsuc, ◌+ℤ◌, ◌-ℤ◌, ◌≤ℤ◌}}
use Rattle.decimal_digits.specs.{Digits.number_at, Number.{offset, weight, size}}
use Rattle.decimal_unsigned.specs.{Concatenation.{overlaps, concatenated_end, concatenated_size}, Edits.{leaves_limits, times_power, multiplied}, Unsigned.{Unsigned, zero_value}, DigitValues.{IsBcd, value_of_first}}
use Rattle.fixed_decimal.proofs.Calling.{offset_is, number_at-lt, powers, ten_pos, number-append, weight_up, integer_down, size_up, first_below_last, size_joined, size_left, size_right, not_overlapping}
use Rattle.decimal_format.specs.{Symbols.Symbols, Scanning.{HasBcd, IsSpelled, ReadsSpelled, HoldsDigits}}
use Rattle.decimal_format.proofs.lemmas.{reader.Bcd.{below_append, below_rest, last_is_bcd}, symbols.Rules.steps}

-- ---- Numbers of digits.
-- the number of digits and then others
number_at-append : (t : ℕ) (ds more : List ℕ) → length (ds ++ more) ≤ t
    → number_at t (ds ++ more) ≡ number_at t ds + number_at (t - length ds) more
unfolding number_at
number_at-append t ds more few =
    let last : t - length (ds ++ more) ≡ t - length ds - length more = omega (arith, length-append ds more) in
    let split : 10 ^ (t - length ds) ≡ 10 ^ length more * 10 ^ (t - length ds - length more) =
    powers (length more) (t - length ds - length more) (t - length ds) (omega (arith, length-append ds more, few)) in
    rw (number-append ds more, last, split) (omega arith)

-- the digits of the first number are above those of the second
number_at-divides : (t : ℕ) (ds : List ℕ) → number_at t ds % 10 ^ (t - length ds) ≡ 0
unfolding number_at
number_at-divides t ds = mul-mod_left (number_from_digits 10 ds) (10 ^ (t - length ds))

-- with more digits, a number has no fewer from the first to the last nonzero one
pub size_more : (n : ℕ) (ds more : List ℕ) → AllBelowBase 10 (ds ++ more) → n ≤ 32768
    → length (ds ++ more) ≤ n + 32768
    → size (value_of_first n ds).number ≤ size (value_of_first n (ds ++ more)).number
size_more n ds more all whole few =
    let t = n + 32768 in
    let sum = number_at-append t ds more few in
    let within : length more ≤ t - length ds = omega (arith, few, length-append ds more) in
    let grown = size_left (number_at t ds) (number_at (t - length ds) more) (t - length ds) t (number_at-divides t ds)
    (number_at-lt (t - length ds) more (below_rest ds more all) within)
    (subst (λ x. x < 10 ^ t) sum (number_at-lt t (ds ++ more) all few)) (omega (arith, whole)) in
    subst (λ x. size (number_at t ds) ≤ size x) (sym sum) grown

-- ---- The number 0 with integer digits.
no_digits : (n : ℕ) → number_at (n + 32768) [] ≡ 0
unfolding number_at
no_digits n = omega arith

pub zero_moved : (n : ℕ) → multiplied zero_value (pos (n - 1)) ≡ value_of_first n []
zero_moved n = grind (arith, ints, clamps, no_digits)

-- the number of these digits as an integer
pub bcd_only : {n k : ℕ} {ds : List ℕ} → IsBcd n k ds → IsBcd n (k + 0) ds
bcd_only is = record { digits = is.digits; count = omega (arith, is.count); number = is.number }

-- ---- Up to sixteen digits appended to the value of the first ones.
-- j digits follow the first k of a number within the limits, the last of them at a position
pub record IsNext (whole k j : ℕ) (position : ℤ) : Type 0 where
  pub some : 0 < j
  pub few : j ≤ 16
  pub limits : (whole ≤ 32768) × (k + j ≤ whole + 32768)
  pub at : position ≡ pos whole -ℤ pos (k + j)
  pub fits : FitsSigned w16 position

pub next_at : {whole k j : ℕ} {position : ℤ} {A : Type 0}
    → (0 < j) × (j ≤ 16) × (whole ≤ 32768) × (k + j ≤ whole + 32768) × A → position ≡ pos whole -ℤ pos (k + j)
    → mag position < 32768 → IsNext whole k j position
next_at h at kept = record { some = h.0; few = h.1; limits = (h.2, h.3); at = at; fits = record { sfits = kept } }

module _ {whole k word j : ℕ} {v : Unsigned} {ds es : List ℕ} {position : ℤ} (holds : HoldsDigits whole k v ds)
    (bcd : IsBcd word j es) (next_is : IsNext whole k j position) where
  abbrev t : ℕ
  t = whole + 32768

  abbrev cut : ℕ
  cut = t - length ds

  abbrev integer : ℕ
  integer = number_from_digits 10 es

  abbrev moved_integer : ℕ
  moved_integer = integer * weight position

  -- the sum has all digits
  abbrev sum : ℕ
  sum = number_at t ds + moved_integer

  all_count : length (ds ++ es) ≡ k + j
  all_count = omega (arith, length-append ds es, holds.count, bcd.count)

  es_is : moved_integer ≡ number_at cut es
  unfolding number_at
  es_is = grind (arith, ints, offset_is)

  sum_is : sum ≡ number_at t (ds ++ es)
  sum_is = grind (arith, es_is, number_at-append, all_count)

  divides : number_at t ds % 10 ^ cut ≡ 0
  divides = number_at-divides t ds

  less : moved_integer < 10 ^ cut
  less = grind (arith, es_is, number_at-lt)

  sum_lt : sum < 10 ^ t
  sum_lt = grind (arith, sum_is, number_at-lt, below_append, all_count)

  -- their number of digits is the same at each position
  same_size : size (integer * weight (pos 0)) ≡ size moved_integer
  same_size =
      let split : 10 ^ (16 + offset (pos 0)) ≡ 10 ^ 16 * weight (pos 0) = powers 16 (offset (pos 0)) _ refl in
      let small : integer < 10 ^ 16 = grind (arith, pow-le-pow_right, number_lt) in
      size_up integer (offset (pos 0)) (offset position) (16 + offset (pos 0)) t
      (omega (arith, split, mul-le-mul_right (weight (pos 0)) small, ten_pos (offset (pos 0)))) (omega (arith, sum_lt))
      (omega (arith, offset_is (pos 0))) (omega (arith, next_is.limits.0))

  -- the value of the digits as an integer
  abbrev next : Unsigned
  next = value_of_first j es

  next_number : next.number ≡ integer * weight (pos 0)
  unfolding number_at
  next_number = ap (λ k. integer * 10 ^ k) (omega (arith, bcd.count, offset_is (pos 0)))

  -- the digits that need memory are those of the sum
  pub memory_for_integer : (inline : ℕ) → (size next.number ≤ inline → ⊥)
      → inline < size (value_of_first whole (ds ++ es)).number
  memory_for_integer inline more =
      let grown = size_right (number_at t ds) moved_integer cut t divides less sum_lt (omega arith) in
      grind (arith, cases_lt, next_number, same_size, grown, sum_is)

  -- the value of the digits can be moved to their position
  pub stays_in_limits : leaves_limits next position ≡ false
  stays_in_limits = grind (arith, ints, clamps, nat_tests)

  module _ (unmoved moved : Unsigned) (unmoved_is : unmoved ≡ next)
      (shift : moved ≡ multiplied unmoved (to_z w16 (of_z w16 position))) where
    moved_is : moved ≡ multiplied next position
    moved_is = grind (arith, to_z-of_z)

    moved_number : moved.number ≡ moved_integer
    moved_number =
        ap (λ (u : Unsigned). u.number) moved_is ∙ ap (λ n. times_power n position) next_number
        ∙ go position (omega (arith, ints, next_is.fits.sfits))
      where
        go : (p : ℤ) → negsuc 32767 ≤ℤ p → times_power (integer * weight (pos 0)) p ≡ integer * weight p
        go (pos d) h =
            let up : weight (pos 0 +ℤ pos d) ≡ weight (pos 0) * 10 ^ d = weight_up (pos 0) d (omega (arith, ints)) in
            let same : pos 0 +ℤ pos d ≡ pos d = omega (arith, ints) in
            mul_assoc integer (weight (pos 0)) (10 ^ d) ∙ ap (λ x. integer * x) (sym up)
            ∙ ap (λ p. integer * weight p) same
        go (negsuc k) h = integer_down integer k (omega (arith, ints, h))

    v_number : v.number ≡ number_at t ds
    v_number = grind arith

    -- it is below the other value, which it extends
    pub is_apart : overlaps v moved ≡ false
    is_apart = not_overlapping v moved (λ some more.
        rw (v_number, moved_number)
        (first_below_last (number_at t ds) moved_integer cut t divides less sum_lt (omega (arith, next_is.limits.0))
        (subst (λ n. 0 < n) v_number some) (subst (λ n. 0 < n) moved_number more)))

    pub joined_is : concatenated_end v moved ≡ value_of_first whole (ds ++ es)
    joined_is =
        let number : v.number + moved.number ≡ number_at t (ds ++ es) =
        (λ i. v_number i + moved_number i) ∙ sum_is in
        let hi : int_max v.hi moved.hi ≡ pos (whole - 1) = grind (steps, moved_is) in
        let low = ap (λ (u : Unsigned). u.lo) moved_is in
        let old = ap (λ (u : Unsigned). u.lo) holds.value in
        let lo : int_min v.lo moved.lo ≡ int_min (pos whole -ℤ pos (length (ds ++ es))) (pos 0) =
        omega (arith, ints, clamps, low, old, next_is.at, all_count, holds.count, bcd.count) in
        λ i. record { number = number i; hi = hi i; lo = lo i }

    -- the joined digits that need memory are those of the sum
    pub memory_for_sum : (inline : ℕ) → 0 < v.number → 0 < moved.number → inline < concatenated_size v moved
        → inline < size (value_of_first whole (ds ++ es)).number
    memory_for_sum inline some more h =
        let joined = size_joined (number_at t ds) moved_integer cut t divides less sum_lt (omega arith) in
        grind (arith, joined, v_number, moved_number, sum_is)

-- ---- The value of the first digits.
pub holds_none : {whole : ℕ} {v : Unsigned} → v ≡ value_of_first whole [] → HoldsDigits whole 0 v []
holds_none is = record { digits = tt; count = refl; value = is }

pub holds_part : {whole n k : ℕ} {v : Unsigned} {ds : List ℕ} → HasBcd n k ds → v ≡ value_of_first whole ds
    → HoldsDigits whole k v ds
holds_part bcd is = record { digits = bcd.digits; count = bcd.count; value = is }

-- what holds unless a result is Ok holds on an error
pub on_err_unless : {A E : Type 0} (r : Result A E) (P : Type 0) → ((IsOk r → ⊥) → P) → OnErr r P
on_err_unless (Ok x) P f = tt
on_err_unless (Err e) P f = f (λ h. let no : ⊥ = cc in no)

-- ---- The digits of a part, sixteen at a time.
-- the first `done` of these digits were appended to others
pub record IsAppended (s : Symbols) (whole written done : ℕ) (rest : List ℕ) (v : Unsigned)
    (ds es : List ℕ) : Type 0 where
  pub first : List ℕ
  pub others : List ℕ
  pub all : es ≡ first ++ others
  pub count : length first ≡ done
  pub spelled : IsSpelled s rest others
  pub holds : HoldsDigits whole (written + done) v (ds ++ first)

module _ {s : Symbols} {whole written : ℕ} {ds es : List ℕ} where
  module _ {done : ℕ} {rest : List ℕ} {v : Unsigned} (so_far : IsAppended s whole written done rest v ds es) where
    pub appended_all : length es ≤ done → v ≡ value_of_first whole (ds ++ es)
    appended_all h = grind (arith, nil_from_length, length-append, append-nil)

    module _ {after : List ℕ} {n k : ℕ} (read : ReadsSpelled s 16 after n k so_far.others) where
      abbrev joined : List ℕ
      joined = (ds ++ so_far.first) ++ read.first

      -- there are some digits, and no more than are left
      pub next_word : done < length es → (0 < k) × (done + k ≤ length es) × IsBcd n k read.first
      next_word more =
          let word = last_is_bcd n k read.first read.bcd read.at_most in
          (grind (arith, length-append, cases_lt), grind (arith, length-append), word)

      pub appended_more : (new : Unsigned) → new ≡ value_of_first whole joined
          → IsAppended s whole written (done + k) after new ds es
      appended_more new is = grind (arith, append_assoc, length-append, below_append)

      -- where these digits need memory, all do
      pub memory_for_word : (inline : ℕ) → AllBelowBase 10 (ds ++ es) → whole ≤ 32768
          → length (ds ++ es) ≤ whole + 32768 → inline < size (value_of_first whole joined).number
          → inline < size (value_of_first whole (ds ++ es)).number
      memory_for_word inline digits least most h = grind (arith, append_assoc, size_more)
