-- The numbers that bytes stand for.
use Rattle.std.proofs.{Common.{◌≡◌, ◌≢◌, ℕ, ◌<◌, ◌≤◌, ◌&&◌, ◌⊎◌, inl, inr, Bool, true, false, nat_le, ℤ, pos, neg_ℤ, List, [], ◌∷◌, length, get_or, Option, Some, None, Result, Ok, Err, Bor, refl, ap, arith, w16}, lemmas.{Bool.{Decides.nat_tests, and_parts, leb-true, ltb-true, ne_eqb}, Str.Parse.{IsNumeralModel, numerals_by_value, tells_all_ascii_digits, parse_signed_minus, parse_signed_plain}}}
use Rattle.std.specs.{Option.{option_map, unwrap_or, MatchOption}, Result.{OkIff, result_ok}, Str.{all_ascii_digits, Parse.{digits_value, ParsesSigned}}}
use Rattle.conversions.specs.Parameters.{are_digits, digits_up_to, number}

-- digits with the value of `digits_value` are a model of numerals for the lemmas on parsing
pub digits-is_numeral_model : IsNumeralModel (λ ds. all_ascii_digits ds ≡ true) (digits_value 10)
digits-is_numeral_model = numerals_by_value _ tells_all_ascii_digits

not_true : (b : Bool) → (b ≡ true → ⊥) → b ≡ false
not_true true h = absurd (h refl)
not_true false h = refl

-- the digits are parsed or rejected
module _ (f : ℕ → ℤ) (most : ℕ) (ds : List ℕ) where
  -- bytes other than one to six digits are no number
  pub digits_up_to-none : (are_digits ds ≡ true → ⊥) → None ≡ option_map f (digits_up_to most ds)
  digits_up_to-none never =
      rw (not_true (are_digits ds && nat_le (digits_value 10 ds) most) (λ h. never ((and_parts _ _ h).0))) refl

  -- the result of the parser is the number of one to six digits
  pub reads :
      {E : Type 0} {Q : Type 0} (r : Result ℤ E) → length ds ≤ 6
      → ((all_ascii_digits ds ≡ true) → 0 < length ds → digits_value 10 ds ≤ most → Q)
      → (Q → (all_ascii_digits ds ≡ true) × (0 < length ds) × (digits_value 10 ds ≤ most))
      → OkIff r Q (f (digits_value 10 ds)) → result_ok r ≡ option_map f (digits_up_to most ds)
  reads (Ok x) short to from (q, e) =
      let (d, some, fits) = from q in
      let t : (are_digits ds && nat_le (digits_value 10 ds) most) ≡ true =
      grind (arith, nat_tests, d, some, fits) in
      rw t (ap Some e)
  reads (Err e) short to from never =
      let t : (are_digits ds && nat_le (digits_value 10 ds) most) ≡ false = not_true _ (λ h.
      let (p, fits) = and_parts _ _ h in
      let (d, l) = and_parts _ _ p in
      let (some, few) = and_parts _ _ l in
      never (to d (ltb-true 0 (length ds) some) (leb-true _ most fits))) in
      rw t refl

too_long : (ds : List ℕ) → 6 < length ds → are_digits ds ≡ true → ⊥
too_long ds long h = grind (arith, nat_tests)

plus : (ds : List ℕ) → get_or ds 0 0 ≡ 43 → are_digits ds ≡ true → ⊥
plus [] e h = grind arith
plus (d ∷ ds) e h = grind (arith, nat_tests)

-- the digits are the word without a leading minus
abbrev pub IsWithoutMinus : List ℕ → List ℕ → Type 0
IsWithoutMinus word digits = (word ≡ 45 ∷ digits) ⊎ ((digits ≡ word) × (get_or word 0 0 ≢ 45))

first_is : (word : List ℕ) → ((rest : List ℕ) → word ≢ 45 ∷ rest) → get_or word 0 0 ≢ 45
first_is [] never e = grind arith
first_is (w ∷ ws) never e = never ws (ap (λ x. x ∷ ws) e)

-- `strip_prefix` returns the word without a leading minus
pub without_minus :
    (r : Option (Bor (List ℕ))) (word : Bor (List ℕ))
    → MatchOption r ((rest : List ℕ) → word.now ≢ 45 ∷ rest) (λ x. word.now ≡ 45 ∷ x.now)
    → IsWithoutMinus word.now (unwrap_or r word).now
without_minus (Some x) word h = inl h
without_minus None word h = inr (refl, first_is _ h)

-- if the bytes after an optional minus are not one to six digits, the word is no number
pub number-none :
    (word digits : List ℕ) → IsWithoutMinus word digits → (are_digits digits ≡ true → ⊥) → None ≡ number word
number-none word digits (inl e) never = rw e (digits_up_to-none (λ n. neg_ℤ (pos n)) 32768 digits never)
number-none word digits (inr (e, first)) never =
    rw (ne_eqb (get_or word 0 0) 45 first) (digits_up_to-none pos 32767 word (rw e at never))

-- the result of the parser for at most six bytes without a leading plus is the number of the word
pub number-some :
    {E : Type 0} (word digits : List ℕ) (r : Result ℤ E) → IsWithoutMinus word digits → length digits ≤ 6
    → get_or digits 0 0 ≢ 43 → ParsesSigned w16 10 word r → result_ok r ≡ number word
number-some word digits r (inl e) short first h =
    let p = parse_signed_minus digits-is_numeral_model w16 (45 ∷ digits) r (rw e at h) refl in
    rw e (reads (λ n. neg_ℤ (pos n)) 32768 digits r short (λ d some fits. (d, some, fits)) (λ q. q) p)
number-some word digits r (inr (e, minus)) short first h =
    let few : length word ≤ 6 = rw e at short in
    let p = parse_signed_plain digits-is_numeral_model w16 word r h (rw e at first) minus in
    rw (ne_eqb (get_or word 0 0) 45 minus) (reads pos 32767 word r few (λ d some fits. (d, some, omega arith))
    (λ q. (q.0, q.1, omega arith)) p)

-- a word with more than six digits is no number
pub number-none_if_long : (word digits : List ℕ) → IsWithoutMinus word digits → 6 < length digits → None ≡ number word
number-none_if_long word digits is long = number-none word digits is (too_long digits long)

-- a word with a plus before its digits is no number
pub number-none_if_plus : (word digits : List ℕ) → IsWithoutMinus word digits → get_or digits 0 0 ≡ 43
    → None ≡ number word
number-none_if_plus word digits is first = number-none word digits is (plus digits first)
