-- The parts of a text are those of the grammar.
use Rattle.std.proofs.{Common.{◌≡◌, ℕ, ◌<◌, Bool, true, false, cond, ◌⊎◌, List, [], ◌∷◌, ◌++◌, length, refl, sym, ◌∙◌, ap, subst, arith, nat_lt, ◌==◌, append-nil, Option, Some, None, ℤ, pos, ◌&&◌, option_map, zero, suc, ◌+◌, ◌-◌, ◌*◌, ◌%◌, ◌^◌, ◌≤◌, min, get_or, take, drop, map, append_assoc, eqb-true, neg_ℤ}, Math.Bool.{and_assoc, and-true}, lemmas.{Bool.Decides.nat_tests, Bool.cases_lt, Grind.common_steps, Int.Digits.digits_value_more, List.Elements.{All-from_recursion, All-take, All-drop, recursion_from_All}, List.{take-append-drop, length-drop, length-take-le, drop-drop, get_or-map}, Str.Parse.{digit_from_value, digit_at, IsNumeralModel, numerals_by_value, tells_all_ascii_digits}, Str.digit_value_digit}}
use Rattle.std.specs.{Char.{is_ascii_digit, digit_value}, List.prefix_len, Str.all_ascii_digits, Str.Parse.{AllDigits, digits_value, IsNumeral}}
use Rattle.decimal_digits.proofs.lemmas.digits.Rules.{steps}
use Rattle.decimal_unsigned.specs.{Grammar.{Literal, Grammar, integer, decimal, IsMantissa, undotted, dotted, IsExponent, unsigned, plus, minus, Form, scientific}, Reading.{leading_digits, after_digits, numeral_of, exponent_of, is_letter, with_exponent, after_fraction, after_whole, parts_of}}

-- ---- ASCII digits and their numbers.
-- a digit is a byte from 48 to 57
pub is_digit-true : (c : ℕ) → digit_value c < 10 → is_ascii_digit c ≡ true
is_digit-true c h = grind (arith, nat_tests, digit_from_value)

-- a byte that passes the test has a value below ten
pub true-is_digit : (c : ℕ) → is_ascii_digit c ≡ true → digit_value c < 10
true-is_digit c h = grind (arith, nat_tests, digit_value_digit)

-- the value of a digit is its byte less 48
pub value_of_digit : (c : ℕ) → is_ascii_digit c ≡ true → digit_value c ≡ c - 48
value_of_digit c h = grind (arith, nat_tests, digit_value_digit)

-- a byte less that of `0`, in 64 bits, is at most 9 for a digit alone
module _ (c a b : ℕ) (byte : c < 256) (first : a ≡ c) (second : b ≡ 48) where
  pub digit_at_most : (a + (2 ^ 64 - b)) % 2 ^ 64 ≤ 9
      → ((a + (2 ^ 64 - b)) % 2 ^ 64 ≡ c - 48) × (is_ascii_digit c ≡ true)
  digit_at_most few = grind steps

  pub digit_above : 9 < (a + (2 ^ 64 - b)) % 2 ^ 64 → is_ascii_digit c ≡ false
  digit_above more = grind (steps, cases_lt)

-- the loop of a numeral
pub numeral_more : (text : List ℕ) (i v most top : ℕ) → i < length text → most ≤ top
    → is_ascii_digit (get_or text i 0) ≡ true
    → v ≡ min most (digits_value 10 (take i text))
    → min (min (min (v * 10) top + (get_or text i 0 - 48)) top) most ≡ min most (digits_value 10 (take (i + 1) text))
numeral_more text i v most top h l d e = grind (arith, digits_value_more, value_of_digit)

-- the rest of a text is digits if its first byte is one, and the rest of that
pub digits_step : (text : List ℕ) (i : ℕ) → i < length text
    → all_ascii_digits (drop i text) ≡ (is_ascii_digit (get_or text i 0) && all_ascii_digits (drop (i + 1) text))
digits_step text i h = grind (arith, common_steps)

-- one byte more is tested
pub digits_more : (text : List ℕ) (i : ℕ) → i < length text
    → all_ascii_digits (take (i + 1) text) ≡ (all_ascii_digits (take i text) && is_ascii_digit (get_or text i 0))
digits_more [] i h = absurd (omega arith)
digits_more (c ∷ cs) zero h = and-true (is_ascii_digit c)
digits_more (c ∷ cs) (suc i) h =
    let e : suc i + 1 ≡ suc (i + 1) = omega arith in
    rw e
    (ap (λ b. is_ascii_digit c && b) (digits_more cs i (omega arith))
    ∙ sym (and_assoc (is_ascii_digit c) (all_ascii_digits (take i cs)) (is_ascii_digit (get_or cs i 0))))

-- a test passes exactly the texts of digits
pub tests_digits : IsNumeralModel (λ ds. all_ascii_digits ds ≡ true) (digits_value 10)
tests_digits = numerals_by_value _ tells_all_ascii_digits

-- a run of digits is counted with what follows it
pub prefix_len-run : (a rest : List ℕ) → AllDigits 10 a
    → prefix_len is_ascii_digit (a ++ rest) ≡ length a + prefix_len is_ascii_digit rest
prefix_len-run [] rest h = omega arith
prefix_len-run (c ∷ a) rest h = rw (is_digit-true c h.0) (omega (arith, prefix_len-run a rest h.1))

-- a group of digits more is counted
pub count_group : (text : List ℕ) (i n : ℕ) → n ≤ length text - i → all_ascii_digits (take n (drop i text)) ≡ true
    → prefix_len is_ascii_digit text ≡ i + prefix_len is_ascii_digit (drop i text)
    → prefix_len is_ascii_digit text ≡ (i + n) + prefix_len is_ascii_digit (drop (i + n) text)
count_group text i n h d e =
    let rest = drop i text in
    let run = prefix_len-run (take n rest) (drop n rest) (tests_digits.to (take n rest) d) in
    let all = ap (prefix_len is_ascii_digit) (take-append-drop n rest) in
    let following = ap (prefix_len is_ascii_digit) (drop-drop n i text) in
    omega (arith, run, all, following, e, length-take-le n rest (omega (arith, length-drop i text)))

-- a byte and the digit that it writes
pub record WritesDigit (byte digit : ℕ) : Type 0 where
  pub low : 48 ≤ byte
  pub is : byte - 48 ≡ digit

-- the byte at an index writes the digit there
pub writes_at : (cs : List ℕ) (i : ℕ) → AllDigits 10 cs → i < length cs
    → WritesDigit (get_or cs i 0) (get_or (map digit_value cs) i 0)
writes_at cs i h l = grind (steps, digit_at, digit_value_digit, get_or-map)

-- ---- Parts of a text of digits.
-- any bytes of a text of digits are digits
pub digits_within : (start n : ℕ) (text : List ℕ) → AllDigits 10 text → AllDigits 10 (take n (drop start text))
digits_within start n text h =
    let P = λ (c : ℕ). digit_value c < 10 in
    recursion_from_All P _ (All-take P n _ (All-drop P start text (All-from_recursion P text h)))

-- where two texts together hold digits, the first one does
pub digits_left : (a b : List ℕ) → AllDigits 10 (a ++ b) → AllDigits 10 a
digits_left [] b h = tt
digits_left (c ∷ a) b h = (h.0, digits_left a b h.1)

-- and so does the second one
pub digits_right : (a b : List ℕ) → AllDigits 10 (a ++ b) → AllDigits 10 b
digits_right [] b h = h
digits_right (c ∷ a) b h = digits_right a b h.1

-- ---- runs of digits
-- digits followed by a byte other than a digit are the leading digits
pub leading_run : (a rest : List ℕ) → AllDigits 10 a → prefix_len is_ascii_digit rest ≡ 0
    → leading_digits (a ++ rest) ≡ a
leading_run a rest h z = grind (arith, common_steps, prefix_len-run)

-- and the rest is what follows it
pub after_run : (a rest : List ℕ) → AllDigits 10 a → prefix_len is_ascii_digit rest ≡ 0
    → after_digits (a ++ rest) ≡ rest
after_run a rest h z = grind (arith, common_steps, prefix_len-run)

-- the leading digits are digits
pub leading_are_digits : (text : List ℕ) → AllDigits 10 (leading_digits text)
leading_are_digits [] = tt
leading_are_digits (c ∷ text) = one_more c text (leading_are_digits text)
  where
    one_more : (c : ℕ) (text : List ℕ) → AllDigits 10 (leading_digits text) → AllDigits 10 (leading_digits (c ∷ text))
    one_more c text more = grind (arith, common_steps, true-is_digit)

-- the leading digits and the rest after them are the text
pub leading-after : (text : List ℕ) → leading_digits text ++ after_digits text ≡ text
leading-after text = take-append-drop (prefix_len is_ascii_digit text) text

-- ---- numerals
-- a numeral has the number that its digits write
pub numeral-complete : (ds : List ℕ) → IsNumeral 10 ds → numeral_of ds ≡ Some (digits_value 10 ds)
unfolding numeral_of
numeral-complete ds h = grind (arith, nat_tests, tests_digits.from)

-- a text with a number is a numeral
pub numeral-sound : (ds : List ℕ) (n : ℕ) → numeral_of ds ≡ Some n → IsNumeral 10 ds × (n ≡ digits_value 10 ds)
unfolding numeral_of
numeral-sound ds n h = grind (arith, nat_tests, tests_digits.to)

-- ---- exponents
option_map-some : {A B : Type 0} (f : A → B) (o : Option A) (y : B) → option_map f o ≡ Some y
    → (x : A) × (o ≡ Some x) × (f x ≡ y)
option_map-some f o y h = grind arith

not_sign : (c : ℕ) → digit_value c < 10 → ((c == 45) ≡ false) × ((c == 43) ≡ false)
not_sign c h = grind (arith, nat_tests, digit_from_value)

-- an exponent of the grammar is found
pub exponent-complete : (text : List ℕ) (e : ℤ) → IsExponent text e → exponent_of text ≡ Some e
unfolding exponent_of
exponent-complete text e is = grind (arith, nat_tests, not_sign, numeral-complete)

-- an exponent that is found is one of the grammar
pub exponent-sound : (text : List ℕ) (e : ℤ) → exponent_of text ≡ Some e → IsExponent text e
unfolding exponent_of
exponent-sound [] e h = grind (steps, option_map-some, numeral-sound)
exponent-sound (c ∷ rest) e h = go (c == 45) refl (c == 43) refl h
  where
    go : (m : Bool) → (c == 45) ≡ m → (p : Bool) → (c == 43) ≡ p
        → cond m (option_map (λ n. neg_ℤ (pos n)) (numeral_of rest))
        (cond p (option_map pos (numeral_of rest)) (option_map pos (numeral_of (c ∷ rest))))
        ≡ Some e
        → IsExponent (c ∷ rest) e
    go true t p s k =
        let m = option_map-some (λ n. neg_ℤ (pos n)) (numeral_of rest) e k in
        let n = numeral-sound rest m.0 m.1 in
        minus rest (ap (λ x. x ∷ rest) (eqb-true c 45 t)) n.0 (sym m.2 ∙ ap (λ x. neg_ℤ (pos x)) n.1)
    go false t true s k = let m = option_map-some pos (numeral_of rest) e k in let n = numeral-sound rest m.0 m.1 in
        plus rest (ap (λ x. x ∷ rest) (eqb-true c 43 s)) n.0 (sym m.2 ∙ ap pos n.1)
    go false t false s k =
        let m = option_map-some pos (numeral_of (c ∷ rest)) e k in
        let n = numeral-sound (c ∷ rest) m.0 m.1 in
        unsigned n.0 (sym m.2 ∙ ap pos n.1)

-- ---- what the grammar allows is found
-- the parts of a text that begins with digits
pub parts_split : (a rest : List ℕ) → AllDigits 10 a → prefix_len is_ascii_digit rest ≡ 0
    → parts_of (a ++ rest) ≡ after_whole a rest
unfolding parts_of
parts_split a rest h z = λ i. after_whole (leading_run a rest h z i) (after_run a rest h z i)

fraction_split : (w a rest : List ℕ) → AllDigits 10 a → prefix_len is_ascii_digit rest ≡ 0
    → after_fraction w (leading_digits (a ++ rest)) (after_digits (a ++ rest)) ≡ after_fraction w a rest
fraction_split w a rest h z = λ i. after_fraction w (leading_run a rest h z i) (after_run a rest h z i)

-- an exponent letter is neither a digit nor a decimal point
letter_is : (c : ℕ) → (c ≡ 101) ⊎ (c ≡ 69)
    → (is_ascii_digit c ≡ false) × (is_letter c ≡ true) × ((c == 46) ≡ false)
letter_is c h = grind (arith, nat_tests)

positive : (n : ℕ) → 0 < n → nat_lt 0 n ≡ true
positive n h = grind (arith, nat_tests, h)

found : (w : Literal) (a b : List ℕ) (e : Option ℤ) → w.whole ≡ a → w.fraction ≡ b → w.exponent ≡ e
    → w ≡ record { whole = a; fraction = b; exponent = e }
found w a b e p q r = λ i. record { whole = p i; fraction = q i; exponent = r i }

-- the parts that the grammar allows are found
pub parts-complete : (text : List ℕ) (w : Literal) → Grammar text w → parts_of text ≡ Some w
unfolding after_whole after_fraction with_exponent
parts-complete text w g = go g.form
  where
    exponents : (mantissa exponent : List ℕ) (letter : ℕ) (e : ℤ) → IsMantissa mantissa w.whole w.fraction
        → (letter ≡ 101) ⊎ (letter ≡ 69) → IsExponent exponent e → w.exponent ≡ Some e
        → parts_of (mantissa ++ letter ∷ exponent) ≡ Some w
    exponents m x c e (undotted p f t) l n s =
        ap (λ y. parts_of (y ++ c ∷ x)) t
        ∙ parts_split w.whole (c ∷ x) g.whole (rw (letter_is c l).0 refl)
        ∙ (rw ((letter_is c l).2, (letter_is c l).1, positive (length w.whole) p, exponent-complete x e n)
        (ap Some (sym (found w w.whole [] (Some e) refl f s))))
    exponents m x c e (dotted t) l n s =
        ap (λ y. parts_of (y ++ c ∷ x)) t
        ∙ ap parts_of (append_assoc w.whole (46 ∷ w.fraction) (c ∷ x))
        ∙ parts_split w.whole (46 ∷ (w.fraction ++ c ∷ x)) g.whole refl
        ∙ fraction_split w.whole w.fraction (c ∷ x) g.fraction (rw (letter_is c l).0 refl)
        ∙ (rw (
          (letter_is c l).1,
          exponent-complete x e n,
        ) (ap Some (sym (found w w.whole w.fraction (Some e) refl refl s))))

    go : Form text w → parts_of text ≡ Some w
    go (integer p f s t) =
        ap parts_of (t ∙ sym (append-nil w.whole))
        ∙ parts_split w.whole [] g.whole refl
        ∙ (rw (positive (length w.whole) p) (ap Some (sym (found w w.whole [] None refl f s))))
    go (decimal p s t) =
        ap parts_of t
        ∙ parts_split w.whole (46 ∷ w.fraction) g.whole refl
        ∙ ap (λ y. after_fraction w.whole (leading_digits y) (after_digits y)) (sym (append-nil w.fraction))
        ∙ fraction_split w.whole w.fraction [] g.fraction refl
        ∙ (rw (positive (length w.fraction) p) (ap Some (sym (found w w.whole w.fraction None refl refl s))))
    go (scientific m x c e k l n s t) = ap parts_of t ∙ exponents m x c e k l n s

-- ---- what is found is in the grammar
letter_of : (c : ℕ) → is_letter c ≡ true → (c ≡ 101) ⊎ (c ≡ 69)
letter_of c h = grind (arith, nat_tests)

cond_some : {A : Type 0} (b : Bool) (x : Option A) (y : A) → cond b x None ≡ Some y → (b ≡ true) × (x ≡ Some y)
cond_some b x y h = grind arith

with_exponent-sound : (mantissa whole fraction text : List ℕ) (c : ℕ) (w : Literal)
    → IsMantissa mantissa whole fraction → AllDigits 10 whole → AllDigits 10 fraction → is_letter c ≡ true
    → with_exponent whole fraction text ≡ Some w
    → Grammar (mantissa ++ c ∷ text) w
unfolding with_exponent
with_exponent-sound m a b x c w k p q l h =
    let t = option_map-some (λ (e : ℤ). let r : Literal = record { whole = a; fraction = b; exponent = Some e } in r)
    (exponent_of x) w h in
    subst (Grammar (m ++ c ∷ x)) t.2
    (record {
      whole = p;
      fraction = q;
      form = scientific m x c t.0 k (letter_of c l) (exponent-sound x t.0 t.1) refl refl;
    })

after_fraction-sound : (a b rest : List ℕ) (w : Literal) → AllDigits 10 a → AllDigits 10 b
    → after_fraction a b rest ≡ Some w
    → Grammar ((a ++ 46 ∷ b) ++ rest) w
unfolding after_fraction
after_fraction-sound a b [] w p q h = grind (steps, cond_some, append-nil)
after_fraction-sound a b (c ∷ rest) w p q h =
    let k = cond_some (is_letter c) (with_exponent a b rest) w h in
    with_exponent-sound (a ++ 46 ∷ b) a b rest c w (dotted refl) p q k.0 k.1

after_whole-sound : (a rest : List ℕ) (w : Literal) → AllDigits 10 a → after_whole a rest ≡ Some w
    → Grammar (a ++ rest) w
unfolding after_whole
after_whole-sound a [] w p h = grind (steps, cond_some, append-nil)
after_whole-sound a (c ∷ rest) w p h = go (c == 46) refl h
  where
    go : (t : Bool) → (c == 46) ≡ t
        → cond t (after_fraction a (leading_digits rest) (after_digits rest))
        (cond (is_letter c && nat_lt 0 (length a)) (with_exponent a [] rest) None)
        ≡ Some w
        → Grammar (a ++ c ∷ rest) w
    go true t e =
        let s : (a ++ 46 ∷ leading_digits rest) ++ after_digits rest ≡ a ++ c ∷ rest =
        grind (arith, append_assoc, eqb-true, leading-after) in
        subst (λ x. Grammar x w) s
        (after_fraction-sound a (leading_digits rest) (after_digits rest) w p (leading_are_digits rest) e)
    go false t e =
        let k = cond_some (is_letter c && nat_lt 0 (length a)) (with_exponent a [] rest) w e in
        let t = k.0 in
        let b : (is_letter c ≡ true) × (0 < length a) = grind (arith, nat_tests, t) in
        with_exponent-sound a a [] rest c w (undotted b.1 refl refl) p tt b.0 k.1

-- the parts that are found are those of the grammar
pub parts-sound : (text : List ℕ) (w : Literal) → parts_of text ≡ Some w → Grammar text w
unfolding parts_of
parts-sound text w h =
    subst (λ x. Grammar x w) (leading-after text)
    (after_whole-sound (leading_digits text) (after_digits text) w (leading_are_digits text) h)
