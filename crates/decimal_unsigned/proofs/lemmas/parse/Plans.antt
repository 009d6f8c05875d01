-- The exponent that the code stores, and the value of the parts by the digits that are kept.
use Rattle.std.proofs.{Common.{◌≡◌, ℕ, ◌+◌, ◌-◌, ◌*◌, ◌^◌, ◌<◌, ◌≤◌, ◌==◌, Bool, true, false, ◌||◌, ◌⊎◌, ◌++◌, length, get_or, refl, sym, ◌∙◌, ap, subst, arith, ℤ, pos, negsuc, ◌+ℤ◌, ◌-ℤ◌, ◌≤ℤ◌, ◌<ℤ◌, int_lt, Option, Some, None, Ok, Err, cond, inl, inr, List, [], ◌∷◌, option_map, rules, if◌then◌else◌, IfSome}, lemmas.{Bool.Decides.nat_tests, Bool.cases_lt, Int.Digits.{digits_value_is, all_below_base_from_digits}, Int.{ints, clamps}, List.{length-map, length-append}}}
use Rattle.std.specs.{Char.digit_value, Int.{int_max, int_min}, Int.Digits.AllBelowBase, Str.Parse.{AllDigits, digits_value}}
use Rattle.decimal_digits.proofs.lemmas.{digits.Rules.steps, ops.Offsets.offset_is}
use Rattle.decimal_digits.specs.{Digits.number_of, Number.{first, last}}
use Rattle.decimal_unsigned.proofs.lemmas.{decimal.Values.{number_of-pos, first-number_of, last-number_of, number_of_empty, stored_as}, parse.{GrammarParts.parts-sound, Middle.{number_zeros, middle_length, number_of-middle, stored_middle}}, shift.Shifts.{Moves, moved, multiplied_is}}
use Rattle.decimal_unsigned.specs.{Edits.multiplied, Grammar.Literal, Parts.{view, saturated_parts, views, saturated, IsSaturated}, Reading.{limit, mantissa, parts_of, is_outside, zeros_trimmed, scaled, value_of, value_or_syntax, read, syntax}, ScannedDigits.{middle, IsNonzeroRange, digits_of, IsPlan}, Stored.IsStored, Unsigned.Unsigned, declared.decimal.parse.parts.Parts.Parts, declared.decimal.parse.plan.Bounds.Bounds, declared.decimal.parse.plan.Plan.Plan}

-- ---- An exponent of any length, and the saturated exponent that the code stores.
scaled_outside : (v : Unsigned) (e : ℤ) → (pos 32767 <ℤ e) ⊎ (e <ℤ negsuc 32767)
    → scaled v (Some e) ≡ cond (v.number == 0) (Ok v) (Err limit)
unfolding scaled
scaled_outside v e h = let t : is_outside e ≡ true = grind (arith, ints) in rw t refl

far : (v : Unsigned) (e : ℤ) → (pos 32767 <ℤ e) ⊎ (e <ℤ negsuc 32767)
    → (pos 32767 <ℤ saturated e) ⊎ (saturated e <ℤ negsuc 32767)
    → scaled v (Some (saturated e)) ≡ scaled v (Some e)
far v e h k = scaled_outside v (saturated e) k ∙ sym (scaled_outside v e h)

scaled_saturated : (v : Unsigned) (o : Option ℤ) → scaled v (option_map saturated o) ≡ scaled v o
scaled_saturated v None = refl
scaled_saturated v (Some (pos n)) = grind (steps, cases_lt, far)
scaled_saturated v (Some (negsuc n)) = elim (cases_lt 69999 n) [
  | inl h ↦ far v (negsuc n) (inr (omega (arith, ints, h))) (inr (omega (arith, ints, clamps, h)))
  | inr h ↦ ap (λ x. scaled v (Some x)) (let e : saturated (negsuc n) ≡ negsuc n = omega (arith, ints, clamps, h) in e)
]

-- saturating the exponent does not change the value
pub value_saturated : (w : Literal) → value_of (saturated_parts w) ≡ value_of w
unfolding value_of
value_saturated w = ap (cond _ (Err limit)) (scaled_saturated _ w.exponent)

-- ---- the parts found and the text
-- if the code finds no parts, the text has none
pub parts_none : (o : Option Literal) → None ≡ option_map saturated_parts o → o ≡ None
parts_none None h = refl
parts_none (Some w) h = absurd (cc)

-- the parts found are those of the text, with a saturated exponent
pub parts_some : (o : Option Literal) (v : Literal) → Some v ≡ option_map saturated_parts o
    → (w : Literal) × (o ≡ Some w) × (saturated_parts w ≡ v)
parts_some o v h = grind arith

-- if no parts are found, reading fails with `syntax`
pub read_none : (text : List ℕ) → None ≡ option_map saturated_parts (parts_of text) → read text ≡ Err syntax
unfolding read value_or_syntax
read_none text h = rw (parts_none (parts_of text) h) refl

-- if parts are found, reading gives the value of these parts
pub read_some : (text : List ℕ) (v : Literal) → Some v ≡ option_map saturated_parts (parts_of text)
    → read text ≡ value_of v
unfolding read value_or_syntax
read_some text v h = grind (steps, parts_some, parts_of, value_saturated)

-- the concatenation of two lists of digits is a list of digits
pub append_digits : (a b : List ℕ) → AllDigits 10 a → AllDigits 10 b → AllDigits 10 (a ++ b)
append_digits [] b h k = k
append_digits (c ∷ a) b h k = (h.0, append_digits a b h.1 k)

-- the parts found are lists of digits
pub digits_some : (text : List ℕ) (v : Literal) → Some v ≡ option_map saturated_parts (parts_of text)
    → AllDigits 10 (v.whole ++ v.fraction)
digits_some text v h =
    let w = parts_some (parts_of text) v h in
    let g = parts-sound text w.0 w.1 in
    subst (λ u. AllDigits 10 (u.whole ++ u.fraction)) w.2 (append_digits w.0.whole w.0.fraction g.whole g.fraction)

-- the exponent of the saturated parts is within the bounds
pub saturated_some : (text : List ℕ) (v : Literal) (e : ℤ) → Some v ≡ option_map saturated_parts (parts_of text)
    → v.exponent ≡ Some e
    → IsSaturated e
saturated_some text v e h k = grind (steps, parts_some, parts_of, Option, ℤ)

-- ---- the same for the result of the code
-- if the code finds parts, these are lists of digits
pub digits_found : (text : List ℕ) (r : Option Parts) → views r ≡ option_map saturated_parts (parts_of text)
    → IfSome r (λ p. AllDigits 10 (p.whole.now ++ p.fraction.now))
digits_found text None h = tt
digits_found text (Some p) h = digits_some text (view p) h

-- ---- The value of the parts, by the digits that are kept.
not_over : (a : ℤ) → a ≤ℤ pos 32767 → int_lt (pos 32767) a ≡ false
not_over a h = grind (arith, ints, h)

not_under : (a : ℤ) → negsuc 32767 ≤ℤ a → int_lt a (negsuc 32767) ≡ false
not_under a h = grind (arith, ints, h)

out_of_reach : (a : Bool) (x y : ℤ) → (pos 32767 <ℤ x) ⊎ (y <ℤ negsuc 32767)
    → (a || (int_lt (pos 32767) x || int_lt y (negsuc 32767))) ≡ true
out_of_reach a x y h = grind (arith, ints)

-- the upper end of the range for digits that begin at x and are written from h
upper_is : (x h h' : ℤ) → h' ≡ (if int_lt (pos 0) x then x else int_max h (pos 0)) → x ≤ℤ h → h ≤ℤ pos 32767
    → (x ≤ℤ h') × ((pos 0 ≤ℤ h') × (h' ≤ℤ pos 32767))
upper_is x h h' e a b = grind (arith, ints, clamps)

lower_is : (x h h' : ℤ) → h' ≡ (if int_lt x (pos 0) then x else int_min h (pos 0)) → h ≤ℤ x → negsuc 32767 ≤ℤ h
    → (h' ≤ℤ x) × ((negsuc 32767 ≤ℤ h') × (h' ≤ℤ pos 0))
lower_is x h h' e a b = grind (arith, ints, clamps)

-- the plan of these indices and magnitudes
abbrev pub plan_at : ℕ → ℕ → ℤ → ℤ → ℤ → Plan
plan_at start end m hi lo = record { start = start; end = end; bounds = record { magnitude = m; hi = hi; lo = lo } }

none_or_zero : (v : Unsigned) (e : Option ℤ) → v.number ≡ 0 → scaled v e ≡ Ok v
unfolding scaled
none_or_zero v None n = refl
none_or_zero v (Some e) n = rw n refl

-- ---- too many digits
-- more than 32,768 integer digits exceed the limit
pub long_whole : (w : Literal) → 32768 < length w.whole → value_of w ≡ Err limit
unfolding value_of
long_whole w h = grind (arith, nat_tests)

-- more than 32,768 fraction digits exceed the limit
pub long_fraction : (w : Literal) → 32768 < length w.fraction → value_of w ≡ Err limit
unfolding value_of
long_fraction w h = grind (arith, nat_tests)

-- the digits are as long as integer and fraction digits together
pub length_digits : (w : Literal) → length (digits_of w) ≡ length w.whole + length w.fraction
length_digits w = length-map (w.whole ++ w.fraction) digit_value ∙ length-append w.whole w.fraction

-- they are digits
pub all_digits : (w : Literal) → AllDigits 10 (w.whole ++ w.fraction) → AllBelowBase 10 (digits_of w)
all_digits w = all_below_base_from_digits 10 (w.whole ++ w.fraction)

module _ (w : Literal) (digits : AllDigits 10 (w.whole ++ w.fraction)) (few : length w.whole ≤ 32768)
    (short : length w.fraction ≤ 32768) where
  -- the value of the parts is the digits scaled by the exponent
  pub value_scaled : value_of w ≡ scaled (mantissa w.whole w.fraction) w.exponent
  unfolding value_of
  value_scaled = grind (arith, nat_tests)

  -- ---- zero
  -- digits that are all 0 have the value 0, in the written range
  pub makes_zero : ((k : ℕ) → k < length (digits_of w) → get_or (digits_of w) k 0 ≡ 0)
      → IsPlan w (plan_at 0 0 (pos 0) (pos (length w.whole - 1)) (pos 0 -ℤ pos (length w.fraction)))
  makes_zero h =
      let z : digits_value 10 (w.whole ++ w.fraction) ≡ 0 = grind (arith, digits_value_is, number_zeros) in
      let n : (mantissa w.whole w.fraction).number ≡ 0 = rw z (omega arith) in
      record {
        ordered = omega arith;
        within = omega arith;
        stored =
            stored_as tt (λ p. absurd (omega arith)) (λ p. absurd (omega arith)) (λ p. refl) (λ p. absurd (omega arith))
            (omega (arith, ints), omega (arith, ints)) (omega (arith, ints), omega (arith, ints));
        value = grind (arith, value_scaled, none_or_zero, number_of_empty);
      }

  module _ (start end : ℕ) (n : IsNonzeroRange (digits_of w) start end) (m : ℤ)
      (at : m ≡ (pos (length w.whole) -ℤ pos 1) -ℤ pos start) where
    stored : IsStored (middle start end (digits_of w)) m (pos (length w.whole - 1)) (pos 0 -ℤ pos (length w.fraction))
    stored = search (rules, arith, stored_middle, all_digits, length_digits)

    number_is : number_of (middle start end (digits_of w)) m ≡ (mantissa w.whole w.fraction).number
    number_is =
        number_of-middle (digits_of w) start end (length w.whole) (length w.fraction) m n (length_digits w) short
        (omega (arith, ints, at, offset_is m, n.ordered, n.within, length_digits w))
        ∙ ap (λ x. x * 10 ^ (32768 - length w.fraction)) (sym (digits_value_is 10 (w.whole ++ w.fraction)))

    some : 0 < length (middle start end (digits_of w))
    some = omega (arith, middle_length (digits_of w) start end n, n.ordered)

    number_pos : 0 < (mantissa w.whole w.fraction).number
    number_pos = subst (λ x. 0 < x) number_is (number_of-pos stored some)

    mantissa_is :
        record {
          number = number_of (middle start end (digits_of w)) m;
          hi = pos (length w.whole - 1);
          lo = pos 0 -ℤ pos (length w.fraction);
        }
        ≡ mantissa w.whole w.fraction
    mantissa_is = grind (steps, number_is)

    -- ---- no exponent
    -- without an exponent the value has these digits in the written range
    pub makes_plain : w.exponent ≡ None
        → IsPlan w (plan_at start end m (pos (length w.whole - 1)) (pos 0 -ℤ pos (length w.fraction)))
    unfolding scaled
    makes_plain e = grind (steps, stored, value_scaled, mantissa_is)

    -- ---- an exponent
    -- an exponent that moves the written range past a limit is rejected with `limit`
    pub limit_scaled : (e : ℤ) → w.exponent ≡ Some e
        → (pos 32767 <ℤ (pos (length w.whole - 1) +ℤ e)) ⊎ (((pos 0 -ℤ pos (length w.fraction)) +ℤ e) <ℤ negsuc 32767)
        → value_of w ≡ Err limit
    unfolding scaled
    limit_scaled e s o = grind (steps, number_pos, out_of_reach, value_scaled)

    -- the value of the digits times a power of ten, by the magnitudes that the exponent moves
    pub makes_scaled : (e top bottom high low m' hi' lo' : ℤ) → w.exponent ≡ Some e → top ≡ m +ℤ e
        → bottom ≡ (pos (length w.whole) -ℤ pos end) +ℤ e → high ≡ pos (length w.whole - 1) +ℤ e
        → low ≡ (pos 0 -ℤ pos (length w.fraction)) +ℤ e → high ≤ℤ pos 32767 → negsuc 32767 ≤ℤ low → m' ≡ top
        → hi' ≡ (if int_lt (pos 0) top then top else int_max high (pos 0))
        → lo' ≡ (if int_lt bottom (pos 0) then bottom else int_min low (pos 0))
        → IsPlan w (plan_at start end m' hi' lo')
    unfolding scaled
    makes_scaled e top bottom high low m' hi' lo' s top_is bottom_is high_is low_is upper lower m_is hi_is lo_is =
        let v = mantissa w.whole w.fraction in
        let ds = middle start end (digits_of w) in
        let long = middle_length (digits_of w) start end n in
        let hi = pos (length w.whole - 1) in
        let lo = pos 0 -ℤ pos (length w.fraction) in
        let moves : Moves ds m hi lo e m' (int_max (hi +ℤ e) (pos 0)) (int_min (lo +ℤ e) (pos 0)) =
        grind (arith, some) in
        let t = moved stored moves in
        let u = multiplied_is e stored moves ∙ ap (λ x. multiplied x e) mantissa_is in
        let f : first (number_of ds m') ≡ top = first-number_of t some ∙ m_is in
        let l : last (number_of ds m') ≡ bottom =
        last-number_of t some ∙ (omega (arith, ints, m_is, top_is, bottom_is, at, long, n.ordered)) in
        let z : (v.number == 0) ≡ false = let q = number_pos in grind (arith, nat_tests, q) in
        let a = not_over e (omega (arith, ints, high_is, upper)) in
        let b = not_under e (omega (arith, ints, low_is, lower)) in
        let c = not_over (hi +ℤ e) (omega (arith, ints, high_is, upper)) in
        let d = not_under (lo +ℤ e) (omega (arith, ints, low_is, lower)) in
        let tidy : zeros_trimmed (multiplied v e) ≡ record { number = number_of ds m'; hi = hi'; lo = lo' } =
        grind (arith) in
        let up = upper_is top high hi' hi_is (omega (arith, ints, top_is, high_is, at, n.ordered)) upper in
        let down =
        lower_is bottom low lo' lo_is (omega (arith, ints, bottom_is, low_is, n.within, length_digits w)) lower in
        record {
          ordered = omega (arith, n.ordered);
          within = n.within;
          stored =
              stored_as t.digits t.front t.back t.empty
              (λ h. (
                omega (arith, ints, m_is, up.0),
                omega (arith, ints, m_is, top_is, bottom_is, at, down.0, long, n.ordered),
              ))
              up.1 down.1;
          value = value_scaled ∙ (rw (s, z, a, b, c, d) (ap Ok tidy));
        }

-- the same of equal magnitudes
pub is_plan_at : (w : Literal) (start end : ℕ) (m hi lo : ℤ) (b : Bounds) → IsPlan w (plan_at start end m hi lo)
    → b.magnitude ≡ m → b.hi ≡ hi → b.lo ≡ lo
    → IsPlan w (record { start = start; end = end; bounds = b })
is_plan_at w start end m hi lo b k p q r = grind steps
