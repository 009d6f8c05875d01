-- The operands are those of the digits of the text.
use Rattle.std.proofs.{Common.{◌≡◌, ℕ, ◌+◌, ◌-◌, ◌*◌, ◌^◌, ◌<◌, ◌≤◌, List, ◌++◌, length, sym, ◌∙◌, subst, arith, rules}, lemmas.{Int.{ints, Digits.{digits_value_is, digits_value-lt}}, List.{map-append, length-map}, Nat.{div-mul-add, mod-mul-add}, Bool.Decides.nat_tests}, Math.Nat.{mul-div_cancel, mul-div-mul_right}}
use Rattle.std.specs.{Prelude.{None, Ok, pos, ◌-ℤ◌}, Int.int_gap, Str.Parse.{AllDigits, digits_value}}
use Rattle.decimal_digits.specs.Number.{offset, weight}
use Rattle.decimal_unsigned.specs.{Grammar.{Literal, Grammar}, Reading.{mantissa, scaled, value_of, read, FollowsGrammar}, Unsigned.Unsigned, Text.text}
use Rattle.fixed_decimal.proofs.Calling.{ten_pos, offset_is, gap_is, powers, number-append}
use Rattle.plural_rules.specs.Operands.{MatchesDigits}

-- the value of two lists of digits, one after the other
numeral_append : (xs ys : List ℕ)
    → digits_value 10 (xs ++ ys) ≡ digits_value 10 xs * 10 ^ length ys + digits_value 10 ys
numeral_append xs ys = simp (digits_value_is, map-append, number-append, length-map)

-- the value of a text without an exponent is that of its digits
parts_is : (w : Literal) (v : Unsigned) → w.exponent ≡ None → value_of w ≡ Ok v
    → (length w.fraction ≤ 32768) × (mantissa w.whole w.fraction ≡ v)
unfolding value_of scaled
parts_is w v none e = let is = rw none at e in grind (arith, nat_tests, is)

-- the operands of the value of these digits
of_mantissa : (w : Literal) → AllDigits 10 w.fraction → length w.fraction ≤ 32768
    → MatchesDigits (mantissa w.whole w.fraction) w
of_mantissa w digits h =
    let n = length w.fraction in
    let a = digits_value 10 w.whole in
    let b = digits_value 10 w.fraction in
    let few : b < 10 ^ n = digits_value-lt 10 w.fraction digits in
    let both = numeral_append w.whole w.fraction in
    let low : offset (pos 0 -ℤ pos n) ≡ 32768 - n = omega (arith, ints, offset_is (pos 0 -ℤ pos n)) in
    let zero_place : offset (pos 0) ≡ n + (32768 - n) = omega (arith, ints, offset_is (pos 0)) in
    let shown : int_gap (pos 0 -ℤ pos n) (pos 0) ≡ n = omega (arith, ints, gap_is (pos 0 -ℤ pos n) (pos 0)) in
    let one : weight (pos 0) ≡ 10 ^ n * 10 ^ (32768 - n) = powers n (32768 - n) (offset (pos 0)) zero_place in
    let d = digits_value 10 (w.whole ++ w.fraction) in
    record {
      i_is = search (rules, arith, mul-div-mul_right, ten_pos, div-mul-add);
      v_is = shown;
      f_is = search (rules, arith, mul-div_cancel, ten_pos, mod-mul-add);
    }

-- the operands are those of the digits of the text, however the grammar splits it
pub by_text : (v : Unsigned) → read (text v) ≡ Ok v → FollowsGrammar (text v)
    → (w : Literal) → Grammar (text v) w → w.exponent ≡ None → MatchesDigits v w
by_text v reads follows w g none =
    let e : value_of w ≡ Ok v = sym (follows.value w g) ∙ reads in
    let p = parts_is w v none e in
    subst (λ u. MatchesDigits u w) p.1 (of_mantissa w g.fraction p.0)
