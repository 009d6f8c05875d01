-- The text of a compact value: its exponent's digits, and that it reads as the value.
use Rattle.std.proofs.{Common.{◌≡◌, ℕ, zero, suc, ◌+◌, ◌/◌, ◌<◌, ◌≤◌, Bool, false, List, [], ◌∷◌, get_or, refl, sym, ◌∙◌, ap, arith, Option, Some, None, Ok, Err, ◌%◌, ◌^◌, true, append-nil}, Math.Dec.eqb-suc-zero, lemmas.{Bool.Decides.nat_tests, Fmt.{IsAscii-decimal, decimal_digit, decimal_step, decimal_is_IsNumeral, first_decimal}, List.Folds.list_any-append, Str.Parse.digit_from_value, Str.{IsUtf8-nil, IsUtf8-from_ascii, IsAscii-append}}}
use Rattle.std.specs.{Fmt.decimal, List.list_any, Str.IsUtf8, Str.Parse.{AllDigits, IsNumeral, digits_value}}
use Rattle.decimal_unsigned.proofs.lemmas.parse.GrammarParts.{numeral-complete}
use Rattle.decimal_unsigned.specs.Reading.{syntax, is_letter}
use Rattle.fixed_decimal.proofs.lemmas.{integer.Splitting.{split_none, split_at}, signed_decimal.DecimalBytes.{PassesNone, decimal_text-lacks, letter-none, c-none}}
use Rattle.fixed_decimal.specs.{Compact.{split_at_c, IsSplitAtC, ReadsCompact, Compact, exponent_text, compact_text, exponent_number_of, read_exponent, read_fields, read_compact, with_c}, DecimalText.{decimal_text, read_decimal, and_then}}

below_64 : (n : ℕ) → n < 256 → n < 2 ^ 64
below_64 n h = omega arith

-- ---- The text of an exponent.
-- one digit
pub one_digit : (n : ℕ) → 1 ≤ n → n < 10 → exponent_text n ≡ 99 ∷ (48 + n % 10) ∷ []
one_digit n l h = grind (arith, nat_tests, decimal_digit)

-- two digits
pub two_digits : (n : ℕ) → 10 ≤ n → n < 100 → exponent_text n ≡ 99 ∷ (48 + n / 10 % 10) ∷ (48 + n % 10) ∷ []
two_digits n l h = grind (arith, nat_tests, decimal_digit, decimal_step)

-- three digits
pub three_digits : (n : ℕ) → 100 ≤ n → n < 256
    → exponent_text n ≡ 99 ∷ (48 + n / 100) ∷ (48 + n / 10 % 10) ∷ (48 + n % 10) ∷ []
three_digits n l h = grind (arith, nat_tests, decimal_digit, decimal_step)

-- it is ASCII
pub exponent_utf8 : (n : ℕ) → n < 256 → IsUtf8 (exponent_text n)
exponent_utf8 n h =
    grind (arith, nat_tests, IsUtf8-nil, eqb-suc-zero, IsUtf8-from_ascii, IsAscii-append, IsAscii-decimal, below_64)

-- the text of an exponent, by the number of its digits
pub ruleset exponents = (one_digit, two_digits, three_digits)

-- ---- Reading.

-- the split finds the parts
split_is : (text front : List ℕ) (suffix : Option (List ℕ)) → list_any is_letter text ≡ false
    → IsSplitAtC text front suffix
    → split_at_c text ≡ Ok (front, suffix)
unfolding split_at_c
split_is text front suffix h c = grind (arith, nat_tests, append-nil, split_none, split_at)

-- a text with an e or E has no parts
unsplit_is : (text : List ℕ) → list_any is_letter text ≡ true → split_at_c text ≡ Err syntax
unfolding split_at_c
unsplit_is text h = rw h refl

-- reading is reading the parts
pub compact_reads : (text : List ℕ) → ReadsCompact text (read_compact text)
compact_reads text = grind (arith, nat_tests, unsplit_is, split_is)

digits-lacks : (p : ℕ → Bool) → PassesNone p → (ds : List ℕ) → AllDigits 10 ds → list_any p ds ≡ false
digits-lacks p h [] d = refl
digits-lacks p h (c ∷ ds) d =
    let r = digit_from_value c d.0 in
    rw (h c (omega (arith, r.1))) (digits-lacks p h ds d.1)

exponent_number-complete : (ds : List ℕ) → IsNumeral 10 ds → 48 < get_or ds 0 0 → digits_value 10 ds ≤ 255
    → exponent_number_of ds ≡ Ok (digits_value 10 ds)
unfolding exponent_number_of
exponent_number-complete ds n h l = grind (arith, nat_tests, numeral-complete)

exponent_number_reads_back : (n : ℕ) → 0 < n → n < 256 → exponent_number_of (decimal n) ≡ Ok n
exponent_number_reads_back n h l =
    grind (arith, nat_tests, decimal_is_IsNumeral, below_64, exponent_number-complete, first_decimal)

-- the part after the significand, or none: it makes the text, has no e and no E, and reads as the exponent
record Part (n : ℕ) (part : Option (List ℕ)) : Type 0 where
  is : exponent_text n ≡ with_c part
  plain : list_any is_letter (with_c part) ≡ false
  reads : read_exponent part ≡ Ok n

part_of : (n : ℕ) → n < 256 → (part : Option (List ℕ)) × Part n part
part_of zero h = (None, record { is = refl; plain = refl; reads = refl })
part_of (suc n) h = (
  Some (decimal (suc n)),
  record {
    is = rw (eqb-suc-zero n) refl;
    plain = digits-lacks is_letter letter-none (decimal (suc n))
        (decimal_is_IsNumeral (suc n) (below_64 (suc n) h)).0.1;
    reads = exponent_number_reads_back (suc n) (omega arith) h;
  },
)

-- a text is split between its parts
split_between : (v : Compact) (l : v.exponent < 256)
    → split_at_c (compact_text v) ≡ Ok (decimal_text v.significand, (part_of v.exponent l).0)
split_between v l =
    grind (arith, nat_tests, part_of, list_any-append, decimal_text-lacks, letter-none, c-none, split_is)

-- equal texts have equal parts
pub same_fields : (v w : Compact) → v.exponent < 256 → w.exponent < 256 → compact_text v ≡ compact_text w
    → (decimal_text v.significand ≡ decimal_text w.significand) × (v.exponent ≡ w.exponent)
same_fields v w l k e =
    let parts = sym (split_between v l) ∙ ap split_at_c e ∙ split_between w k in
    let pairs : (decimal_text v.significand, (part_of v.exponent l).0)
    ≡ (decimal_text w.significand, (part_of w.exponent k).0) = cc in
    let exponents = sym (part_of v.exponent l).1.reads
    ∙ ap (λ (p : List ℕ × Option (List ℕ)). read_exponent p.1) pairs
    ∙ (part_of w.exponent k).1.reads in
    (ap (λ (p : List ℕ × Option (List ℕ)). p.0) pairs, (let n : v.exponent ≡ w.exponent = cc in n))

-- and each part reads as itself
pub compact_reads_back : (v : Compact) → read_decimal (decimal_text v.significand) ≡ Ok v.significand → v.exponent < 256
    → read_compact (compact_text v) ≡ Ok v
compact_reads_back v h l =
    ap (λ r. and_then r read_fields) (split_between v l)
    ∙ (rw (h, (part_of v.exponent l).1.reads) refl)
