-- Scans of digits and separators.
use Rattle.std.proofs.{Math.Bool.or-true, Common.{◌≡◌, ◌≢◌, ℕ, suc, ◌+◌, ◌*◌, ◌%◌, ◌<◌, ◌==◌, Bool, true, false, ◌||◌, List, [], ◌∷◌, ◌++◌, length, refl, sym, ◌∙◌, ap, subst, arith, append_assoc, append-nil, length-append, inl, inr}, lemmas.{Bool.{cases_eq, Decides.nat_tests}, List.append_cancel_left}}
use Rattle.std.specs.{Prelude.{if◌then◌else◌}, Int.Digits.{AllBelowBase, number_from_digits_after}}
use Rattle.decimal_format.specs.{Symbols.{Symbols}, Readable.{IsReadable, code}, Reading.{Numeral, AreDigits, absolute_numeral_text, digits_text, fraction_text}}
use Rattle.decimal_format.proofs.lemmas.reader.Codes.{apart, digit_code, none_not_code}
use Rattle.number_format.specs.{declared.read.scientific.scan.Scan.Scan, ScientificReading.{capped, with_digit, with_code, HasNumbers, IsPlain, EndsNumber, IsScan}}

-- ---- Texts of codes.

abbrev pub codes_text : Symbols → List ℕ → List ℕ
codes_text s [] = []
codes_text s (k ∷ ks) = code s k ++ codes_text s ks

codes_text-append : (s : Symbols) (js ks : List ℕ) → codes_text s (js ++ ks) ≡ codes_text s js ++ codes_text s ks
codes_text-append s [] ks = refl
codes_text-append s (j ∷ js) ks =
    ap (λ l. code s j ++ l) (codes_text-append s js ks)
    ∙ sym (append_assoc (code s j) (codes_text s js) (codes_text s ks))

below-append : (b : ℕ) (js ks : List ℕ) → AllBelowBase b js → AllBelowBase b ks → AllBelowBase b (js ++ ks)
below-append b [] ks p q = q
below-append b (j ∷ js) ks p q = (p.0, below-append b js ks p.1 q)

module _ (s : Symbols) (readable : IsReadable s) where
  -- codes before a text that begins with none of them
  codes-unique : (js ks t u : List ℕ) → AllBelowBase 12 js → AllBelowBase 12 ks → EndsNumber s t → EndsNumber s u
      → codes_text s js ++ t ≡ codes_text s ks ++ u → (js ≡ ks) × (t ≡ u)
  codes-unique [] [] t u p q a b e = (refl, e)
  codes-unique [] (k ∷ ks) t u p q a b e =
      absurd (a k (codes_text s ks ++ u) q.0 (e ∙ append_assoc (code s k) (codes_text s ks) u))
  codes-unique (j ∷ js) [] t u p q a b e =
      absurd (b j (codes_text s js ++ t) p.0 (sym e ∙ append_assoc (code s j) (codes_text s js) t))
  codes-unique (j ∷ js) (k ∷ ks) t u p q a b e =
      let both : code s j ++ (codes_text s js ++ t) ≡ code s k ++ (codes_text s ks ++ u) =
      sym (append_assoc (code s j) (codes_text s js) t) ∙ e ∙ append_assoc (code s k) (codes_text s ks) u in
      let same : j ≡ k =
      apart s readable j k (omega (arith, p.0)) (omega (arith, q.0)) (codes_text s js ++ t) (codes_text s ks ++ u)
      both in
      let rest =
      append_cancel_left (code s j) (codes_text s js ++ t) (codes_text s ks ++ u)
      (both ∙ ap (λ x. code s x ++ (codes_text s ks ++ u)) (sym same)) in
      let more = codes-unique js ks t u p.1 q.1 a b rest in
      ((λ i. same i ∷ more.0 i), more.1)

  code_shorter : (c bytes after : List ℕ) → ((t : List ℕ) → [] ≢ c ++ t) → bytes ≡ c ++ after
      → length after < length bytes
  code_shorter [] bytes after some e = absurd (some [] refl)
  code_shorter (x ∷ c) bytes after some e = omega (arith, ap length e, length-append (x ∷ c) after)

  -- what follows a code is shorter
  pub shorter : (k : ℕ) (bytes after : List ℕ) → k < 12 → bytes ≡ code s k ++ after → length after < length bytes
  shorter k bytes after below e =
      code_shorter (code s k) bytes after
      (λ t. none_not_code s readable k 13 t (omega (arith, below)) (omega arith) (λ h. omega (arith, h, below))) e

  nil_ends : EndsNumber s []
  nil_ends k rest below e =
      none_not_code s readable k 13 rest (omega (arith, below)) (omega arith) (λ h. omega (arith, h, below)) e

-- ---- The codes of digits.

-- the grouping separator, or none
abbrev separator_code : Bool → List ℕ
separator_code separated = if separated then 11 ∷ [] else []

abbrev digit_codes : (ℕ → Bool) → List ℕ → List ℕ
digit_codes f [] = []
digit_codes f (d ∷ ds) = d ∷ (separator_code (f (length ds)) ++ digit_codes f ds)

abbrev fraction_codes : List ℕ → List ℕ
fraction_codes [] = []
fraction_codes (d ∷ ds) = 10 ∷ digit_codes (λ _. false) (d ∷ ds)

separator-text : (s : Symbols) (b : Bool) → codes_text s (separator_code b) ≡ (if b then s.grouping else [])
separator-text s true = append-nil s.grouping
separator-text s false = refl

separator-below : (b : Bool) → AllBelowBase 12 (separator_code b)
separator-below true = (omega arith, tt)
separator-below false = tt

digits-below : (f : ℕ → Bool) (ds : List ℕ) → AllBelowBase 10 ds → AllBelowBase 12 (digit_codes f ds)
digits-below f [] all = tt
digits-below f (d ∷ ds) all = (
  omega (arith, all.0),
  below-append 12 (separator_code (f (length ds))) _ (separator-below (f (length ds)))
      (digits-below f ds all.1),
)

fraction-below : (ds : List ℕ) → AllBelowBase 10 ds → AllBelowBase 12 (fraction_codes ds)
fraction-below [] all = tt
fraction-below (d ∷ ds) all = (omega arith, digits-below (λ _. false) (d ∷ ds) all)

module _ (s : Symbols) (readable : IsReadable s) where
  digits-text : (f : ℕ → Bool) (ds : List ℕ) → AllBelowBase 10 ds → codes_text s (digit_codes f ds) ≡ digits_text s f ds
  unfolding digits_text
  digits-text f [] all = refl
  digits-text f (d ∷ ds) all =
      (λ i. digit_code s readable d all.0 i
      ++ (codes_text-append s (separator_code (f (length ds))) (digit_codes f ds)
      ∙ (λ j. separator-text s (f (length ds)) j ++ digits-text f ds all.1 j)) i)

  fraction-text : (ds : List ℕ) → AllBelowBase 10 ds → codes_text s (fraction_codes ds) ≡ fraction_text s ds
  fraction-text [] all = refl
  fraction-text (d ∷ ds) all = ap (λ l. s.decimal ++ l) (digits-text (λ _. false) (d ∷ ds) all)

plain-codes : (ds : List ℕ) → digit_codes (λ _. false) ds ≡ ds
plain-codes [] = refl
plain-codes (d ∷ ds) = ap (λ l. d ∷ l) (plain-codes ds)

-- ---- Numerals.

abbrev numeral_codes : (ℕ → Bool) → List ℕ → List ℕ → List ℕ
numeral_codes f ds es = digit_codes f ds ++ fraction_codes es

numeral-below : (f : ℕ → Bool) (ds es : List ℕ) → AllBelowBase 10 ds → AllBelowBase 10 es
    → AllBelowBase 12 (numeral_codes f ds es)
numeral-below f ds es all more =
    below-append 12 (digit_codes f ds) (fraction_codes es) (digits-below f ds all) (fraction-below es more)

module _ (s : Symbols) (readable : IsReadable s) where
  numeral-text : (f : ℕ → Bool) (ds es tail : List ℕ) → AllBelowBase 10 ds → AllBelowBase 10 es
      → codes_text s (numeral_codes f ds es) ++ tail ≡ digits_text s f ds ++ (fraction_text s es ++ tail)
  numeral-text f ds es tail all more =
      ap (λ l. l ++ tail) (codes_text-append s (digit_codes f ds) (fraction_codes es))
      ∙ append_assoc (codes_text s (digit_codes f ds)) (codes_text s (fraction_codes es)) tail
      ∙ (λ i. digits-text s readable f ds all i ++ (fraction-text s readable es more i ++ tail))

  -- the same text follows two numerals of a text
  pub same_rest : (f g : ℕ → Bool) (w u : Numeral) (t r : List ℕ) → AreDigits w → AreDigits u → EndsNumber s t
      → EndsNumber s r → absolute_numeral_text s f w ++ t ≡ absolute_numeral_text s g u ++ r → t ≡ r
  same_rest f g w u t r p q a b e =
      (codes-unique s readable (numeral_codes f w.whole w.fraction) (numeral_codes g u.whole u.fraction) t r
      (numeral-below f w.whole w.fraction p.whole p.fraction) (numeral-below g u.whole u.fraction q.whole q.fraction)
      a b
      (numeral-text f w.whole w.fraction t p.whole p.fraction
      ∙ sym (append_assoc (digits_text s f w.whole) (fraction_text s w.fraction) t) ∙ e
      ∙ append_assoc (digits_text s g u.whole) (fraction_text s u.fraction) r
      ∙ sym (numeral-text g u.whole u.fraction r q.whole q.fraction))).1

  -- digits without separators have one text
  pub plain-unique : (ds es : List ℕ) → AllBelowBase 10 ds → AllBelowBase 10 es
      → digits_text s (λ _. false) ds ≡ digits_text s (λ _. false) es → ds ≡ es
  plain-unique ds es p q e =
      let same = codes-unique s readable (digit_codes (λ _. false) ds) (digit_codes (λ _. false) es) [] []
      (digits-below (λ _. false) ds p) (digits-below (λ _. false) es q) (nil_ends s readable) (nil_ends s readable)
      (ap (λ l. l ++ [])
      (digits-text s readable (λ _. false) ds p ∙ e ∙ sym (digits-text s readable (λ _. false) es q))) in
      sym (plain-codes ds) ∙ same.0 ∙ plain-codes es

-- ---- What is scanned.

abbrev pub scanned : Scan → List ℕ → Scan
scanned scan [] = scan
scanned scan (k ∷ ks) = scanned (with_code scan k) ks

scanned-push : (scan : Scan) (ks : List ℕ) (k : ℕ) → scanned scan (ks ++ k ∷ []) ≡ with_code (scanned scan ks) k
scanned-push scan [] k = refl
scanned-push scan (j ∷ ks) k = scanned-push (with_code scan j) ks k

-- a scan of the given number of integer digits, with the numbers that these and the fraction digits write
abbrev state : ℕ → ℕ → ℕ → Bool → Bool → Scan
state count whole fraction decimal grouping = record {
  count = capped count;
  whole = capped whole;
  remainder = whole % 3;
  fraction = capped fraction;
  has_decimal = decimal;
  has_grouping = grouping;
}

abbrev pub start : Scan
start = state 0 0 0 false false

capped_more : (n d : ℕ) → capped (capped n * 10 + d) ≡ capped (n * 10 + d)
capped_more n d = omega arith

capped_next : (n : ℕ) → capped (capped n + 1) ≡ capped (n + 1)
capped_next n = omega arith

remainder_more : (n d : ℕ) → (n % 3 * 10 + d) % 3 ≡ (n * 10 + d) % 3
remainder_more n d = omega arith

is_digit : (scan : Scan) (d : ℕ) → d < 10 → with_code scan d ≡ with_digit scan d
is_digit scan d below =
    let a : (d == 10) ≡ false = grind (arith, nat_tests) in
    let b : (d == 11) ≡ false = grind (arith, nat_tests) in
    rw (a, b) refl

whole_digit : (c n m : ℕ) (g : Bool) (d : ℕ) → d < 10
    → with_code (state c n m false g) d ≡ state (c + 1) (n * 10 + d) m false g
whole_digit c n m g d below =
    is_digit (state c n m false g) d below
    ∙ (λ i. record {
      count = capped_next c i;
      whole = capped_more n d i;
      remainder = remainder_more n d i;
      fraction = capped m;
      has_decimal = false;
      has_grouping = g;
    })

fraction_digit : (c n m : ℕ) (g : Bool) (d : ℕ) → d < 10
    → with_code (state c n m true g) d ≡ state c n (m * 10 + d) true g
fraction_digit c n m g d below =
    is_digit (state c n m true g) d below
    ∙ (λ i. record {
      count = capped c;
      whole = capped n;
      remainder = n % 3;
      fraction = capped_more m d i;
      has_decimal = true;
      has_grouping = g;
    })

-- digits without separators
plain-scan : (c n m : ℕ) (g : Bool) (ds : List ℕ) → AllBelowBase 10 ds
    → scanned (state c n m false g) ds ≡ state (c + length ds) (number_from_digits_after 10 n ds) m false g
plain-scan c n m g [] all = let e : c ≡ c + 0 = omega arith in ap (λ k. state k n m false g) e
plain-scan c n m g (d ∷ ds) all =
    let e : c + 1 + length ds ≡ c + suc (length ds) = omega arith in
    ap (λ st. scanned st ds) (whole_digit c n m g d all.0)
    ∙ plain-scan (c + 1) (n * 10 + d) m g ds all.1
    ∙ ap (λ k. state k (number_from_digits_after 10 (n * 10 + d) ds) m false g) e

fraction-scan : (c n m : ℕ) (g : Bool) (ds : List ℕ) → AllBelowBase 10 ds
    → scanned (state c n m true g) (digit_codes (λ _. false) ds)
    ≡ state c n (number_from_digits_after 10 m ds) true g
fraction-scan c n m g [] all = refl
fraction-scan c n m g (d ∷ ds) all =
    ap (λ st. scanned st (digit_codes (λ _. false) ds)) (fraction_digit c n m g d all.0)
    ∙ fraction-scan c n (m * 10 + d) g ds all.1

separator-scan : (c n m : ℕ) (g b : Bool) (ks : List ℕ) → (h : Bool)
    × (scanned (state c n m false g) (separator_code b ++ ks) ≡ scanned (state c n m false h) ks)
separator-scan c n m g true ks = (true, refl)
separator-scan c n m g false ks = (g, refl)

-- integer digits, with separators anywhere
whole-scan : (f : ℕ → Bool) (c n m : ℕ) (g : Bool) (ds ks : List ℕ) → AllBelowBase 10 ds → (h : Bool)
    × (scanned (state c n m false g) (digit_codes f ds ++ ks)
    ≡ scanned (state (c + length ds) (number_from_digits_after 10 n ds) m false h) ks)
whole-scan f c n m g [] ks all =
    let e : c ≡ c + 0 = omega arith in (g, ap (λ k. scanned (state k n m false g) ks) e)
whole-scan f c n m g (d ∷ ds) ks all =
    let separator = separator_code (f (length ds)) in
    let after = separator-scan (c + 1) (n * 10 + d) m g (f (length ds)) (digit_codes f ds ++ ks) in
    let more = whole-scan f (c + 1) (n * 10 + d) m after.0 ds ks all.1 in
    let e : c + 1 + length ds ≡ c + suc (length ds) = omega arith in (
      more.0,
      ap (λ st. scanned st ((separator ++ digit_codes f ds) ++ ks)) (whole_digit c n m g d all.0)
          ∙ ap (scanned (state (c + 1) (n * 10 + d) m false g)) (append_assoc separator (digit_codes f ds) ks)
          ∙ after.1 ∙ more.1
          ∙ ap (λ k. scanned (state k (number_from_digits_after 10 (n * 10 + d) ds) m false more.0) ks) e,
    )

numbers : (scan : Scan) (ds es : List ℕ) (g h : Bool)
    → scan ≡ state (length ds) (number_from_digits_after 10 0 ds) (number_from_digits_after 10 0 es) g h
    → HasNumbers scan ds es
numbers scan ds es g h e = record {
  count = ap (λ (x : Scan). x.count) e;
  whole = ap (λ (x : Scan). x.whole) e;
  remainder = ap (λ (x : Scan). x.remainder) e;
  fraction = ap (λ (x : Scan). x.fraction) e;
}

fraction-numbers : (ds : List ℕ) (h : Bool) (es : List ℕ) → AllBelowBase 10 es
    → HasNumbers (scanned (state (length ds) (number_from_digits_after 10 0 ds) 0 false h) (fraction_codes es)) ds es
fraction-numbers ds h [] all = numbers _ ds [] false h refl
fraction-numbers ds h (e ∷ es) all =
    numbers _ ds (e ∷ es) true h (fraction-scan (length ds) (number_from_digits_after 10 0 ds) 0 h (e ∷ es) all)

numeral-numbers : (f : ℕ → Bool) (ds es : List ℕ) → AllBelowBase 10 ds → AllBelowBase 10 es
    → HasNumbers (scanned start (digit_codes f ds ++ fraction_codes es)) ds es
numeral-numbers f ds es all more =
    let whole = whole-scan f 0 0 0 false ds (fraction_codes es) all in
    let count : 0 + length ds ≡ length ds = omega arith in
    let is =
    whole.1
    ∙ ap (λ k. scanned (state k (number_from_digits_after 10 0 ds) 0 false whole.0) (fraction_codes es)) count in
    subst (λ x. HasNumbers x ds es) (sym is) (fraction-numbers ds whole.0 es more)

-- ---- Separators.

abbrev has_separator : Scan → Bool
has_separator scan = scan.has_decimal || scan.has_grouping

-- a separator that was scanned stays
separator_stays : (scan : Scan) (ks : List ℕ) → has_separator scan ≡ true → has_separator (scanned scan ks) ≡ true
separator_stays scan [] e = e
separator_stays scan (k ∷ ks) e = separator_stays (with_code scan k) ks (next (k == 10) (k == 11) scan.has_decimal)
  where
    next : (a b c : Bool) → has_separator (if a then record scan { has_decimal = true }
        else if b then record scan { has_grouping = true }
        else if c then record scan { fraction = capped (scan.fraction * 10 + k) }
        else record scan {
          count = capped (scan.count + 1);
          whole = capped (scan.whole * 10 + k);
          remainder = (scan.remainder * 10 + k) % 3;
        }) ≡ true
    next true b c = refl
    next false true c = or-true scan.has_decimal
    next false false true = e
    next false false false = e

-- without separators there are only digits
only_digits : (scan : Scan) (ks : List ℕ) → AllBelowBase 12 ks → IsPlain (scanned scan ks) → AllBelowBase 10 ks
only_digits scan [] all plain = tt
only_digits scan (k ∷ ks) all plain = (
  elim (cases_eq k 10) [
    | inl e ↦
        let t = separator_stays (record scan { has_decimal = true }) ks refl in
        let same : has_separator (scanned (with_code scan 10) ks) ≡ false =
        ap (λ j. has_separator (scanned (with_code scan j) ks)) (sym e) ∙ (λ i. plain.0 i || plain.1 i) in
        absurd (cc (t, same))
    | inr ten ↦ elim (cases_eq k 11) [
      | inl e ↦
          let t = separator_stays (record scan { has_grouping = true }) ks (or-true scan.has_decimal) in
          let same : has_separator (scanned (with_code scan 11) ks) ≡ false =
          ap (λ j. has_separator (scanned (with_code scan j) ks)) (sym e) ∙ (λ i. plain.0 i || plain.1 i) in
          absurd (cc (t, same))
      | inr eleven ↦ omega (arith, all.0, ten, eleven)
    ]
  ],
  only_digits (with_code scan k) ks all.1 plain,
)

-- ---- The loop.

-- the numbers are capped
pub record IsSmall (scan : Scan) : Type 0 where
  pub fraction : scan.fraction < 40001
  pub count : scan.count < 40001
  pub whole : scan.whole < 40001
  pub remainder : scan.remainder < 3

pub small-push : (scan : Scan) (k : ℕ) → IsSmall scan → IsSmall (with_code scan k)
small-push scan k small = go (k == 10) (k == 11) scan.has_decimal
  where
    go : (a b c : Bool) → IsSmall (if a then record scan { has_decimal = true }
        else if b then record scan { has_grouping = true }
        else if c then record scan { fraction = capped (scan.fraction * 10 + k) }
        else record scan {
          count = capped (scan.count + 1);
          whole = capped (scan.whole * 10 + k);
          remainder = (scan.remainder * 10 + k) % 3;
        })
    go true b c = record {
      fraction = small.fraction;
      count = small.count;
      whole = small.whole;
      remainder = small.remainder;
    }
    go false true c = record {
      fraction = small.fraction;
      count = small.count;
      whole = small.whole;
      remainder = small.remainder;
    }
    go false false true = record {
      fraction = omega arith;
      count = small.count;
      whole = small.whole;
      remainder = small.remainder;
    }
    go false false false = record {
      fraction = small.fraction;
      count = omega arith;
      whole = omega arith;
      remainder = omega arith;
    }

-- the codes of a text up to a rest were scanned
pub record HasScanned (s : Symbols) (bytes rest : List ℕ) (scan : Scan) : Type 0 where
  pub codes : List ℕ
  pub below : AllBelowBase 12 codes
  pub text : bytes ≡ codes_text s codes ++ rest
  pub scan_is : scan ≡ scanned start codes
  pub small : IsSmall scan

pub scanned-none : (s : Symbols) (bytes : List ℕ) → HasScanned s bytes bytes start
scanned-none s bytes = record {
  codes = [];
  below = tt;
  text = refl;
  scan_is = refl;
  small = record { fraction = omega arith; count = omega arith; whole = omega arith; remainder = omega arith };
}

pub scanned-more : (s : Symbols) (bytes rest after : List ℕ) (scan : Scan) (k : ℕ) → k < 12
    → rest ≡ code s k ++ after → HasScanned s bytes rest scan → HasScanned s bytes after (with_code scan k)
scanned-more s bytes rest after scan k below e was = record {
  codes = was.codes ++ k ∷ [];
  below = below-append 12 was.codes (k ∷ []) was.below (below, tt);
  text =
      was.text ∙ ap (λ l. codes_text s was.codes ++ l) e
      ∙ sym (append_assoc (codes_text s was.codes) (code s k) after)
      ∙ ap (λ l. (codes_text s was.codes ++ l) ++ after) (sym (append-nil (code s k)))
      ∙ ap (λ l. l ++ after) (sym (codes_text-append s was.codes (k ∷ [])));
  scan_is = ap (λ x. with_code x k) was.scan_is ∙ sym (scanned-push start was.codes k);
  small = small-push scan k was.small;
}

module _ (s : Symbols) (readable : IsReadable s) (bytes rest : List ℕ) (scan : Scan)
    (was : HasScanned s bytes rest scan) (ends : EndsNumber s rest) where
  plain-numbers : (ds : List ℕ) → AllBelowBase 10 ds → scan ≡ scanned start ds → IsPlain scan × HasNumbers scan ds []
  plain-numbers ds all e =
      let count : 0 + length ds ≡ length ds = omega arith in
      let is =
      e ∙ plain-scan 0 0 0 false ds all
      ∙ ap (λ k. state k (number_from_digits_after 10 0 ds) 0 false false) count in (
        (ap (λ (x : Scan). x.has_decimal) is, ap (λ (x : Scan). x.has_grouping) is),
        numbers scan ds [] false false is,
      )

  plain-text : (ds : List ℕ) → AllBelowBase 10 ds → codes_text s ds ≡ digits_text s (λ _. false) ds
  plain-text ds all = ap (codes_text s) (sym (plain-codes ds)) ∙ digits-text s readable (λ _. false) ds all

  pub is_scan : IsScan s bytes rest scan
  is_scan = record {
    split = (codes_text s was.codes, was.text);
    digits = λ plain.
        let all = only_digits start was.codes was.below (subst IsPlain was.scan_is plain) in (
          was.codes,
          all,
          was.text ∙ ap (λ l. l ++ rest) (plain-text was.codes all),
          (plain-numbers was.codes all was.scan_is).1,
        );
    plain = λ ds all text.
        let below : AllBelowBase 12 ds = subst (AllBelowBase 12) (plain-codes ds) (digits-below (λ _. false) ds all) in
        let same = codes-unique s readable was.codes ds rest [] was.below below ends (nil_ends s readable)
        (sym was.text ∙ text ∙ sym (plain-text ds all) ∙ sym (append-nil (codes_text s ds))) in
        let found = plain-numbers ds all (was.scan_is ∙ ap (scanned start) same.0) in
        (same.1, found.0, found.1);
    numeral = λ f ds es tail all more tail_ends text.
        let same = codes-unique s readable was.codes (numeral_codes f ds es) rest tail was.below
        (numeral-below f ds es all more) ends tail_ends
        (sym was.text ∙ text ∙ sym (numeral-text s readable f ds es tail all more)) in (
          same.1,
          subst (λ x. HasNumbers x ds es) (sym (was.scan_is ∙ ap (scanned start) same.0))
              (numeral-numbers f ds es all more),
        );
  }
