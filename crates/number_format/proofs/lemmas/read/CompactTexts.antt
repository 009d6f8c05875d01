-- What a formatter writes in compact notation is read back by its reader.
use Rattle.std.proofs.{Common.{◌≡◌, ◌==◌, ◌&&◌, ◌<◌, ◌/◌, ℕ, zero, suc, Bool, true, false, List, [], ◌++◌, inl, inr, refl, sym, ◌∙◌, ap, subst, arith, append-nil}, Math.{Bool.and-true, Nat.{mul-pos, pos_of_div-pos}}, lemmas.{Bool.{and_parts, Decides.nat_tests}, Int.{ints, clamps}}}
use Rattle.std.specs.{Prelude.{◌⊎◌, Option, Some, None, Result, Ok, Err, MatchResult, if◌then◌else◌, not, ℤ, pos, unsigned_abs, ◌+ℤ◌, ◌-ℤ◌, ◌≤ℤ◌, int_lt}, Int.{int_min}, Option.option_map_or}
use Rattle.decimal_digits.specs.Number.{first, weight}
use Rattle.decimal_unsigned.specs.{Unsigned.{IsValue, one_value}, declared.error.ParseError.{ParseError, TheVariants.Memory}}
use Rattle.fixed_decimal.specs.{Decimal.{Decimal, displayed_sign, negative_or}, declared.variations.{Sign.Sign, SignDisplay.SignDisplay}}
use Rattle.fixed_decimal.specs.declared.variations.SignDisplay.TheVariants as display
use Rattle.fixed_decimal.proofs.Calling.{below_limit, first_zero, ten_pos}
use Rattle.plural_rules.specs.Operands as operands
use Rattle.plural_rules.specs.declared.rules.PluralCategory.{PluralCategory}
use Rattle.locale_data.specs.{Plurals.IsCategoryAt, declared.compact.CompactStyle.CompactStyle}
use Rattle.locale_data.proofs.lemmas.tables.HeldAlone.{held_is_number}
use Rattle.decimal_format.specs.Formatted.{absolute_text}
use Rattle.decimal_format.proofs.lemmas.reader.Scans.{begins-append}
use Rattle.number_format.specs.{declared.{digits.options.DigitOptions.DigitOptions, format.formatter.NumberFormatter.NumberFormatter, notation.Notation.Notation, options.{NumberNotation.NumberNotation, NumberStyle.NumberStyle}, read.compact.keys.CompactKey.CompactKey}, FormattedNumbers.{visible_text, exponent_text}, AffixedTexts.{between, shifted, IsWrittenBy}, CompactReading.{has_number_at, inner_at, is_single, word_pattern, magnitude_by, is_unit, one_of, word_reader, ChoosesOne, HasCompactExponents, HasWholeCategory, HasWordNumbers, IsNoWhole, IsForOneAlone, IsOwnInWords, IsOwnKey, IsReadByNumber, IsReadInWords, IsReadShownInWords, IsSaid, IsShownInWords, IsWholeOf}, NumberReading.{CanRead, CanReadExponents, CanReadNotation, CanReadWords, IsShownAs, KeepsNotation, words_of, AreOwnWordsNamed, HasNumbers}, NumberText.{IsNumberText, around_by, bare_separator, compact_magnitude, compact_pattern, compact_power, compact_style, exponent_of, is_negative, is_one, number_before_cut, operands_by, rounded_by, rounded_in, shown_sign, whole_by, whole_number}, ScientificReading.exponent_form, Scaled.{ScaledValue, base_exponent, compact_exponent, exponent_at, rounded_number, IsOrdered}}
use Rattle.number_format.proofs.lemmas.{format.PieceTexts.{shows_integer, text-of_digits_and_exponent}, notation.Scales.{keeps_exponent, keeps_value_of, zero_exponent}, range.RangeEnds.category_unique, read.{AffixedNumbers.{two_texts, value_text_is}, CompactKeys.{clamped, same_exponent_at}, FormatterTexts.{inner_by, text_by, some_same, no_words}, ShownValues.scaled_first, WholeCategories.{IsBeside, whole_category}, WholeUnits.has_numbers}}

-- ---- The exponent.

ordered : (n : Notation) → HasCompactExponents n → IsOrdered n
ordered (Notation.Compact table) has = has
ordered Notation.Standard has = absurd has
ordered Notation.Scientific has = absurd has
ordered Notation.Engineering has = absurd has

pub from_0 : (b : Bool) (n : ℕ) → pos 0 ≤ℤ (if b then pos 0 else pos n)
from_0 true n = omega (arith, ints)
from_0 false n = omega (arith, ints)

-- no exponent is above 19
pub small_exponent : (n : Notation) → HasCompactExponents n → (m : ℤ)
    → (pos 0 ≤ℤ exponent_at n m) × (exponent_at n m ≤ℤ pos 19)
small_exponent (Notation.Compact table) has m =
    let k = unsigned_abs (clamped m) in
    let at : clamped m ≡ pos k = omega (arith, ints, clamps) in
    let same = same_exponent_at (Notation.Compact table) has m ∙ ap (compact_exponent table) at in
    (from_0 (int_lt m (pos 3)) _, omega (arith, ints, clamps, same, at, (has k).0))
small_exponent Notation.Standard has m = absurd has
small_exponent Notation.Scientific has m = absurd has
small_exponent Notation.Engineering has m = absurd has

-- a number that is rounded has the exponent of the notation
exponent_is : (f : NumberFormatter) (digits : Option DigitOptions) (w : Decimal) (x : ScaledValue)
    → HasCompactExponents f.notation → IsValue w.absolute → KeepsNotation digits
    → rounded_in f.notation digits w ≡ Some x
    → x.exponent ≡ exponent_at f.notation (first x.significand.absolute.number +ℤ x.exponent)
exponent_is f None w x has valid keeps is = absurd keeps
exponent_is f (Some o) w x has valid keeps is =
    (keeps_exponent f.notation o w keeps.1 (ordered f.notation has) (below_limit w.absolute (pos 0) valid) keeps.0 x
    is).0

-- a number that is rounded to zero has no power of ten
zero_is : (f : NumberFormatter) (digits : Option DigitOptions) (w : Decimal) (x : ScaledValue)
    → HasCompactExponents f.notation → IsValue w.absolute → KeepsNotation digits
    → rounded_in f.notation digits w ≡ Some x → x.significand.absolute.number ≡ 0 → x.exponent ≡ pos 0
zero_is f None w x has valid keeps is none = absurd keeps
zero_is f (Some o) w x has valid keeps is none =
    let small = small_exponent f.notation has (first w.absolute.number) in
    let base : base_exponent f.notation w.absolute.number ≡ pos 0 = omega (arith, ints, clamps, small) in
    zero_exponent f.notation o w keeps.1 (ordered f.notation has) (below_limit w.absolute (pos 0) valid) keeps.0 x is
    none
    ∙ base

-- ---- The magnitude.

not_zero : (n : ℕ) → (suc n == 0) ≡ false
not_zero n = grind (arith, nat_tests)

-- it is that of the first digit for zero too, which has no power of ten
pub first_by : (n : ℕ) (e : ℤ) → (n ≡ 0 → e ≡ pos 0)
    → (if n == 0 then pos 0 else int_min (first n +ℤ e) (pos 32767)) ≡ int_min (first n +ℤ e) (pos 32767)
first_by zero e none = omega (arith, ints, clamps, none refl, first_zero)
first_by (suc n) e none =
    ap (λ b. if b then pos 0 else int_min (first (suc n) +ℤ e) (pos 32767)) (not_zero n)

-- the magnitude whose pattern is taken is that of the first digit before the division
module _ (n : Notation) (has : HasCompactExponents n) (v : Decimal) (e : ℤ)
    (own : e ≡ exponent_at n (first v.absolute.number +ℤ e)) (none : v.absolute.number ≡ 0 → e ≡ pos 0) where
  is_first : magnitude_by v.absolute e ≡ int_min (first v.absolute.number +ℤ e) (pos 32767)
  is_first = first_by v.absolute.number e none

  same_above : exponent_at n (magnitude_by v.absolute e) ≡ e
  same_above =
      let m = first v.absolute.number +ℤ e in
      ap (exponent_at n) is_first
      ∙ same_exponent_at n has (int_min m (pos 32767))
      ∙ ap (exponent_at n) (omega (arith, ints, clamps))
      ∙ sym (same_exponent_at n has m)
      ∙ sym own

  not_less : (x y : ℤ) → x ≡ y → int_lt y x ≡ false
  not_less x y e = grind (arith, ints, e)

  magnitude_is : compact_magnitude n v e ≡ magnitude_by v.absolute e
  magnitude_is =
      let small = small_exponent n has (first v.absolute.number +ℤ e) in
      let power : compact_power e ≡ e = omega (arith, ints, clamps, small, own) in
      (λ i. let m = int_min (first v.absolute.number +ℤ power i) (pos 32767) in
      if int_lt (power i) (exponent_at n m) then power i else m)
      ∙ (λ i. if int_lt e (exponent_at n (sym is_first i)) then e else sym is_first i)
      ∙ ap (λ b. if b then e else magnitude_by v.absolute e) (not_less _ e same_above)

-- ---- The text.

-- another sign is shown for one that is no minus sign
negative_is : (other s : Sign) → is_negative other ≡ false → is_negative (negative_or other s) ≡ is_negative s
negative_is other Sign.Negative plain = refl
negative_is other Sign.None plain = plain
negative_is other Sign.Positive plain = plain

-- whether the pattern for 1 itself is chosen, by a key: for -1 too where its sign is shown
abbrev one_by : SignDisplay → Sign → Bool → Bool
one_by display.Never s unit = not (is_negative s) && unit
one_by other s unit = unit

single_by : (unit negative shown : Bool) → (unit ≡ true → shown ≡ negative)
    → (not negative && unit) ≡ (unit && not shown)
single_by true true shown same = ap not (sym (same refl))
single_by true false shown same = ap not (sym (same refl))
single_by false true shown same = refl
single_by false false shown same = refl

-- it is chosen by the sign of the number as by the one that is shown
one_is_single : (unit : Bool) (display : SignDisplay) (n : ℕ) (s : Sign) → (unit ≡ true → (n == 0) ≡ false)
    → (not (is_negative s) && unit) ≡ (one_by display s unit && not (is_negative (displayed_sign display n s)))
one_is_single unit display.Never n s some = sym (and-true (not (is_negative s) && unit))
one_is_single unit display.Auto n s some = single_by unit _ _ (λ one. negative_is Sign.None s refl)
one_is_single unit display.Always n s some = single_by unit _ _ (λ one. negative_is Sign.Positive s refl)
one_is_single unit display.ExceptZero n s some =
    single_by unit _ _
    (λ one. ap (λ b. is_negative (if b then Sign.None else negative_or Sign.Positive s)) (some one)
    ∙ negative_is Sign.Positive s refl)
one_is_single unit display.Negative n s some =
    single_by unit _ _
    (λ one. ap (λ b. is_negative (if b then Sign.None else negative_or Sign.None s)) (some one)
    ∙ negative_is Sign.None s refl)

never_one : (unit : Bool) (s : Sign)
    → ((not (is_negative s) && unit) ≡ unit) ⊎ ((not (is_negative s) && unit) ≡ false)
never_one unit Sign.Negative = inr refl
never_one unit Sign.None = inl refl
never_one unit Sign.Positive = inl refl

-- so each key chooses it as a significand does
chosen : (f : NumberFormatter) (u : Decimal) (unit : Bool) (s : Sign) (display : SignDisplay)
    → f.options.sign_display ≡ display → unit ≡ is_unit u.absolute → ChoosesOne f u (one_by display s unit)
chosen f u unit s display.Never hides is =
    elim (never_one unit s) [
      | inl same ↦ inl (same ∙ is)
      | inr negative ↦ inr (negative, hides)
    ]
chosen f u unit s display.Auto shows is = inl is
chosen f u unit s display.Always shows is = inl is
chosen f u unit s display.ExceptZero shows is = inl is
chosen f u unit s display.Negative shows is = inl is

unit_of_one : (f : NumberFormatter) (u : Decimal) (one : Bool) → ChoosesOne f u one → one ≡ true
    → is_unit u.absolute ≡ true
unit_of_one f u one (inl same) is = sym same ∙ is
unit_of_one f u one (inr negative) is = absurd (let e = sym negative.0 ∙ is in cc)

-- the number 1 is not 0 before it is divided
unit_some : (f : NumberFormatter) (digits : Option DigitOptions) (w : Decimal) (x : ScaledValue)
    → KeepsNotation digits → rounded_in f.notation digits w ≡ Some x → is_unit x.significand.absolute ≡ true
    → (rounded_by f.notation digits w == 0) ≡ false
unit_some f None w x keeps is one = absurd keeps
unit_some f (Some o) w x keeps is one =
    let made = keeps_value_of f.notation o w keeps.0 x is in
    let t = made.0 in
    let number : rounded_number f.notation o w ≡ t.number = ap (λ r. option_map_or (λ s. s.number) r 0) made.1 in
    let a = x.significand.absolute in
    let units : (operands.i a == 1) ≡ true = (and_parts (operands.i a == 1) (operands.w a == 0) one).0 in
    let whole : 0 < a.number / weight (pos 0) = grind (arith, nat_tests, units) in
    let some : 0 < a.number = pos_of_div-pos (weight (pos 0)) whole in
    let product : 0 < t.number = subst (λ n. 0 < n) made.2 (mul-pos some (ten_pos t.exponent)) in
    grind (arith, nat_tests, number, product)

-- a number is shown as a whole text
pub record IsShownWhole (f : NumberFormatter) (style : CompactStyle) (text : List ℕ) (u : Decimal) (e : ℤ)
    : Type 0 where
  pub key : CompactKey
  pub own : IsOwnKey f u key
  pub whole : IsWholeOf f style text key
  pub exponent : exponent_at f.notation key.magnitude ≡ e

abbrev pub IsWordText : NumberFormatter → CompactStyle → List ℕ → Decimal → ℤ → Type 0
IsWordText f style text u e = IsShownInWords f style text u e ⊎ IsShownWhole f style text u e

no_exponent : (n : NumberNotation) (style : NumberStyle) (words : CompactStyle) → compact_style n style ≡ Some words
    → (e : ℤ) → exponent_of n e ≡ None
no_exponent (NumberNotation.Compact w) style words is e = refl
no_exponent NumberNotation.Standard style words is e = refl
no_exponent (NumberNotation.Scientific o) style words is e = absurd (cc)
no_exponent (NumberNotation.Engineering o) style words is e = absurd (cc)

pub no_form : (f : NumberFormatter) (n : NumberNotation) (style : NumberStyle) (words : CompactStyle)
    → compact_style n style ≡ Some words → exponent_form f n ≡ None
no_form f (NumberNotation.Compact w) style words is = refl
no_form f NumberNotation.Standard style words is = refl
no_form f (NumberNotation.Scientific o) style words is = absurd (cc)
no_form f (NumberNotation.Engineering o) style words is = absurd (cc)

module _ (f : NumberFormatter) (style : CompactStyle) (words : words_of f ≡ Some style) where
  pub can_read : CanReadNotation f → CanReadWords f (Some style)
  can_read (inl standard) =
      absurd (let none : None ≡ Some style = (λ i. compact_style (sym standard i) f.options.style) ∙ words in cc)
  can_read (inr (inl exponents)) =
      absurd (subst (CanReadExponents f) (no_form f f.options.notation f.options.style style words) exponents)
  can_read (inr (inr can)) = subst (CanReadWords f) words can

  module _ (can : CanRead f) where
    numbers : HasNumbers f
    numbers =
        has_numbers f
        (λ standard. absurd (let none : None ≡ Some style = sym (no_words f standard) ∙ words in cc))
        can.undo.1

    named : AreOwnWordsNamed f (Some style)
    named = subst (AreOwnWordsNamed f) words can.words

    module _ (v u : Decimal) (valid : IsValue v.absolute) (shown : IsShownAs f v u) where
      own_exponent : shown.number.exponent
          ≡ exponent_at f.notation (first shown.number.significand.absolute.number +ℤ shown.number.exponent)
      own_exponent =
          let first = scaled_first f v shown.number valid shown.number_is in
          let has = can_read can.undo.0.0 in
          exponent_is f f.digits first.0 shown.number has.1.0 first.1 has.0 first.2

      own_zero : shown.number.significand.absolute.number ≡ 0 → shown.number.exponent ≡ pos 0
      own_zero none =
          let first = scaled_first f v shown.number valid shown.number_is in
          let has = can_read can.undo.0.0 in
          zero_is f f.digits first.0 shown.number has.1.0 first.1 has.0 first.2 none

      -- the key by which the texts are chosen
      abbrev key_of : (text : List ℕ) → IsNumberText f v text → CompactKey
      key_of text t = record {
        magnitude = compact_magnitude f.notation shown.number.significand shown.number.exponent;
        category = t.1.category;
        is_one = one_by f.options.sign_display shown.number.significand.sign
            (is_unit shown.number.significand.absolute);
        whole = t.1.whole;
        sign = shown_sign f v shown.number.significand;
      }

      exponent_of_key : (text : List ℕ) (t : IsNumberText f v text)
          → exponent_at f.notation (key_of text t).magnitude ≡ shown.number.exponent
      exponent_of_key text t =
          let has = (can_read can.undo.0.0).1.0 in
          ap (exponent_at f.notation)
          (magnitude_is f.notation has shown.number.significand shown.number.exponent own_exponent own_zero)
          ∙ same_above f.notation has shown.number.significand shown.number.exponent own_exponent own_zero

      own_category : (text : List ℕ) (t : IsNumberText f v text)
          → IsCategoryAt f.rules (operands.plain shown.number.significand.absolute) t.1.category
      own_category text t =
          subst (λ (x : ScaledValue). IsCategoryAt f.rules (operands.plain x.significand.absolute) t.1.category)
          (some_same _ _ (sym t.1.number_is ∙ shown.number_is)) t.1.of_significand

      -- the category of the whole number, in compact notation
      of_whole : (text : List ℕ) (t : IsNumberText f v text)
          → IsCategoryAt f.rules (operands.plain (whole_number f v)) t.1.whole
      of_whole text t = by f.options.notation words t.1.of_whole
        where
          by : (n : NumberNotation) → compact_style n f.options.style ≡ Some style
              → IsCategoryAt f.rules (operands_by n (whole_number f v) t.1.number) t.1.whole
              → IsCategoryAt f.rules (operands.plain (whole_number f v)) t.1.whole
          by (NumberNotation.Compact w) is of_number = of_number
          by NumberNotation.Standard is of_number = absurd (cc)
          by (NumberNotation.Scientific o) is of_number = absurd (cc)
          by (NumberNotation.Engineering o) is of_number = absurd (cc)

      beside : (c : PluralCategory) → IsCategoryAt f.rules (operands.plain (whole_number f v)) c
          → IsBeside f.rules shown.number c
      beside c is =
          let w = scaled_first f v shown.number valid shown.number_is in
          by f.digits w.0 w.1 (can_read can.undo.0.0).0 w.2
          (subst (λ a. IsCategoryAt f.rules (operands.plain a) c) w.4 is)
        where
          by : (digits : Option DigitOptions) (w : Decimal) → IsValue w.absolute → KeepsNotation digits
              → rounded_in f.notation digits w ≡ Some shown.number
              → IsCategoryAt f.rules (operands.plain (whole_by digits w)) c → IsBeside f.rules shown.number c
          by None w value keeps is whole = absurd keeps
          by (Some o) w value keeps is whole =
              whole_category f.notation (λ m. (small_exponent f.notation (can_read can.undo.0.0).1.0 m).0) o keeps.0
              keeps.1 w value shown.number is f.rules c whole

      -- the key has it
      own_whole : (text : List ℕ) (t : IsNumberText f v text) → HasWholeCategory f (key_of text t)
      own_whole text t = elim (beside t.1.whole (of_whole text t)) [
        | inl same ↦
            inl (
              exponent_of_key text t ∙ same.0,
              category_unique f.rules (operands.plain shown.number.significand.absolute)
                  t.1.whole t.1.category same.1 (own_category text t),
            )
        | inr divided ↦ inr (λ zero. omega (arith, ints, divided.0, sym (exponent_of_key text t) ∙ zero), divided.1)
      ]

      own_key : (text : List ℕ) (t : IsNumberText f v text) → IsOwnKey f u (key_of text t)
      own_key text t =
          let number = shown.number in
          let has = (can_read can.undo.0.0).1.0 in
          record {
            magnitude = magnitude_is f.notation has number.significand number.exponent own_exponent own_zero
                ∙ (λ i. magnitude_by (sym shown.absolute i) (sym (exponent_of_key text t) i));
            category = subst (λ a. IsCategoryAt f.rules (operands.plain a) t.1.category) (sym shown.absolute)
                (own_category text t);
            whole = own_whole text t;
            one = chosen f u (is_unit number.significand.absolute) number.significand.sign f.options.sign_display refl
                (sym (ap is_unit shown.absolute));
            sign = sym shown.sign;
          }

      single : (text : List ℕ) (t : IsNumberText f v text)
          → is_one shown.number.significand ≡ is_single (key_of text t)
      single text t =
          let number = shown.number.significand in
          let first = scaled_first f v shown.number valid shown.number_is in
          one_is_single (is_unit number.absolute) f.options.sign_display (number_before_cut f v) number.sign
          (λ one. ap (λ n. n == 0) first.3
          ∙ unit_some f f.digits first.0 shown.number (can_read can.undo.0.0).0 first.2 one)

      inner_of : (text : List ℕ) (t : IsNumberText f v text)
          → inner_by f v shown.number t.1.category ≡ inner_at f style (key_of text t)
      inner_of text t =
          let k = key_of text t in
          (λ i. around_by f.style k.sign (compact_pattern f.formats (words i) k.magnitude k.category (single text t i)))

      shown_by : (text : List ℕ) (t : IsNumberText f v text) (b : Bool)
          → has_number_at f style (key_of text t) ≡ b → IsWordText f style text u shown.number.exponent
      shown_by text t true has =
          let digits = absolute_text f.style.symbols f.options.grouping u.absolute in
          let e = shown.number.exponent in
          inl (record {
            key = key_of text t;
            own = own_key text t;
            has = has;
            exponent = exponent_of_key text t;
            strategy = f.options.grouping;
            is = text_by f v u text t (numbers t.1.whole) shown _ (inner_of text t) true has
                ∙ ap (between (word_pattern f style (key_of text t)))
                (text-of_digits_and_exponent f u.absolute (exponent_of f.options.notation e)
                ∙ (λ i. (visible_text
                (shows_integer f.digits f.options.decimal_separator u.absolute can.undo.0.2 i)
                f.style.symbols f.options.grouping u.absolute
                ++ bare_separator (can.undo.0.1 i) f.style.symbols u.absolute)
                ++ exponent_text f (no_exponent f.options.notation f.options.style style words e i))
                ∙ append-nil (digits ++ []) ∙ append-nil digits);
          })
      shown_by text t false none =
          inr (record {
            key = key_of text t;
            own = own_key text t;
            whole = record {
              none = none;
              is = text_by f v u text t (numbers t.1.whole) shown _ (inner_of text t) false none;
            };
            exponent = exponent_of_key text t;
          })

      -- the formatter writes the number with its words, or as a whole text
      pub is_shown : (text : List ℕ) → IsNumberText f v text
          → IsWordText f style text u shown.number.exponent
      is_shown text t = shown_by text t (has_number_at f style (key_of text t)) refl

    -- ---- Whole texts.

    has_words : HasWordNumbers f style
    has_words = (can_read can.undo.0.0).1.1

    -- a text with a number is none
    no_whole : (text : List ℕ) (u : Decimal) (e : ℤ) → IsValue u.absolute → IsShownInWords f style text u e
        → IsNoWhole f style text
    no_whole text u e valid shown k whole =
        let p = word_pattern f style shown.key in
        let digits = absolute_text f.style.symbols shown.strategy u.absolute in
        (has_words k whole.none).no_digit p.affixes.prefix (digits ++ p.affixes.suffix) (sym whole.is ∙ shown.is)
        (begins-append f.style.symbols digits p.affixes.suffix
        (value_text_is f.style.symbols shown.strategy u valid).begins)

    -- two keys of a whole text have one meaning
    one_meaning : (text : List ℕ) (k l : CompactKey) → IsWholeOf f style text k → IsWholeOf f style text l
        → (k.sign ≡ l.sign) × (exponent_at f.notation k.magnitude ≡ exponent_at f.notation l.magnitude)
    one_meaning text k l a b =
        (has_words k a.none).meaning l
        (record { none = b.none; same = sym a.is ∙ b.is })

    is_unit_of : (u : Decimal) (k : CompactKey) → IsValue u.absolute → IsOwnKey f u k → IsForOneAlone f k
        → is_unit u.absolute ≡ true
    is_unit_of u k valid own (inl single) = unit_of_one f u k.is_one own.one (and_parts _ _ single).0
    is_unit_of u k valid own (inr (one, alone)) =
        held_is_number u.absolute valid 1 f.rules PluralCategory.One alone
        (subst (IsCategoryAt f.rules (operands.plain u.absolute)) one own.category)

    said_whole : (text : List ℕ) (u : Decimal) (e : ℤ) → IsValue u.absolute → (shown : IsShownWhole f style text u e)
        → (s : Sign) → s ≡ u.sign → IsSaid f style text u (record { sign = s; absolute = one_value })
    said_whole text u e valid shown s sign =
        inr (
          shown.key,
          shown.whole,
          is_unit_of u shown.key valid shown.own (has_words shown.key shown.whole.none).one,
          λ i. record { sign = sign i; absolute = one_value },
        )

    -- ---- What the text says.

    -- one text is shown of one number
    pub one_number : (text : List ℕ) (x y : Decimal) (d e : ℤ) → IsValue x.absolute → IsValue y.absolute
        → IsWordText f style text x d → IsWordText f style text y e
        → (z : Decimal) × IsSaid f style text x z × IsSaid f style text y z × (d ≡ e)
    one_number text x y d e valid valid' (inl a) (inl b) =
        let same = two_texts f.style.symbols can.readable (word_pattern f style a.key) (word_pattern f style b.key)
        (named a.key b.key a.has b.has) x y valid valid' a.own.sign b.own.sign a.strategy b.strategy
        (sym a.is ∙ b.is) in
        let none = no_whole text x d valid a in
        (x, inl (none, refl), inl (none, same.1), sym a.exponent ∙ same.0.2 ∙ b.exponent)
    one_number text x y d e valid valid' (inr a) (inr b) =
        let same = one_meaning text a.key b.key a.whole b.whole in (
          record { sign = x.sign; absolute = one_value },
          said_whole text x d valid a x.sign refl,
          said_whole text y e valid' b x.sign (sym a.own.sign ∙ same.0 ∙ b.own.sign),
          sym a.exponent ∙ same.1 ∙ b.exponent,
        )
    one_number text x y d e valid valid' (inl a) (inr b) = absurd (no_whole text x d valid a b.key b.whole)
    one_number text x y d e valid valid' (inr a) (inl b) = absurd (no_whole text y e valid' b a.key a.whole)

    abbrev IsReadAs : List ℕ → Decimal → ℤ → Result Decimal ParseError → Type 0
    IsReadAs text u e read =
        (w : Decimal) × IsSaid f style text u w × ((read ≡ shifted e (Ok w)) ⊎ (read ≡ Err Memory))

    -- what is shown with a number is read back
    reads_number : (inline : ℕ) (text : List ℕ) (u : Decimal) (e : ℤ) (read : Result Decimal ParseError)
        → IsValue u.absolute → IsShownInWords f style text u e → IsReadByNumber inline f style text read
        → (read ≡ shifted e (Ok u)) ⊎ (read ≡ Err Memory)
    reads_number inline text u e read valid shown (patterns, found, are, is, own) =
        go found own (is.reads_back u valid (word_pattern f style shown.key, written))
      where
        written : IsWrittenBy (word_reader f patterns) text u (word_pattern f style shown.key)
        written = record {
          listed = are.all shown.key shown.has;
          sign = shown.own.sign;
          strategy = shown.strategy;
          is = shown.is;
        }

        go : (found : Result Decimal ParseError) → IsOwnInWords f style text found read
            → MatchResult found (λ x. x ≡ u) (λ x. x ≡ Memory)
            → (read ≡ shifted e (Ok u)) ⊎ (read ≡ Err Memory)
        go (Ok x) (inl own) same =
            let here = subst (λ w. IsShownInWords f style text w own.0) same own.1 in
            let one = one_number text u u own.0 e valid valid (inl here) (inl shown) in
            inl (own.2 ∙ (λ i. shifted (one.3 i) (Ok (same i))))
        go (Ok x) (inr other) same = absurd (other.0 e (subst (λ w. IsShownInWords f style text w e) (sym same) shown))
        go (Err x) own memory = inr (own ∙ ap Err memory)

    -- what is shown is read back
    reads_shown : (inline : ℕ) (text : List ℕ) (u : Decimal) (e : ℤ) (read : Result Decimal ParseError)
        → IsValue u.absolute → IsWordText f style text u e → IsReadShownInWords inline f style text read
        → IsReadAs text u e read
    reads_shown inline text u e read valid (inl shown) (inl (k, whole, is)) =
        absurd (no_whole text u e valid shown k whole)
    reads_shown inline text u e read valid (inl shown) (inr (none, is)) =
        (u, inl (none, refl), reads_number inline text u e read valid shown is)
    reads_shown inline text u e read valid (inr shown) (inl (k, whole, is)) =
        let same = one_meaning text k shown.key whole shown.whole in (
          one_of k,
          said_whole text u e valid shown k.sign (same.0 ∙ shown.own.sign),
          inl (is ∙ ap (λ z. shifted z (Ok (one_of k))) (same.1 ∙ shown.exponent)),
        )
    reads_shown inline text u e read valid (inr shown) (inr (none, is)) = absurd (none shown.key shown.whole)

    pub reads : (inline : ℕ) (text : List ℕ) (u : Decimal) (e : ℤ) (result : Result Decimal ParseError)
        → IsValue u.absolute → IsWordText f style text u e → IsReadInWords inline f style text result
        → (w : Decimal) × IsSaid f style text u w
        × ((result ≡ shifted (pos 0 -ℤ f.options.scale) (shifted e (Ok w))) ⊎ (result ≡ Err Memory))
    reads inline text u e result valid shown (read, is, made) =
        let shows = reads_shown inline text u e read valid shown is in (
          shows.0,
          shows.1,
          elim shows.2 [
            | inl value ↦ inl (made ∙ ap (shifted (pos 0 -ℤ f.options.scale)) value)
            | inr memory ↦ inr (made ∙ ap (shifted (pos 0 -ℤ f.options.scale)) memory)
          ],
        )
