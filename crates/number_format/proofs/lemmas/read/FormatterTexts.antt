-- The texts of a formatter are texts between those of patterns.
use Rattle.std.proofs.{Common.{◌≡◌, ℕ, List, [], ◌++◌, refl, sym, ◌∙◌, ap, subst, arith, append-nil, append_assoc}}
use Rattle.std.specs.{Prelude.{Bool, true, Option, None, Some, IfSome, if◌then◌else◌}, List.Contains}
use Rattle.fixed_decimal.specs.{Decimal.Decimal, declared.variations.Sign.Sign}
use Rattle.decimal_format.specs.{Formatted.absolute_text}
use Rattle.plural_rules.specs.{Operands.plain, declared.rules.PluralCategory.PluralCategory}
use Rattle.locale_data.specs.Plurals.{IsCategoryAt}
use Rattle.number_format.specs.{declared.{format.{outer.OuterTexts.OuterTexts, formatter.NumberFormatter.NumberFormatter}, options.{NumberOptions.NumberOptions, NumberNotation.NumberNotation}, read.pattern.{TheConstants.{SIGN_KEYS, CATEGORY_KEYS}}}, FormattedNumbers.{visible_text, exponent_text}, Formatters.IsFormatter, AffixedTexts.{between, IsShown}, NumberReading.{HasNumbers, IsStandard, words_of, HasPlainDigits, outer_at, number_pattern, pattern_at, patterns_of, keys_by, reader_of, IsShownAs}, NumberText.{IsNumberText, shown_sign, whole_number, compact_magnitude, is_one, compact_pattern, compact_style, operands_by, outer_by, outer_texts, around_by, bare_separator, number_part, exponent_of}, PatternTexts.{Around, pattern_around, affixes_for, within}, Scaled.ScaledValue, TextParts.{Piece, pieces_text}}
use Rattle.number_format.proofs.lemmas.{read.PatternLists.in_map, format.PieceTexts.{shows_integer, text-of_digits_and_exponent, text-three}}

pub some_same : (x y : ScaledValue) → Some x ≡ Some y → x ≡ y
some_same x y e = cc

-- ---- The pattern of a category and a sign.

sign_key : (s : Sign) → Contains SIGN_KEYS (None, s)
sign_key Sign.None = (0, omega arith, refl)
sign_key Sign.Negative = (1, omega arith, refl)
sign_key Sign.Positive = (2, omega arith, refl)

category_key : (c : PluralCategory) (s : Sign) → Contains CATEGORY_KEYS (Some c, s)
category_key PluralCategory.Other Sign.None = (0, omega arith, refl)
category_key PluralCategory.Other Sign.Negative = (1, omega arith, refl)
category_key PluralCategory.Other Sign.Positive = (2, omega arith, refl)
category_key PluralCategory.One Sign.None = (3, omega arith, refl)
category_key PluralCategory.One Sign.Negative = (4, omega arith, refl)
category_key PluralCategory.One Sign.Positive = (5, omega arith, refl)
category_key PluralCategory.Few Sign.None = (6, omega arith, refl)
category_key PluralCategory.Few Sign.Negative = (7, omega arith, refl)
category_key PluralCategory.Few Sign.Positive = (8, omega arith, refl)
category_key PluralCategory.Many Sign.None = (9, omega arith, refl)
category_key PluralCategory.Many Sign.Negative = (10, omega arith, refl)
category_key PluralCategory.Many Sign.Positive = (11, omega arith, refl)
category_key PluralCategory.Two Sign.None = (12, omega arith, refl)
category_key PluralCategory.Two Sign.Negative = (13, omega arith, refl)
category_key PluralCategory.Two Sign.Positive = (14, omega arith, refl)
category_key PluralCategory.Zero Sign.None = (15, omega arith, refl)
category_key PluralCategory.Zero Sign.Negative = (16, omega arith, refl)
category_key PluralCategory.Zero Sign.Positive = (17, omega arith, refl)

-- a key of the formatter that is for numbers of this category and sign, and has what is around them
pub record IsKeyOf (f : NumberFormatter) (o : OuterTexts) (c : PluralCategory) (s : Sign)
    (key : Option PluralCategory × Sign) : Type 0 where
  pub listed : Contains (keys_by o) key
  pub sign : key.1 ≡ s
  pub allowed : IfSome key.0 (λ own. own ≡ c)
  pub outer : outer_at f key.0 ≡ outer_by f c

-- no words of compact notation are written
abbrev HasNoWords : NumberFormatter → Type 0
HasNoWords f = words_of f ≡ None

pub key_of : (f : NumberFormatter) → HasNoWords f → (c : PluralCategory) (s : Sign) (o : OuterTexts) → f.outer ≡ o
    → (key : Option PluralCategory × Sign) × IsKeyOf f o c s key
key_of f words c s OuterTexts.None e = (
  (None, s),
  record {
    listed = sign_key s;
    sign = refl;
    allowed = tt;
    outer = sym (λ i. outer_texts f.formats (e i) (words i) f.options.style c);
  },
)
key_of f words c s (OuterTexts.Units rows) e =
    ((Some c, s), record { listed = category_key c s; sign = refl; allowed = refl; outer = refl })
key_of f words c s (OuterTexts.Names names) e =
    ((Some c, s), record { listed = category_key c s; sign = refl; allowed = refl; outer = refl })

-- a key of texts with the number has one
pub number_at : (f : NumberFormatter) → HasNumbers f → (c : Option PluralCategory)
    → (outer_at f c).has_number ≡ true
number_at f has None = refl
number_at f has (Some c) = has c

-- a pattern with the number is one of the formatter
pub is_listed : (f : NumberFormatter) (key : Option PluralCategory × Sign) → Contains (keys_by f.outer) key
    → (outer_at f key.0).has_number ≡ true → Contains (patterns_of f) (pattern_at f key)
is_listed f key own has =
    subst (λ k. Contains (patterns_of f) (pattern_at f k))
    (λ i. (if has i then key.0 else Some PluralCategory.Other, key.1))
    (in_map (number_pattern f) (keys_by f.outer) key own)

-- ---- The text.

pub within_number : (a : Around) (pieces : List Piece) (b : Bool) → a.has_number ≡ b
    → within a pieces ≡ a.prefix ++ ((if b then pieces else []) ++ a.suffix)
within_number a pieces b has = ap (λ (b : Bool). a.prefix ++ ((if b then pieces else []) ++ a.suffix)) has

-- the text of pieces within what is around them and what is around the whole text
text_around : (outer inner : Around) (pieces : List Piece)
    → pieces_text (outer.prefix ++ ((inner.prefix ++ (pieces ++ inner.suffix)) ++ outer.suffix))
    ≡ (pieces_text outer.prefix ++ pieces_text inner.prefix)
    ++ (pieces_text pieces ++ (pieces_text inner.suffix ++ pieces_text outer.suffix))
text_around outer inner pieces =
    let text = pieces_text pieces in
    let prefix = pieces_text inner.prefix in
    let suffix = pieces_text inner.suffix in
    let inside = text-three inner.prefix pieces inner.suffix prefix text suffix refl refl refl in
    text-three outer.prefix (inner.prefix ++ (pieces ++ inner.suffix)) outer.suffix (pieces_text outer.prefix)
    (prefix ++ (text ++ suffix)) (pieces_text outer.suffix) refl inside refl
    ∙ regrouped (pieces_text outer.prefix) prefix text suffix (pieces_text outer.suffix)
  where
    regrouped : (a b c d e : List ℕ) → a ++ ((b ++ (c ++ d)) ++ e) ≡ (a ++ b) ++ (c ++ (d ++ e))
    regrouped a b c d e = simp append_assoc

-- what is around the digits of a number
abbrev pub inner_by : NumberFormatter → Decimal → ScaledValue → PluralCategory → Around
inner_by f v number category =
    around_by f.style (shown_sign f v number.significand)
    (compact_pattern f.formats (words_of f) (compact_magnitude f.notation number.significand number.exponent) category
    (is_one number.significand))

-- the text of a number is that of the number that is shown, between these texts, or these texts alone
pub text_by : (f : NumberFormatter) (v u : Decimal) (text : List ℕ) (t : IsNumberText f v text)
    → (outer_by f t.1.whole).has_number ≡ true → (shown : IsShownAs f v u) (inner : Around)
    → inner_by f v shown.number t.1.category ≡ inner
    → (b : Bool) → inner.has_number ≡ b
    → text ≡ (pieces_text (outer_by f t.1.whole).prefix ++ pieces_text inner.prefix)
    ++ (pieces_text
    (if b then number_part f u.absolute (exponent_of f.options.notation shown.number.exponent) else [])
    ++ (pieces_text inner.suffix ++ pieces_text (outer_by f t.1.whole).suffix))
text_by f v u text (pieces, is, of_pieces) has shown inner chosen b some =
    let number : is.number ≡ shown.number = some_same _ _ (sym is.number_is ∙ shown.number_is) in
    let outer = outer_by f is.whole in
    let part = number_part f u.absolute (exponent_of f.options.notation shown.number.exponent) in
    of_pieces
    ∙ ap pieces_text is.value
    ∙ (λ i. pieces_text (within outer (within (inner_by f v (number i) is.category)
    (number_part f (number i).significand.absolute (exponent_of f.options.notation (number i).exponent)))))
    ∙ (λ i. pieces_text (within outer (within (chosen i)
    (number_part f (sym shown.absolute i) (exponent_of f.options.notation shown.number.exponent)))))
    ∙ ap (λ inside. pieces_text (within outer inside)) (within_number inner part b some)
    ∙ ap pieces_text (within_number outer _ true has)
    ∙ text_around outer inner (if b then part else [])

-- the text of a number without words is that of the number that is shown, between the texts of a pattern of its
-- category and sign
pub text_between : (f : NumberFormatter) (v u : Decimal) (text : List ℕ) → HasNoWords f
    → (t : IsNumberText f v text) → (outer_by f t.1.whole).has_number ≡ true → (shown : IsShownAs f v u)
    (key : Option PluralCategory × Sign)
    → IsKeyOf f f.outer t.1.whole (shown_sign f v shown.number.significand) key
    → text ≡ between (pattern_at f key)
    (pieces_text (number_part f u.absolute (exponent_of f.options.notation shown.number.exponent)))
text_between f v u text words t has shown own key =
    let number = shown.number in
    let s = shown_sign f v number.significand in
    let e = exponent_of f.options.notation number.exponent in
    text_by f v u text t has shown (pattern_around f.style s) (ap (λ w. around_by f.style s
    (compact_pattern f.formats w (compact_magnitude f.notation number.significand number.exponent) t.1.category
    (is_one number.significand))) words) true refl
    ∙ (λ i. (pieces_text (sym key.outer i).prefix ++ (affixes_for f.style (sym key.sign i)).prefix)
    ++ (pieces_text (number_part f u.absolute e)
    ++ ((affixes_for f.style (sym key.sign i)).suffix ++ pieces_text (sym key.outer i).suffix)))

-- a unit or a name is that of the number that is shown
pub category_of : (f : NumberFormatter) (v u : Decimal) (text : List ℕ) → IsStandard f → (t : IsNumberText f v text)
    → IsShownAs f v u → IsCategoryAt f.rules (plain u.absolute) t.1.whole
category_of f v u text standard (pieces, is, of_pieces) shown =
    let number : is.number ≡ shown.number = some_same _ _ (sym is.number_is ∙ shown.number_is) in
    let operands : operands_by f.options.notation (whole_number f v) is.number ≡ plain u.absolute =
    (λ i. operands_by (standard i) (whole_number f v) (number i)) ∙ ap plain (sym shown.absolute) in
    subst (λ x. IsCategoryAt f.rules x is.whole) operands is.of_whole

pub no_words : (f : NumberFormatter) → IsStandard f → words_of f ≡ None
no_words f standard = ap (λ n. compact_style n f.options.style) standard

-- the text of a number in standard notation is that of the number that is shown
pub formatter_text : (f : NumberFormatter) (v u : Decimal) (text : List ℕ) → IsStandard f → HasPlainDigits f
    → (t : IsNumberText f v text) → (outer_by f t.1.whole).has_number ≡ true → IsShownAs f v u
    → IsShown (reader_of f) text u
formatter_text f v u text standard (notation, auto, integer) t has shown =
    let is = t.1 in
    let words : HasNoWords f = no_words f standard in
    let found = key_of f words is.whole (shown_sign f v shown.number.significand) f.outer refl in
    let key = found.1 in
    let digits = absolute_text f.style.symbols f.options.grouping u.absolute in
    let of_u = category_of f v u text standard t shown in (
      pattern_at f found.0,
      record {
        listed = is_listed f found.0 key.listed (ap (λ (a : Around). a.has_number) key.outer ∙ has);
        sign = key.sign ∙ sym shown.sign;
        strategy = f.options.grouping;
        is = text_between f v u text words t has shown found.0 key
            ∙ ap (between (pattern_at f found.0))
            (text-of_digits_and_exponent f u.absolute (exponent_of f.options.notation shown.number.exponent)
            ∙ (λ i. (visible_text (shows_integer f.digits f.options.decimal_separator u.absolute integer i)
            f.style.symbols f.options.grouping u.absolute ++ bare_separator (auto i) f.style.symbols u.absolute)
            ++ exponent_text f (exponent_of (standard i) shown.number.exponent))
            ∙ append-nil (digits ++ []) ∙ append-nil digits);
      },
      of_category_in is.whole found.0.0 key.allowed of_u,
    )
  where
    of_category_in : (c : PluralCategory) (own : Option PluralCategory) → IfSome own (λ x. x ≡ c)
        → IsCategoryAt f.rules (plain u.absolute) c → IfSome own (IsCategoryAt f.rules (plain u.absolute))
    of_category_in c None allowed is = tt
    of_category_in c (Some x) allowed h = subst (IsCategoryAt f.rules (plain u.absolute)) (sym allowed) h

-- ---- Standard notation.

-- the notation of the options is that of the formatter
pub standard : (tag : List ℕ) (o : NumberOptions) (f : NumberFormatter) → IsFormatter tag o f
    → o.notation ≡ NumberNotation.Standard → IsStandard f
standard tag o f is e = ap (λ (x : NumberOptions). x.notation) is.at.made.options ∙ e
