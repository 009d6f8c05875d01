-- From the text between the affixes to the whole text.
use Rattle.std.proofs.{Common.{◌≡◌, ◌≢◌, ℕ, ◌<◌, Bool, false, ◌&&◌, List, [], ◌∷◌, ◌++◌, length, refl, sym, ◌∙◌, ap, subst, arith, append_assoc, append-nil, inl, inr}, lemmas.List.{append_cancel_left, append_cancel_right}}
use Rattle.std.specs.Prelude as Prelude
use Rattle.std.specs.{Prelude.{Result, Err, if◌then◌else◌, pos, ◌-◌, Option, Some, IfSome}, Int.Digits.AllBelowBase, List.Contains}
use Rattle.decimal_unsigned.specs.{Unsigned.IsValue, declared.error.ParseError.{ParseError, TheVariants.Syntax}}
use Rattle.fixed_decimal.specs.{Decimal.Decimal, declared.variations.Sign.{Sign, TheVariants.None}}
use Rattle.plural_rules.specs.{Operands.{Operands, plain}, declared.rules.PluralCategory.PluralCategory}
use Rattle.locale_data.specs.{Plurals.IsCategoryAt, declared.plurals.PluralRulesId.PluralRulesId}
use Rattle.decimal_format.specs.{declared.grouping.GroupingStrategy.GroupingStrategy, Formatted.absolute_text, Grouping.is_grouped, Readable.{IsReadable, BeginsWithDigit, EndsWithDigit}, Reading.{Numeral, AreDigits, IsRead, digits_text, fraction_text, absolute_numeral_text, separated_by}, Symbols.{Symbols, Affixes, digit_text, sign_affixes}}
use Rattle.decimal_format.specs.Reading as reading
use Rattle.decimal_format.proofs.lemmas.reader.{NumeralLaws.{texts_are_unique, none_read, with_sign, read_inside}, Around.no_sign, NumeralTexts.{digits_of_value, absolute_is}, Scans.{begins-append, number_begins, none_after_last, strategy_is}}
use Rattle.number_format.specs.{declared.read.pattern.NumberPattern.NumberPattern, AffixedTexts.{Reader, AreNamed, AreSame, AreToldApart, ArePairApart, between, IsWritten, IsWrittenBy, IsShown, IsNumeral, IsNumeralBy, IsBetween, IsSplit}}
use Rattle.number_format.proofs.lemmas.{range.RangeEnds.category_unique, read.NamedAffixes.ends-append}

-- digits and separators of a text, and the texts around it, are certain
abbrev pub IsReader : Reader → Type 0
IsReader r = IsReadable r.symbols × AreNamed r.symbols r.patterns

-- ---- A number ends with a digit.

never_after_last : (s : Symbols) (g : GroupingStrategy) (n : ℕ) → separated_by s g n 0 ≡ false
never_after_last s g n =
    strategy_is s g n 0 ∙ ap (λ b. b && is_grouped g s.sizes (pos (n - 1))) (none_after_last s)

pub digits_end : (s : Symbols) (f : ℕ → Bool) → f 0 ≡ false → (d : ℕ) (ds : List ℕ) → d < 10 → AllBelowBase 10 ds
    → EndsWithDigit s (digits_text s f (d ∷ ds))
unfolding digits_text
digits_end s f none d [] below all = record {
  digit = d;
  before = [];
  is_digit = below;
  is = ap (λ b. digit_text s d ++ ((if b then s.grouping else []) ++ [])) none ∙ append-nil (digit_text s d);
}
digits_end s f none d (x ∷ ds) below all =
    ends-append s (digit_text s d) _
    (ends-append s (if f (length (x ∷ ds)) then s.grouping else []) (digits_text s f (x ∷ ds))
    (digits_end s f none x ds all.0 all.1))

number_ends : (s : Symbols) (f : ℕ → Bool) (w : Numeral) → f 0 ≡ false → AreDigits w
    → EndsWithDigit s (absolute_numeral_text s f w)
number_ends s f w none digits = go w.whole w.fraction digits.some digits.whole digits.fraction
  where
    go : (whole fraction : List ℕ) → 0 < length whole → AllBelowBase 10 whole → AllBelowBase 10 fraction
        → EndsWithDigit s (digits_text s f whole ++ fraction_text s fraction)
    go [] fraction some all more = absurd (omega (arith, some))
    go (d ∷ ds) [] some all more =
        subst (EndsWithDigit s) (sym (append-nil (digits_text s f (d ∷ ds)))) (digits_end s f none d ds all.0 all.1)
    go (d ∷ ds) (x ∷ xs) some all more =
        ends-append s (digits_text s f (d ∷ ds)) (fraction_text s (x ∷ xs))
        (ends-append s s.decimal (digits_text s (λ _. false) (x ∷ xs))
        (digits_end s (λ _. false) refl x xs more.0 more.1))

-- ---- The text of a number, between digits.

pub record IsNumberText (s : Symbols) (text : List ℕ) : Type 0 where
  pub begins : BeginsWithDigit s text
  pub ends : EndsWithDigit s text

numeral_text_is : (s : Symbols) (g : GroupingStrategy) (w : Numeral) → AreDigits w
    → IsNumberText s (absolute_numeral_text s (separated_by s g (length w.whole)) w)
numeral_text_is s g w digits = record {
  begins = number_begins s (separated_by s g (length w.whole)) w digits;
  ends = number_ends s (separated_by s g (length w.whole)) w (never_after_last s g (length w.whole)) digits;
}

pub value_text_is : (s : Symbols) (g : GroupingStrategy) (v : Decimal) → IsValue v.absolute
    → IsNumberText s (absolute_text s g v.absolute)
value_text_is s g v valid =
    let d = digits_of_value v valid in
    subst (IsNumberText s) (sym (ap (absolute_text s g) d.2.absolute ∙ absolute_is d.0 d.1 d.2.few s g))
    (numeral_text_is s g d.0 d.1)

-- ---- One pattern.

module _ (s : Symbols) where
  clash : (p q : Affixes) (a b : List ℕ) → ArePairApart s p q → IsNumberText s a → IsNumberText s b
      → p.prefix ++ (a ++ p.suffix) ≢ q.prefix ++ (b ++ q.suffix)
  clash p q a b (inl h) x y e =
      h (a ++ p.suffix) (b ++ q.suffix) (begins-append s a p.suffix x.begins) (begins-append s b q.suffix y.begins) e
  clash p q a b (inr h) x y e =
      h (p.prefix ++ a) (q.prefix ++ b) (ends-append s p.prefix a x.ends) (ends-append s q.prefix b y.ends)
      (append_assoc p.prefix a p.suffix ∙ e ∙ sym (append_assoc q.prefix b q.suffix))

  pub same_middle : (p q : NumberPattern) (a b : List ℕ) → AreToldApart s p q → IsNumberText s a → IsNumberText s b
      → between p a ≡ between q b → AreSame p q × (a ≡ b)
  same_middle p q a b (inr apart) x y e = absurd (clash p.affixes q.affixes a b apart x y e)
  same_middle p q a b (inl same) x y e =
      let here : between p a ≡ between p b =
      e ∙ ap (λ (t : Affixes). t.prefix ++ (b ++ t.suffix)) (sym same.0) in (
        same,
        append_cancel_right a b p.affixes.suffix
            (append_cancel_left p.affixes.prefix (a ++ p.affixes.suffix) (b ++ p.affixes.suffix) here),
      )

-- two values have different texts, by patterns that are told apart and show their signs
pub two_texts : (s : Symbols) → IsReadable s → (p q : NumberPattern) → AreToldApart s p q → (v w : Decimal)
    → IsValue v.absolute → IsValue w.absolute → p.sign ≡ v.sign → q.sign ≡ w.sign → (g h : GroupingStrategy)
    → between p (absolute_text s g v.absolute) ≡ between q (absolute_text s h w.absolute) → AreSame p q × (v ≡ w)
two_texts s readable p q apart v w valid valid' own other g h e =
    let same = same_middle s p q (absolute_text s g v.absolute) (absolute_text s h w.absolute) apart
    (value_text_is s g v valid) (value_text_is s h w valid') e in
    let plain = texts_are_unique s g h (record v { sign = None }) (record w { sign = None }) readable valid valid'
    (ap (λ t. t ++ []) same.1) in
    let absolute = ap (λ (d : Decimal). d.absolute) plain in
    let sign = sym own ∙ same.0.1 ∙ other in
    (same.0, λ i. record { sign = sign i; absolute = absolute i })

pub named_texts_are_unique : (r : Reader) → AreNamed r.symbols r.patterns → IsReadable r.symbols
    → (text : List ℕ) (v w : Decimal) → IsValue v.absolute → IsValue w.absolute → IsWritten r text v
    → IsWritten r text w → v ≡ w
named_texts_are_unique r named readable text v w valid valid' (p, x) (q, y) =
    (two_texts r.symbols readable p q (named.pair p q x.listed y.listed) v w valid valid' x.sign y.sign x.strategy
    y.strategy (sym x.is ∙ y.is)).1

-- ---- The category of a pattern.

module _ (rules : PluralRulesId) (number : Operands) (c : PluralCategory) (of_number : IsCategoryAt rules number c)
  where
    pub of_category : (own : Option PluralCategory) → IfSome own (λ x. x ≡ c) → IfSome own (IsCategoryAt rules number)
    of_category Prelude.None allowed = tt
    of_category (Some x) allowed = subst (IsCategoryAt rules number) (sym allowed) of_number

    pub allows_it : (own : Option PluralCategory) → IfSome own (IsCategoryAt rules number) → IfSome own (λ x. x ≡ c)
    allows_it Prelude.None is = tt
    allows_it (Some x) is = category_unique rules number x c is of_number

-- ---- What is read between the texts of a pattern.

module _ (r : Reader) (bytes : List ℕ) where
  numeral_between : (w : Numeral) (p : NumberPattern) (n : IsNumeralBy r bytes w p)
      → IsSplit r.symbols r.patterns Prelude.None bytes p
      (absolute_numeral_text r.symbols (separated_by r.symbols n.strategy (length w.whole)) w)
  numeral_between w p n =
      let text = numeral_text_is r.symbols n.strategy w n.digits in record {
        listed = n.listed;
        allowed = tt;
        between = record { begins = text.begins; ends = text.ends; is = n.is };
      }

  value_between : (v : Decimal) → IsValue v.absolute → (p : NumberPattern) (x : IsWrittenBy r bytes v p)
      → IsBetween r.symbols bytes p (absolute_text r.symbols x.strategy v.absolute)
  value_between v valid p x =
      let text = value_text_is r.symbols x.strategy v valid in
      record { begins = text.begins; ends = text.ends; is = x.is }

  -- the text is between those of no pattern
  pub none_between : (inline : ℕ)
      → ((p : NumberPattern) (middle : List ℕ) → ¬ IsSplit r.symbols r.patterns Prelude.None bytes p middle)
      → IsRead inline (IsNumeral r bytes) (IsWritten r bytes) (Err Syntax)
  none_between inline none =
      none_read (λ w n. none n.0 _ (numeral_between w n.0 n.1))
      (λ v valid x. none x.0 _
      (record { listed = x.1.listed; allowed = tt; between = value_between v valid x.0 x.1 }))

  -- ---- The category.

  module _ (named : AreNamed r.symbols r.patterns) (v : Decimal) (valid : IsValue v.absolute) (c : PluralCategory)
      (of_value : IsCategoryAt r.rules (plain v.absolute) c) where
    -- the text is that of the pattern of this category
    pub shown_by : (p q : NumberPattern) (middle : List ℕ) → IsWrittenBy r bytes v p
        → IsSplit r.symbols r.patterns (Some c) bytes q middle → IsShown r bytes v
    shown_by p q middle x split =
        let text = absolute_text r.symbols x.strategy v.absolute in
        let same = same_middle r.symbols p q text middle (named.pair p q x.listed split.listed)
        (value_text_is r.symbols x.strategy v valid)
        (record { begins = split.between.begins; ends = split.between.ends }) (sym x.is ∙ split.between.is) in (
          q,
          record {
            listed = split.listed;
            sign = sym same.0.1 ∙ x.sign;
            strategy = x.strategy;
            is = x.is ∙ ap (λ (a : Affixes). a.prefix ++ (text ++ a.suffix)) same.0.0;
          },
          of_category r.rules (plain v.absolute) c of_value q.category split.allowed,
        )

    -- the text is that of no pattern of this category
    pub not_shown : ((q : NumberPattern) (middle : List ℕ) → ¬ IsSplit r.symbols r.patterns (Some c) bytes q middle)
        → ¬ IsShown r bytes v
    not_shown none (p, x, of_its) = none p _ (record {
      listed = x.listed;
      allowed = allows_it r.rules (plain v.absolute) c of_value p.category of_its;
      between = value_between v valid p x;
    })

  module _ (readable : IsReadable r.symbols) (named : AreNamed r.symbols r.patterns) (p : NumberPattern)
      (middle : List ℕ) (inside : IsSplit r.symbols r.patterns Prelude.None bytes p middle) where
    pub only_middle : (q : NumberPattern) (text : List ℕ) → Contains r.patterns q → IsBetween r.symbols bytes q text
        → AreSame p q × (middle ≡ text)
    only_middle q text listed b =
        same_middle r.symbols p q middle text (named.pair p q inside.listed listed)
        (record { begins = inside.between.begins; ends = inside.between.ends })
        (record { begins = b.begins; ends = b.ends }) (sym inside.between.is ∙ b.is)

    whole_text : (text : List ℕ) → middle ≡ text → bytes ≡ between p text
    whole_text text e = inside.between.is ∙ ap (between p) e

    -- without a sign there are no affixes
    plain_text : (x : Sign) (text : List ℕ)
        → middle ≡ (sign_affixes r.symbols x).prefix ++ (text ++ (sign_affixes r.symbols x).suffix) → middle ≡ text
    plain_text x text e =
        let none = no_sign r.symbols readable x middle (text ++ (sign_affixes r.symbols x).suffix)
        inside.between.begins e in
        e ∙ ap (λ z. (sign_affixes r.symbols z).prefix ++ (text ++ (sign_affixes r.symbols z).suffix)) none
        ∙ append-nil text

    numeral_up : (w : Numeral) → reading.IsNumeral r.symbols middle w
        → IsNumeral r bytes (record w { sign = p.sign })
    numeral_up w n = (
      p,
      record {
        listed = inside.listed;
        sign = refl;
        digits = record { some = n.digits.some; whole = n.digits.whole; fraction = n.digits.fraction };
        strategy = n.strategy;
        is = whole_text _ (plain_text w.sign _ n.text);
      },
    )

    numeral_down : (w : Numeral) → IsNumeral r bytes w → reading.IsNumeral r.symbols middle (record w { sign = None })
    numeral_down w (q, n) = record {
      digits = record { some = n.digits.some; whole = n.digits.whole; fraction = n.digits.fraction };
      strategy = n.strategy;
      text = (only_middle q _ n.listed (numeral_between w q n).between).1 ∙ sym (append-nil _);
    }

    value_up : (v : Decimal) → IsValue v.absolute → reading.IsWritten r.symbols v middle
        → IsWritten r bytes (record v { sign = p.sign })
    value_up v valid written = (
      p,
      record {
        listed = inside.listed;
        sign = refl;
        strategy = written.0;
        is = whole_text _ (plain_text v.sign _ written.1);
      },
    )

    value_down : (v : Decimal) → IsValue v.absolute → IsWritten r bytes v
        → (v.sign ≡ p.sign) × reading.IsWritten r.symbols (record v { sign = None }) middle
    value_down v valid (q, x) =
        let same = only_middle q _ x.listed (value_between v valid q x) in
        (sym x.sign ∙ sym same.0.1, (x.strategy, same.1 ∙ sym (append-nil _)))

    pub read_between : (inline : ℕ) (result : Result Decimal ParseError)
        → IsRead inline (reading.IsNumeral r.symbols middle) (λ v. reading.IsWritten r.symbols v middle) result
        → IsRead inline (IsNumeral r bytes) (IsWritten r bytes) (with_sign p.sign result)
    read_between inline result is = read_inside p.sign numeral_up numeral_down value_up value_down result is

    -- what is written is written by this pattern
    pub by_pattern : (v : Decimal) → IsValue v.absolute → IsWritten r bytes v → IsWrittenBy r bytes v p
    by_pattern v valid (q, x) =
        let same = only_middle q _ x.listed (value_between v valid q x) in record {
          listed = inside.listed;
          sign = same.0.1 ∙ x.sign;
          strategy = x.strategy;
          is = x.is
              ∙ ap (λ (a : Affixes). a.prefix ++ (absolute_text r.symbols x.strategy v.absolute ++ a.suffix))
              (sym same.0.0);
        }
