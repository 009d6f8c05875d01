-- Whether a significand is written with the texts of a pattern.
use Rattle.std.proofs.{Common.{◌≡◌, ◌≢◌, ℕ, zero, suc, Bool, true, false, List, ◌++◌, length, inl, inr, refl, sym, ◌∙◌, ap, subst, w16, to_z, of_z, FitsSigned, arith}, lemmas.{Bool.cases_Bool, Int.to_z-of_z, List.Elements.All-contains}}
use Rattle.std.specs.{Prelude.{◌↔◌, ◌⊎◌, IsTrue, All, Result, Ok, Err, ℤ, pos, negsuc, ◌≤ℤ◌}, List.Contains}
use Rattle.decimal_unsigned.specs.{Unsigned.{one_value}, declared.error.ParseError.ParseError}
use Rattle.fixed_decimal.specs.{Decimal.Decimal}
use Rattle.plural_rules.specs.{Operands.plain, declared.rules.PluralCategory.PluralCategory}
use Rattle.locale_data.specs.{declared.compact.CompactStyle.CompactStyle}
use Rattle.decimal_format.specs.{Formatted.absolute_text, Reading.IsRead, Symbols.Affixes}
use Rattle.locale_data.proofs.lemmas.tables.RulesTexts.{category_exists}
use Rattle.number_format.specs.{declared.{format.formatter.NumberFormatter.NumberFormatter, read.{compact.keys.CompactKey.CompactKey, pattern.NumberPattern.NumberPattern}}, AffixedTexts.{Reader, shifted, IsNumeral, IsWritten, IsWrittenBy}, CompactReading.{category_at, has_number_at, whole_text, word_pattern, word_reader, AreByPower, AreWordPatterns, ChoosesOne, HasCompactExponents, IsReadShownInWords, is_unit, magnitude_by, HasOneText, HasOwnTexts, HasPowerOf, HasTextsAt, HasTextsOf, HasWholeCategory, IsAlone, IsKeyBy, IsOwnOr, IsOwnPattern, IsPatternOf, IsReadByNumber, IsShownInWords, IsReadInAnyWords, IsWordReader}, Scaled.exponent_at}
use Rattle.number_format.proofs.lemmas.{range.RangeEnds.category_unique, read.{AffixedNumbers.two_texts, CompactKeys.{code, coded}, CompactPatterns.AllBelow, CompactTexts.small_exponent}}

-- the magnitude of a key is kept as a 16-bit integer
pub narrow_key : (P : CompactKey → Type 0) (k : CompactKey) → FitsSigned w16 k.magnitude
    → P (record k { magnitude = to_z w16 (of_z w16 k.magnitude) }) → P k
narrow_key P k fits x = subst (λ (z : ℤ). P (record k { magnitude = z })) (to_z-of_z w16 k.magnitude fits) x

-- the whole number may have some category
some_whole : (f : NumberFormatter) (c : PluralCategory) (e : ℤ)
    → (whole : PluralCategory) × (((e ≡ pos 0) × (whole ≡ c)) ⊎ ((e ≢ pos 0) × ¬ IsAlone f whole))
some_whole f c (pos zero) = (c, inl (refl, refl))
some_whole f c (pos (suc n)) = (PluralCategory.Other, inr (λ e. absurd (cc), λ alone. alone))
some_whole f c (negsuc n) = (PluralCategory.Other, inr (λ e. absurd (cc), λ alone. alone))

module _ (f : NumberFormatter) (style : CompactStyle) (v : Decimal) (p : NumberPattern) (sign : p.sign ≡ v.sign)
  where
    own_power : IsOwnPattern f style v p → HasPowerOf f v.absolute p
    own_power own =
        let magnitude = own.own.magnitude ∙ ap (magnitude_by v.absolute) (sym own.is.2) in
        ap (exponent_at f.notation) (sym magnitude) ∙ sym own.is.2

    pub not_own : ¬ HasPowerOf f v.absolute p → IsTrue false ↔ IsOwnPattern f style v p
    not_own none = (λ t. absurd (cc), λ own. absurd (none (own_power own)))

    -- with this power of ten it has the texts of the key, if the power alone chooses them
    pub own_power_is : AreByPower f style → IsPatternOf f style true p → HasPowerOf f v.absolute p
        → IsOwnPattern f style v p
    own_power_is by listed has =
        let category = category_exists f.rules (plain v.absolute) f.rules_listed in
        let m = magnitude_by v.absolute p.exponent in
        let whole = some_whole f category.0 (exponent_at f.notation m) in
        let k : CompactKey = record {
          magnitude = m;
          category = category.0;
          is_one = is_unit v.absolute;
          whole = whole.0;
          sign = p.sign;
        } in
        record {
          key = k;
          own = record {
            magnitude = ap (magnitude_by v.absolute) (sym has);
            category = category.1;
            whole = whole.1;
            one = inl refl;
            sign = sign;
          };
          has = by.number k;
          is = (
            ap (λ (q : NumberPattern). q.affixes) listed.is
                ∙ by.text listed.key k (sym (ap (λ (q : NumberPattern). q.sign) listed.is))
                (sym (ap (λ (q : NumberPattern). q.exponent) listed.is) ∙ sym has),
            refl,
            sym has,
          );
        }

    module _ (k : CompactKey) (by : IsKeyBy f v.absolute p k) where
      abbrev with_one : Bool → CompactKey
      with_one one = record k { is_one = one }

      own_by : (one : Bool) → ChoosesOne f v one → HasTextsOf f style p (with_one one) → IsOwnPattern f style v p
      own_by one chosen has = record {
        key = record (with_one one) { whole = has.1.0 };
        own = record {
          magnitude = by.magnitude
              ∙ ap (magnitude_by v.absolute) (sym by.power ∙ ap (exponent_at f.notation) (sym by.magnitude));
          category = by.category;
          whole = has.1.1.0;
          one = chosen;
          sign = by.sign ∙ sign;
        };
        has = has.0;
        is = (has.1.1.1, sym by.sign, sym by.power ∙ ap (exponent_at f.notation) (sym by.magnitude));
      }

      texts_by : (own : IsOwnPattern f style v p) → HasTextsOf f style p (with_one own.key.is_one)
      texts_by own =
          let q = own.key in
          let magnitude =
          own.own.magnitude ∙ ap (magnitude_by v.absolute) (sym own.is.2) ∙ sym by.magnitude in
          let category =
          category_unique f.rules (plain v.absolute) q.category k.category own.own.category by.category in
          let same : q ≡ record (with_one q.is_one) { whole = q.whole } =
          λ i. record {
            magnitude = magnitude i;
            category = category i;
            is_one = q.is_one;
            whole = q.whole;
            sign = (sym own.is.1 ∙ sym by.sign) i;
          } in (
            ap (has_number_at f style) (sym same) ∙ own.has,
            (
              q.whole,
              (
                subst (HasWholeCategory f) same own.own.whole,
                own.is.0 ∙ ap (λ x. (word_pattern f style x).affixes) same,
              ),
            ),
          )

      -- the pattern is one of the number exactly if it has the texts of its key
      pub own_texts : (r : Bool) → IsTrue r ↔ HasOwnTexts f style p k → IsTrue r ↔ IsOwnPattern f style v p
      own_texts r test = (λ t. from (test.0 t), λ own. test.1 (to own.key.is_one own.own.one (texts_by own)))
        where
          from : HasOwnTexts f style p k → IsOwnPattern f style v p
          from (inl has) = own_by k.is_one (inl by.one) has
          from (inr hidden) = own_by false (inr (refl, hidden.0)) hidden.1

          to : (one : Bool) → ChoosesOne f v one → HasTextsOf f style p (with_one one) → HasOwnTexts f style p k
          to one (inl same) has = inl (subst (λ b. HasTextsOf f style p (with_one b)) (same ∙ sym by.one) has)
          to one (inr hidden) has = inr (hidden.1, subst (λ b. HasTextsOf f style p (with_one b)) hidden.0 has)

-- the texts of a key are those of some category of the whole number
module _ (f : NumberFormatter) (style : CompactStyle) (p : NumberPattern) (k : CompactKey) where
  abbrev HasTexts : PluralCategory → Type 0
  HasTexts whole = HasTextsAt f style p (record k { whole = whole })

  -- they are not those of a category with an index
  abbrev pub LacksTexts : ℕ → Type 0
  LacksTexts i = ¬ HasTexts (category_at i)

  pub none_of : AllBelow LacksTexts 6 → IsTrue false ↔ HasTextsOf f style p k
  none_of lacks = (
    λ t. absurd (cc),
    λ has.
        let c = coded has.1.0 in
        absurd (lacks (code has.1.0) c.0 (subst HasTexts (sym c.1) has.1.1)),
  )

-- patterns that are compared with each other are all that there are
pub by_power : (f : NumberFormatter) (style : CompactStyle) (patterns wholes : List NumberPattern)
    → AreWordPatterns f style true patterns → AreWordPatterns f style false wholes → length wholes ≡ 0
    → All (λ p. All (HasOneText p) patterns) patterns → AreByPower f style
by_power f style patterns wholes are others none all =
    let number : (k : CompactKey) → has_number_at f style k ≡ true = λ k.
    elim (cases_Bool (has_number_at f style k)) [
      | inl has ↦ has
      | inr lacks ↦ absurd (omega (arith, (others.all k lacks).1, none))
    ] in
    record {
      number = number;
      text = λ k l. All-contains (HasOneText (word_pattern f style k)) patterns (word_pattern f style l)
          (All-contains (λ p. All (HasOneText p) patterns) patterns (word_pattern f style k) all
          (are.all k (number k))) (are.all l (number l));
    }

-- ---- What is read.

module _ (f : NumberFormatter) (style : CompactStyle) (r : Reader) (is : IsWordReader f style r) where
  -- the exponents of patterns are small
  pub pattern_exponent : (p : NumberPattern) → Contains r.patterns p
      → (pos 0 ≤ℤ p.exponent) × (p.exponent ≤ℤ pos 19)
  pattern_exponent p listed =
      let k = is.patterns.only p listed in
      subst (λ (x : NumberPattern). (pos 0 ≤ℤ x.exponent) × (x.exponent ≤ℤ pos 19)) (sym k.is)
      (small_exponent f.notation is.exponents k.key.magnitude)

  module _ (inline : ℕ) (text : List ℕ) where
    abbrev pub IsReadHere : Result Decimal ParseError → Type 0
    IsReadHere = IsRead inline (IsNumeral r text) (IsWritten r text)

    abbrev IsReadThere : Reader → Result Decimal ParseError → Type 0
    IsReadThere q = IsRead inline (IsNumeral q text) (IsWritten q text)

    there : (found : Result Decimal ParseError) → IsReadHere found → IsReadThere (word_reader f r.patterns) found
    there found read = subst (λ (q : Reader). IsReadThere q found) is.reader read

    -- nothing is found
    pub read_error : (e : ParseError) → IsReadHere (Err e) → IsReadByNumber inline f style text (Err e)
    read_error e read = (r.patterns, Err e, is.patterns, there (Err e) read, refl)

    pub any_error : (e : ParseError) → IsReadHere (Err e) → IsReadInAnyWords inline f style text (Err e)
    any_error e read = (r.patterns, Err e, is.patterns, there (Err e) read, refl)

    module _ (v : Decimal) (p : NumberPattern) (by : IsWrittenBy r text v p) (read : IsReadHere (Ok v))
        (result : Result Decimal ParseError) where
      symbols : r.symbols ≡ f.style.symbols
      symbols = ap (λ (q : Reader). q.symbols) is.reader

      text_is : text ≡ p.affixes.prefix ++ (absolute_text f.style.symbols by.strategy v.absolute ++ p.affixes.suffix)
      text_is =
          by.is ∙ (λ i. p.affixes.prefix ++ (absolute_text (symbols i) by.strategy v.absolute ++ p.affixes.suffix))

      shown_of : (own : IsOwnPattern f style v p) → IsShownInWords f style text v p.exponent
      shown_of own = record {
        key = own.key;
        own = own.own;
        has = own.has;
        exponent = sym own.is.2;
        strategy = by.strategy;
        is = text_is ∙ ap (λ (a : Affixes). a.prefix
            ++ (absolute_text f.style.symbols by.strategy v.absolute ++ a.suffix)) own.is.0;
      }

      read_own : IsOwnPattern f style v p → result ≡ shifted p.exponent (Ok v)
          → IsReadByNumber inline f style text result
      read_own own e =
          (r.patterns, Ok v, is.patterns, there (Ok v) read, inl (p.exponent, shown_of own, e))

      own_of : (e : ℤ) → IsShownInWords f style text v e → IsOwnPattern f style v p
      own_of e shown =
          let q = word_pattern f style shown.key in
          let same = two_texts f.style.symbols is.readable p q
          (is.named.pair p q by.listed (is.patterns.all shown.key shown.has)) v v read.found.0 read.found.0 by.sign
          shown.own.sign by.strategy shown.strategy (sym text_is ∙ shown.is) in
          record { key = shown.key; own = shown.own; has = shown.has; is = same.0 }

      pub read_value : IsOwnOr f style p v result → IsReadByNumber inline f style text result
      read_value (inl own) = read_own own.0 own.1
      read_value (inr other) =
          (r.patterns, Ok v, is.patterns, there (Ok v) read, inr (λ e shown. other.0 (own_of e shown), other.1))

      pub read_any : result ≡ shifted p.exponent (Ok v) → IsReadInAnyWords inline f style text result
      read_any e = (
        r.patterns,
        Ok v,
        is.patterns,
        there (Ok v) read,
        (p, subst (λ (q : Reader). IsWrittenBy q text v p) is.reader by, e),
      )

-- ---- Whole texts.

module _ (f : NumberFormatter) (style : CompactStyle) (wholes : List NumberPattern)
    (are : AreWordPatterns f style false wholes) where
  pub whole_exponent : HasCompactExponents f.notation → (p : NumberPattern) → Contains wholes p
      → (pos 0 ≤ℤ p.exponent) × (p.exponent ≤ℤ pos 19)
  whole_exponent exponents p listed =
      let k = are.only p listed in
      subst (λ (x : NumberPattern). (pos 0 ≤ℤ x.exponent) × (x.exponent ≤ℤ pos 19)) (sym k.is)
      (small_exponent f.notation exponents k.key.magnitude)

  module _ (inline : ℕ) (text : List ℕ) (result : Result Decimal ParseError) where
    pub read_whole : (p : NumberPattern) → Contains wholes p → text ≡ whole_text p
        → result ≡ shifted p.exponent (Ok (record { sign = p.sign; absolute = one_value }))
        → IsReadShownInWords inline f style text result
    read_whole p listed is e =
        let k = are.only p listed in
        inl (
          k.key,
          record { none = k.has; is = is ∙ ap whole_text k.is },
          e ∙ (λ i. shifted (k.is i).exponent (Ok (record { sign = (k.is i).sign; absolute = one_value }))),
        )

    pub read_other : ((p : NumberPattern) → Contains wholes p → text ≢ whole_text p)
        → IsReadByNumber inline f style text result → IsReadShownInWords inline f style text result
    read_other none read =
        inr (λ k whole. none (word_pattern f style k) (are.all k whole.none) whole.is, read)
