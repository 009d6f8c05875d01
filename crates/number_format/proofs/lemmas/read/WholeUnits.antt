-- A text of a unit without a number says the number that is shown.
use Rattle.std.proofs.Common.{◌≡◌, ℕ, Bool, true, false, List, ◌++◌, inl, inr, refl, sym, ◌∙◌, ap, subst}
use Rattle.std.specs.Prelude.{◌⊎◌, Option, Some, None, IsSomeAnd, Result, Ok, Err}
use Rattle.decimal_unsigned.specs.{Unsigned.{IsValue, integer_value}, declared.error.ParseError.{ParseError, TheVariants.Memory}}
use Rattle.fixed_decimal.specs.{Decimal.{Decimal, displayed_sign}, declared.variations.{Sign.Sign, SignDisplay.SignDisplay}}
use Rattle.plural_rules.specs.{Operands.plain, declared.rules.PluralCategory.PluralCategory}
use Rattle.locale_data.specs.{declared.{compact.CompactStyle.CompactStyle, number_formats.NumberFormats.NumberFormats}, Plurals.{HoldsAlone, IsCategoryAt}}
use Rattle.locale_names.specs.LocaleCurrencies.{name_for, pattern_for}
use Rattle.locale_data.proofs.lemmas.tables.HeldAlone.{held_is_number}
use Rattle.decimal_format.specs.Formatted.{absolute_text}
use Rattle.decimal_format.proofs.lemmas.reader.Scans.{begins-append}
use Rattle.number_format.specs.{declared.{format.{formatter.NumberFormatter.NumberFormatter, outer.OuterTexts.OuterTexts}, options.NumberStyle.NumberStyle}, AffixedTexts.{shifted, IsShown}, CompactReading.lone_number, NumberReading.{CanRead, HasNumbers, IsReadOrSaid, IsShownAs, IsStandard, reader_of, words_of}, NumberText.{number_before_cut, outer_by, outer_texts, place_of, name_texts, IsNumberText}, PatternTexts.{Around, within}, TextParts.{Piece, pieces_text}, WholeUnits.{said, unit_around, AreCategoriesRead, AreUnitsApart, IsCategoryRead, IsSaidOf, IsUnitRead, IsUnitText, SaysNone, SaysNumber}}
use Rattle.number_format.proofs.lemmas.{format.PieceTexts.text-append, read.{AffixedNumbers.{named_texts_are_unique, value_text_is}, FormatterTexts.{category_of, formatter_text, no_words, within_number}, ReadBack.reads}}

-- ---- Categories without a number.

-- in other notations than standard there is none
pub has_numbers : (f : NumberFormatter) → ¬ IsStandard f → AreCategoriesRead f → HasNumbers f
has_numbers f other read c = by (outer_by f c).has_number refl (read c)
  where
    by : (b : Bool) → (outer_by f c).has_number ≡ b → IsCategoryRead f c → (outer_by f c).has_number ≡ true
    by true has read = has
    by false none read = absurd (other (read none).standard)

-- ---- What is around the whole text.

named_has : (b : Bool) (x y : List ℕ) → (name_texts x (b, y)).has_number ≡ true
named_has true x y = refl
named_has false x y = refl

-- without a number it is a text of the unit
around_unit : (formats : NumberFormats) (o : OuterTexts) (style : NumberStyle) (c : PluralCategory)
    → (outer_texts formats o None style c).has_number ≡ false → outer_texts formats o None style c ≡ unit_around o c
around_unit formats (OuterTexts.Units rows) style c none = refl
around_unit formats (OuterTexts.Names names) style c none =
    let place = place_of (pattern_for names c) in
    absurd (let e = sym (named_has place.0 (name_for names c) place.1) ∙ none in cc)
around_unit formats OuterTexts.None style c none = absurd (cc)

unit_is_around : (formats : NumberFormats) (o : OuterTexts) (words : Option CompactStyle) (style : NumberStyle)
    (c : PluralCategory) → (unit_around o c).has_number ≡ false → outer_texts formats o words style c ≡ unit_around o c
unit_is_around formats (OuterTexts.Units rows) words style c none = refl
unit_is_around formats (OuterTexts.Names names) words style c none = absurd (cc)
unit_is_around formats OuterTexts.None words style c none = absurd (cc)

-- ---- Categories of one number.

lone_of : (o : Option ℕ) (P : ℕ → Type 0) → IsSomeAnd o P → (n : ℕ) × (o ≡ Some n) × P n
lone_of None P has = absurd has
lone_of (Some n) P has = (n, refl, has)

lone_same : (c d : PluralCategory) (n m : ℕ) → c ≡ d → lone_number c ≡ Some n → lone_number d ≡ Some m → n ≡ m
lone_same c d n m e a b = let same : Some n ≡ Some m = sym a ∙ ap lone_number e ∙ b in cc

one_category : (texts : OuterTexts) → AreUnitsApart texts → (text : List ℕ) (c d : PluralCategory) (n m : ℕ)
    → lone_number c ≡ Some n → lone_number d ≡ Some m → IsUnitText texts text c → IsUnitText texts text d → c ≡ d
one_category texts apart text PluralCategory.One PluralCategory.One n m a b x y = refl
one_category texts apart text PluralCategory.Two PluralCategory.Two n m a b x y = refl
one_category texts apart text PluralCategory.One PluralCategory.Two n m a b x y = absurd (apart text x y)
one_category texts apart text PluralCategory.Two PluralCategory.One n m a b x y = absurd (apart text y x)
one_category texts apart text PluralCategory.One d n m a b x y = absurd (cc)
one_category texts apart text PluralCategory.Two d n m a b x y = absurd (cc)
one_category texts apart text c d n m a b x y = absurd (cc)

-- ---- The text of a number.

-- the text is that of the number's category, which has no number
pub record IsShownAlone (f : NumberFormatter) (text : List ℕ) (u : Decimal) : Type 0 where
  pub category : PluralCategory
  pub of_u : IsCategoryAt f.rules (plain u.absolute) category
  pub is : IsUnitText f.outer text category
  pub read : IsUnitRead f category
  pub unsigned : u.sign ≡ Sign.None

never_signed : (display : SignDisplay) (n : ℕ) (s : Sign) → display ≡ SignDisplay.Never
    → displayed_sign display n s ≡ Sign.None
never_signed display n s e = ap (λ d. displayed_sign d n s) e

alone_text : (a : Around) (pieces : List Piece) → a.has_number ≡ false
    → pieces_text (within a pieces) ≡ pieces_text a.prefix ++ pieces_text a.suffix
alone_text a pieces none = ap pieces_text (within_number a pieces false none) ∙ text-append a.prefix a.suffix

module _ (f : NumberFormatter) (standard : IsStandard f) (can : CanRead f) where
  abbrev IsTextOf : List ℕ → Decimal → Type 0
  IsTextOf text u = IsShown (reader_of f) text u ⊎ IsShownAlone f text u

  is_text_of : (v u : Decimal) (text : List ℕ) → IsNumberText f v text → IsShownAs f v u → IsTextOf text u
  is_text_of v u text t shown = by (outer_by f t.1.whole).has_number refl
    where
      by : (b : Bool) → (outer_by f t.1.whole).has_number ≡ b → IsTextOf text u
      by true has = inl (formatter_text f v u text standard can.undo.0 t has shown)
      by false none =
          let c = t.1.whole in
          let read = can.undo.1 c none in
          let outer : outer_by f c ≡ unit_around f.outer c =
          (λ i. outer_texts f.formats f.outer (no_words f standard i) f.options.style c)
          ∙ around_unit f.formats f.outer f.options.style c
          (subst (λ w. (outer_texts f.formats f.outer w f.options.style c).has_number ≡ false) (no_words f standard)
          none) in
          inr (record {
            category = c;
            of_u = category_of f v u text standard t shown;
            is = record {
              none = ap (λ (a : Around). a.has_number) (sym outer) ∙ none;
              is = t.2 ∙ ap pieces_text t.1.value ∙ alone_text (outer_by f c) _ none
                  ∙ ap (λ (a : Around). pieces_text a.prefix ++ pieces_text a.suffix) outer;
            };
            read = read;
            unsigned = shown.sign ∙ never_signed f.options.sign_display (number_before_cut f v) _ read.unsigned;
          })

  -- a text that says a number is read
  read_of : (text : List ℕ) (n : ℕ) → (says : SaysNumber f.outer text n) → IsUnitRead f says.category
  read_of text n says =
      let c = says.category in
      can.undo.1 c
      (ap (λ (a : Around). a.has_number)
      (unit_is_around f.formats f.outer (words_of f) f.options.style c says.is.none)
      ∙ says.is.none)

  -- a text with a number says none
  says_none : (text : List ℕ) (u : Decimal) → IsValue u.absolute → IsShown (reader_of f) text u
      → SaysNone f.outer text
  says_none text u valid (p, by, own) n says =
      let digits = absolute_text f.style.symbols by.strategy u.absolute in
      (read_of text n says).no_digit p.affixes.prefix (digits ++ p.affixes.suffix) (sym says.is.is ∙ by.is)
      (begins-append f.style.symbols digits p.affixes.suffix
      (value_text_is f.style.symbols by.strategy u valid).begins)

  -- the number that a text says
  lone : (text : List ℕ) (u : Decimal) → IsShownAlone f text u → (n : ℕ) × SaysNumber f.outer text n
  lone text u alone =
      let n = lone_of (lone_number alone.category) (HoldsAlone f.rules alone.category) alone.read.alone in
      (n.0, record { category = alone.category; number = n.1; is = alone.is })

  -- is that of the category
  says_alone : (text : List ℕ) (u : Decimal) → IsValue u.absolute → (alone : IsShownAlone f text u) → (n : ℕ)
      → (says : SaysNumber f.outer text n) → (w : Decimal) → w ≡ record { sign = u.sign; absolute = integer_value n }
      → IsSaidOf f.outer text u w
  says_alone text u valid alone n says w is =
      let c = alone.category in
      let own = lone_of (lone_number c) (HoldsAlone f.rules c) alone.read.alone in
      let same = one_category f.outer alone.read.apart text c says.category own.0 n own.1 says.number alone.is says.is
      in
      let number = lone_same c says.category own.0 n same own.1 says.number in
      inr (
        n,
        says,
        held_is_number u.absolute valid n f.rules c (subst (HoldsAlone f.rules c) number own.2) alone.of_u,
        is,
      )

  -- ---- The laws.

  pub one_said : (x y : Decimal) (text : List ℕ) → IsValue x.absolute → IsValue y.absolute
      → IsTextOf text x → IsTextOf text y
      → (z : Decimal) × IsSaidOf f.outer text x z × IsSaidOf f.outer text y z
  one_said x y text valid valid' (inl a) (inl b) =
      let same = named_texts_are_unique (reader_of f) can.named can.readable text x y valid valid' (a.0, a.1)
      (b.0, b.1) in
      let none = says_none text x valid a in
      (x, inl (none, refl), inl (none, same))
  one_said x y text valid valid' (inr a) (inr b) =
      let says = lone text x a in (
        record { sign = x.sign; absolute = integer_value says.0 },
        says_alone text x valid a says.0 says.1 _ refl,
        says_alone text y valid' b says.0 says.1 _
            (λ i. record { sign = (a.unsigned ∙ sym b.unsigned) i; absolute = integer_value says.0 }),
      )
  one_said x y text valid valid' (inl a) (inr b) =
      absurd (let says = lone text y b in says_none text x valid a says.0 says.1)
  one_said x y text valid valid' (inr a) (inl b) =
      absurd (let says = lone text x a in says_none text y valid' b says.0 says.1)

  pub are_said : (v w x y : Decimal) (text : List ℕ) → IsValue x.absolute → IsValue y.absolute
      → IsNumberText f v text → IsNumberText f w text → IsShownAs f v x → IsShownAs f w y
      → (z : Decimal) × IsSaidOf f.outer text x z × IsSaidOf f.outer text y z
  are_said v w x y text valid valid' a b p q =
      one_said x y text valid valid' (is_text_of v x text a p) (is_text_of w y text b q)

  reads_text : (inline : ℕ) (u : Decimal) (text : List ℕ) (result : Result Decimal ParseError) → IsValue u.absolute
      → IsTextOf text u → IsReadOrSaid inline f.outer (reader_of f) text result
      → (w : Decimal) × IsSaidOf f.outer text u w
      × ((result ≡ shifted (reader_of f).shift (Ok w)) ⊎ (result ≡ Err Memory))
  reads_text inline u text result valid (inl shown) (inl (n, says, is)) =
      absurd (says_none text u valid shown n says)
  reads_text inline u text result valid (inl shown) (inr (none, is)) =
      (u, inl (none, refl), reads inline (reader_of f) text u result valid shown is)
  reads_text inline u text result valid (inr alone) (inl (n, says, is)) = (
    said n,
    says_alone text u valid alone n says (said n)
        (λ i. record { sign = sym alone.unsigned i; absolute = integer_value n }),
    inl is,
  )
  reads_text inline u text result valid (inr alone) (inr (none, is)) =
      absurd (let says = lone text u alone in none says.0 says.1)

  pub reads_said : (inline : ℕ) (v u : Decimal) (text : List ℕ) (result : Result Decimal ParseError)
      → IsValue u.absolute → IsNumberText f v text → IsShownAs f v u
      → IsReadOrSaid inline f.outer (reader_of f) text result
      → (w : Decimal) × IsSaidOf f.outer text u w
      × ((result ≡ shifted (reader_of f).shift (Ok w)) ⊎ (result ≡ Err Memory))
  reads_said inline v u text result valid t shown is =
      reads_text inline u text result valid (is_text_of v u text t shown) is
