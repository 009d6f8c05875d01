-- The ends of ranges: a number has one end, and its text alone is that of the end.
use Rattle.std.proofs.{Common.{◌≡◌, ◌≢◌, ℕ, inl, inr, true, false, List, [], ◌++◌, Option, Some, None, refl, sym, ◌∙◌, ap, subst, append_assoc, append-nil}, lemmas.{Option.same_Some, Grind.flat_map-append}}
use Rattle.std.specs.{Prelude.{Bool, ◌&&◌, ◌||◌, if◌then◌else◌, IsSomeAnd, ◌⊎◌}, Cmp.{int_eq_equiv, Lexicographic.nat_list_eq_equiv}}
use Rattle.fixed_decimal.specs.Decimal.{Decimal, signed_number}
use Rattle.plural_rules.specs.{Operands.{Operands, plain}, Rules.category_of, RulesGrammar.IsCategoryByText, declared.rules.PluralCategory.PluralCategory}
use Rattle.plural_rules.proofs.lemmas.parse.ParserComplete.{grammar-unique}
use Rattle.locale_data.specs.{Plurals.{rules_text_at, IsCategoryAt}, declared.plurals.PluralRulesId.PluralRulesId}
use Rattle.number_format.specs.{declared.{format.{formatted_number.FormattedNumber.FormattedNumber, formatter.NumberFormatter.NumberFormatter}, range.{form.RangeForm.{RangeForm, TheVariants.{Approximate, Common, Apart}}, range_texts.RangeTexts.RangeTexts}}, FormattedRanges.{end_of, IsFormattedEnd, IsShownBy}, NumberText.{HasNumberText, IsNumberText, outer_by}, PatternTexts.{Around, around, within}, RangeText.{HasBoth, IsRange, IsRangeEnd, RangeEnd, ShownRange, are_same_texts, bare_around, both_or_neither, end_around, end_number, inner_pieces, pieces_if, range_category, range_form, range_pieces, separator_pieces, shown_end, text_of_pieces, with_outer, written_exponent}, Scaled.ScaledValue, TextParts.{Piece, pieces_text}}

-- rules have one category
pub category_unique : (id : PluralRulesId) (n : Operands) (a b : PluralCategory) → IsCategoryAt id n a
    → IsCategoryAt id n b → a ≡ b
category_unique id n a b = by (rules_text_at id)
  where
    by : (o : Option (List ℕ)) → IsSomeAnd o (λ text. IsCategoryByText text n a)
        → IsSomeAnd o (λ text. IsCategoryByText text n b) → a ≡ b
    by None x y = absurd x
    by (Some text) (rules, first, x) (others, second, y) =
        x ∙ ap (λ found. category_of found n) (grammar-unique first second) ∙ sym y

-- a number has one end
pub end_unique : (f : NumberFormatter) (v : Decimal) (m n : RangeEnd) → IsRangeEnd f v m → IsRangeEnd f v n → m ≡ n
end_unique f v m n x y =
    let number : x.number ≡ y.number = same_Some x.number y.number (sym x.number_is ∙ y.number_is) in
    let other = subst (λ (s : ScaledValue). IsCategoryAt f.rules (plain s.significand.absolute) y.category)
    (sym number) y.of_significand in
    let category =
    category_unique f.rules (plain x.number.significand.absolute) x.category y.category x.of_significand other in
    x.value ∙ (λ i. shown_end f v (number i) (category i)) ∙ sym y.value

both_is : (b : Bool) → both_or_neither b b ≡ true
both_is true = refl
both_is false = refl

all_of_three : (a b c : Bool) → a ≡ true → b ≡ true → c ≡ true → (a && (b && c)) ≡ true
all_of_three a b c x y z = cc

pub texts_are_same : (a : Around) → are_same_texts a a ≡ true
texts_are_same a =
    all_of_three _ _ _ (nat_list_eq_equiv.refl (pieces_text a.prefix)) (nat_list_eq_equiv.refl (pieces_text a.suffix))
    (both_is a.has_number)

approximate_if : (alike exponents equal other long : Bool) → alike ≡ true → exponents ≡ true → equal ≡ true
    → (if alike && (exponents && (equal || other)) then Approximate else if alike && long then Common else Apart)
    ≡ Approximate
approximate_if alike exponents equal other long x y z =
    let e : (alike && (exponents && (equal || other))) ≡ true = rw (x, y, z) refl in
    ap (λ b. if b then Approximate else if alike && long then Common else Apart) e

-- the range of a number and itself is approximate
pub equal_are_approximate : (f : NumberFormatter) (t : RangeTexts) (v : Decimal) (r : ShownRange) → IsRange f t v v r
    → r.form ≡ Approximate
equal_are_approximate f t v r is =
    let same = end_unique f v r.end r.start is.end_is is.start_is in
    is.form_is ∙ ap (range_form v v r.start) same
    ∙ approximate_if _ _ _ _ _ (texts_are_same (bare_around r.start)) (int_eq_equiv.refl (written_exponent r.start))
    (int_eq_equiv.refl (signed_number v))

-- with nothing around the whole text the text of a number is that of the end
pub end_alone : (f : NumberFormatter) (v : Decimal) (n : RangeEnd)
    → ((c : PluralCategory) → outer_by f c ≡ around [] true []) → IsRangeEnd f v n
    → IsNumberText f v (pieces_text (within (end_around n) (end_number n)))
end_alone f v n none is =
    let m = shown_end f v is.number is.category in
    let pieces = within (end_around m) (end_number m) in (
      pieces,
      record {
        number = is.number;
        category = is.category;
        whole = is.whole;
        number_is = is.number_is;
        of_significand = is.of_significand;
        of_whole = is.of_whole;
        value = sym (ap (λ u. within u pieces) (none is.whole) ∙ append-nil pieces);
      },
      ap (λ (x : RangeEnd). pieces_text (within (end_around x) (end_number x))) is.value,
    )

-- the text of two numbers apart is that of each alone, with the separator between them
pub apart_are_alone : (f : NumberFormatter) (t : RangeTexts) (v w : Decimal) (r : ShownRange)
    → ((c : PluralCategory) → outer_by f c ≡ around [] true []) → IsRange f t v w r → r.form ≡ Apart
    → HasNumberText f v (λ start. HasNumberText f w (λ end. text_of_pieces (range_pieces r)
    ≡ start ++ (pieces_text (separator_pieces r.format.separator r.spaced) ++ end)))
apart_are_alone f t v w r none is apart =
    let start = within (end_around r.start) (end_number r.start) in
    let end = within (end_around r.end) (end_number r.end) in
    let separator = separator_pieces r.format.separator r.spaced in
    let outer = ap (λ (n : RangeEnd). outer_by n.formatter r.category) is.start_is.value ∙ none r.category in (
      pieces_text start,
      end_alone f v r.start none is.start_is,
      (
        pieces_text end,
        end_alone f w r.end none is.end_is,
        ap (λ form. text_of_pieces (with_outer (outer_by r.start.formatter r.category) (inner_pieces form r))) apart
            ∙ ap (λ u. text_of_pieces (with_outer u (inner_pieces Apart r))) outer
            ∙ ap (λ l. pieces_text start ++ (pieces_text separator ++ l)) (append-nil (pieces_text end)),
      ),
    )

-- ---- Both numbers in the text.

inside : (a x b c : List ℕ) → (a ++ (x ++ b)) ++ c ≡ a ++ (x ++ (b ++ c))
inside a x b c = append_assoc a (x ++ b) c ∙ ap (λ l. a ++ l) (append_assoc x b c)

two_inside : (p a x b m c y d q : List ℕ) → p ++ ((a ++ (x ++ b)) ++ (m ++ ((c ++ (y ++ d)) ++ q)))
    ≡ (p ++ a) ++ (x ++ ((b ++ (m ++ c)) ++ (y ++ (d ++ q))))
two_inside p a x b m c y d q =
    let rest = y ++ (d ++ q) in
    ap (λ l. p ++ ((a ++ (x ++ b)) ++ (m ++ l))) (inside c y d q)
    ∙ ap (λ l. p ++ l) (inside a x b (m ++ (c ++ rest)))
    ∙ sym (append_assoc p a (x ++ ((b ++ (m ++ c)) ++ rest)) ∙ ap (λ l. p ++ (a ++ (x ++ l))) (inside b m c rest))

text_within : (p n s : List Piece) → pieces_text (p ++ (n ++ s)) ≡ pieces_text p ++ (pieces_text n ++ pieces_text s)
text_within p n s =
    flat_map-append (λ (x : Piece). x.text) p (n ++ s)
    ∙ ap (λ l. pieces_text p ++ l) (flat_map-append (λ (x : Piece). x.text) n s)

both_by : (form : RangeForm) (u : Around) (r : ShownRange) → form ≢ Approximate → u.has_number ≡ true
    → (end_around r.start).has_number ≡ true → (end_around r.end).has_number ≡ true
    → HasBoth (text_of_pieces (with_outer u (inner_pieces form r))) (pieces_text (end_number r.start))
    (pieces_text (end_number r.end))
both_by Approximate u r other outer first second = absurd (other refl)
both_by Common u r other outer first second =
    let a = end_around r.start in
    let separator = separator_pieces r.format.separator r.spaced in
    let after = pieces_text (pieces_if u.has_number a.suffix ++ u.suffix) in
    let shown = λ (b c : Bool) (pieces : List Piece). pieces_text (pieces_if b (pieces_if c pieces)) in record {
      before = pieces_text (a.prefix ++ u.prefix);
      between = pieces_text separator;
      after = after;
      is = λ i. pieces_text (a.prefix ++ u.prefix)
          ++ (shown (outer i) (first i) (end_number r.start)
          ++ (shown (outer i) (first i) separator ++ (shown (outer i) (first i) (end_number r.end) ++ after)));
    }
both_by Apart u r other outer first second =
    let a = end_around r.start in
    let b = end_around r.end in
    let m = end_number r.start in
    let n = end_number r.end in
    let separator = separator_pieces r.format.separator r.spaced in
    let prefix = pieces_text u.prefix in
    let after = pieces_text (pieces_if u.has_number [] ++ u.suffix) in
    let shown = λ (x y : Bool) (e : Around) (pieces : List Piece).
    pieces_text (pieces_if x (e.prefix ++ ((if y then pieces else []) ++ e.suffix))) in record {
      before = prefix ++ pieces_text a.prefix;
      between = pieces_text a.suffix ++ (pieces_text separator ++ pieces_text b.prefix);
      after = pieces_text b.suffix ++ after;
      is = (λ i. prefix ++ (shown (outer i) (first i) a m
          ++ (pieces_text (pieces_if (outer i) separator) ++ (shown (outer i) (second i) b n ++ after))))
          ∙ (λ i. prefix ++ (text_within a.prefix m a.suffix i
          ++ (pieces_text separator ++ (text_within b.prefix n b.suffix i ++ after))))
          ∙ two_inside prefix (pieces_text a.prefix) (pieces_text m) (pieces_text a.suffix) (pieces_text separator)
          (pieces_text b.prefix) (pieces_text n) (pieces_text b.suffix) after;
    }

-- the text of a range that is not approximate has the first number, and after it the second one
pub both_written : (f : NumberFormatter) (t : RangeTexts) (v w : Decimal) (r : ShownRange) → IsRange f t v w r
    → r.form ≢ Approximate → (outer_by f r.category).has_number ≡ true → (end_around r.start).has_number ≡ true
    → (end_around r.end).has_number ≡ true
    → HasBoth (text_of_pieces (range_pieces r)) (pieces_text (end_number r.start)) (pieces_text (end_number r.end))
both_written f t v w r is other outer first second =
    let own = ap (λ (n : RangeEnd). (outer_by n.formatter r.category).has_number) is.start_is.value in
    both_by r.form (outer_by r.start.formatter r.category) r other (own ∙ outer) first second

-- ---- Categories of what is around the whole text.

abbrev IsConstant : NumberFormatter → Type 0
IsConstant f = (a b : PluralCategory) → outer_by f a ≡ outer_by f b

-- what is around the whole text is that of the categories, or of any
same_outer : (f : NumberFormatter) (tag : List ℕ) (form : RangeForm) (a b c d : PluralCategory)
    → (a ≡ c) ⊎ IsConstant f → (b ≡ d) ⊎ IsConstant f
    → outer_by f (range_category tag form a b) ≡ outer_by f (range_category tag form c d)
same_outer f tag form a b c d (inl p) (inl q) = λ i. outer_by f (range_category tag form (p i) (q i))
same_outer f tag form a b c d (inl p) (inr any) = any (range_category tag form a b) (range_category tag form c d)
same_outer f tag form a b c d (inr any) q = any (range_category tag form a b) (range_category tag form c d)

-- two ends make a range
pub is_range : (f : NumberFormatter) (t : RangeTexts) (v w : Decimal) (m n : FormattedNumber) (form : RangeForm)
    (r : ShownRange) → IsFormattedEnd f v m → IsFormattedEnd f w n → form ≡ range_form v w (end_of m) (end_of n)
    → IsShownBy t form m n r → IsRange f t v w r
is_range f t v w m n form r x y chosen made =
    let same = ap (λ (e : RangeEnd). e.formatter) x.0.value in
    let category = range_category t.tag.now form m.whole n.whole in
    subst (IsRange f t v w) (sym made.shown) (record {
      start_is = x.0;
      end_is = y.0;
      form_is = chosen;
      format_is = refl;
      spaced_is = refl;
      outer_is = subst (λ g. outer_by g r.category ≡ outer_by g category) same made.outer
          ∙ same_outer f t.tag.now form m.whole n.whole x.0.whole y.0.whole x.1 y.1;
    })
