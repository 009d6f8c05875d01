-- Plain numbers are written as decimals are.
use Rattle.std.proofs.Common.{◌≡◌, ◌≢◌, ℕ, true, false, List, [], ◌++◌, refl, sym, ◌∙◌, ap, append-nil}
use Rattle.std.specs.Prelude.{Option, Some, None, pos, option_and_then}
use Rattle.decimal_unsigned.specs.{Edits.multiplied_pow10, Unsigned.{Unsigned, IsValue}}
use Rattle.fixed_decimal.specs.{Decimal.{Decimal, with_absolute, with_sign_display, negative_or, displayed_sign}, declared.variations.{Sign.Sign, SignDisplay.SignDisplay}}
use Rattle.decimal_format.specs.{Formatted.{absolute_text, formatted}, Symbols.{Symbols, sign_affixes}, declared.grouping.GroupingStrategy.{GroupingStrategy, TheVariants.{Auto, Never, Always, Min2}}}
use Rattle.locale_data.specs.declared.{currency.CurrencyPattern.CurrencyPattern, local_currency.{CurrencyDigits.CurrencyDigits, LocalCurrency.LocalCurrency}, tables.rows.patterns.Pattern.Pattern}
use Rattle.number_format.specs.{declared.{digits.options.DigitOptions.DigitOptions, format.{formatter.NumberFormatter.NumberFormatter, outer.OuterTexts.OuterTexts, text_part.PartKind.PartKind}, options.GroupSizes.GroupSizes}, DefaultDigits.AreDefaultDigits, Formatters.{IsFormatterBy, digits_by, plain_options, style_sizes, with_separators}, NumberStyles.plain_pattern, NumberText.{IsNumberText, rounded_in, number_before_cut, shown_number, exponent_of, compact_magnitude, is_one, compact_pattern, compact_style, outer_texts, around_by, exponent_pieces, significand_pieces}, PatternTexts.{pattern_around, within}, Scaled.{ScaledValue, scaled_value}, TextParts.{Piece, pieces_text, pieces_of, digit_pieces}}
use Rattle.number_format.proofs.{lemmas.format.PieceTexts.{text-append, text-of, text-of_digits}, lemmas.read.ReadBack.unshifted}

some_same : (x y : ScaledValue) → Some x ≡ Some y → x ≡ y
some_same x y e = cc

no_digits : (money : CurrencyDigits) (g : GroupingStrategy) (name : Option (List ℕ)) (d : Option DigitOptions)
    → AreDefaultDigits money (plain_options g name) d → d ≡ None
no_digits money g name None h = refl
no_digits money g name (Some digits) h = absurd (let t : true ≡ false = h.0 in cc)

own_sizes : (own : Symbols) (g : GroupingStrategy) → g ≢ Always
    → style_sizes (plain_pattern own.sizes) GroupSizes.Locale g own.sizes ≡ own.sizes
own_sizes own Always h = absurd (h refl)
own_sizes own Auto h = refl
own_sizes own Never h = refl
own_sizes own Min2 h = refl

-- what plain options have
record IsPlain (f : NumberFormatter) (own : Symbols) (g : GroupingStrategy) (name : Option (List ℕ)) : Type 0 where
  pub symbols : f.style.symbols ≡ own
  pub pattern : f.style.pattern ≡ plain_pattern own.sizes
  pub options : f.options ≡ plain_options g name
  pub digits : f.digits ≡ None
  pub outer : f.outer ≡ OuterTexts.None

is_plain : (system : List ℕ) (own : Symbols) (currency : Option LocalCurrency) (texts : OuterTexts)
    (g : GroupingStrategy) (name : Option (List ℕ)) (f : NumberFormatter)
    → IsFormatterBy own system currency texts (plain_options g name) f → g ≢ Always → IsPlain f own g name
is_plain system own currency texts g name f made not_always =
    let written = made.style_is.written in
    record {
      symbols =
          made.symbols
          ∙ (λ i. record (with_separators own (written i)) {
            sizes = style_sizes (written i).pattern GroupSizes.Locale g own.sizes;
          })
          ∙ (λ i. record own { sizes = own_sizes own g not_always i });
      pattern = made.pattern ∙ ap (λ (p : CurrencyPattern). p.pattern) written;
      options = made.options;
      digits = no_digits (digits_by currency) g name f.digits made.digits;
      outer = made.outer;
    }

-- the digits between what a pattern writes
abbrev pieces_for : NumberFormatter → Symbols → Pattern → GroupingStrategy → Unsigned → Sign → List Piece
pieces_for f symbols pattern g v s =
    let a = pattern_around (record f.style { symbols = symbols; pattern = pattern }) s in
    (a.prefix ++ (((digit_pieces false PartKind.Integer symbols g v ++ []) ++ []) ++ a.suffix)) ++ []

abbrev plain_pieces : NumberFormatter → Symbols → GroupingStrategy → Unsigned → Sign → List Piece
plain_pieces f own = pieces_for f own (plain_pattern own.sizes)

around_is : (f : NumberFormatter) (own : Symbols) (g : GroupingStrategy) (v : Unsigned) (s : Sign)
    → (sign_affixes own (negative_or Sign.None s)).suffix ≡ []
    → pieces_text (plain_pieces f own g v (negative_or Sign.None s))
    ≡ (sign_affixes own (negative_or Sign.None s)).prefix
    ++ (absolute_text own g v ++ (sign_affixes own (negative_or Sign.None s)).suffix)
around_is f own g v Sign.None e =
    let left : plain_pieces f own g v Sign.None ≡ digit_pieces false PartKind.Integer own g v = simp append-nil in
    ap pieces_text left ∙ text-of_digits PartKind.Integer own g v ∙ sym (append-nil (absolute_text own g v))
around_is f own g v Sign.Positive e =
    let left : plain_pieces f own g v Sign.None ≡ digit_pieces false PartKind.Integer own g v = simp append-nil in
    ap pieces_text left ∙ text-of_digits PartKind.Integer own g v ∙ sym (append-nil (absolute_text own g v))
around_is f own g v Sign.Negative e =
    let minus = own.minus.prefix in
    let digits = absolute_text own g v in
    let left : plain_pieces f own g v Sign.Negative ≡ pieces_of PartKind.MinusSign minus
    ++ digit_pieces false PartKind.Integer own g v = simp append-nil in
    ap pieces_text left
    ∙ text-append (pieces_of PartKind.MinusSign minus) (digit_pieces false PartKind.Integer own g v)
    ∙ (λ i. text-of PartKind.MinusSign minus i ++ text-of_digits PartKind.Integer own g v i)
    ∙ ap (λ l. minus ++ l) (sym (append-nil digits))
    ∙ ap (λ l. minus ++ (digits ++ l)) (sym e)

of_plain : (f : NumberFormatter) (own : Symbols) (g : GroupingStrategy) (name : Option (List ℕ)) (v : Decimal)
    (text : List ℕ) → IsPlain f own g name → IsValue v.absolute
    → (sign_affixes own (with_sign_display v SignDisplay.Auto).sign).suffix ≡ []
    → IsNumberText f v text → text ≡ formatted own g (with_sign_display v SignDisplay.Auto)
of_plain f own g name v text plain valid no_suffix (pieces, is, of_pieces) =
    let shown : shown_number f v ≡ Some (scaled_value v (pos 0)) =
    (λ i. option_and_then (rounded_in f.notation (plain.digits i))
    (with_absolute v (multiplied_pow10 v.absolute (plain.options i).scale)))
    ∙ ap (λ x. option_and_then (rounded_in f.notation None) (with_absolute v x)) (unshifted v.absolute valid) in
    let number : is.number ≡ scaled_value v (pos 0) = some_same _ _ (sym is.number_is ∙ shown) in
    let s = negative_or Sign.None v.sign in
    of_pieces
    ∙ ap pieces_text (is.value
    ∙ (λ i. within (outer_texts f.formats (plain.outer i) (compact_style (plain.options i).notation
    (plain.options i).style) (plain.options i).style is.whole)
    (within (around_by f.style (displayed_sign (plain.options i).sign_display (number_before_cut f v)
    (number i).significand.sign)
    (compact_pattern f.formats (compact_style (plain.options i).notation (plain.options i).style)
    (compact_magnitude f.notation (number i).significand (number i).exponent) is.category
    (is_one (number i).significand)))
    (significand_pieces f (plain.digits i) (plain.options i).decimal_separator (number i).significand.absolute
    ++ exponent_pieces f (exponent_of (plain.options i).notation (number i).exponent))))
    ∙ (λ i. pieces_for f (plain.symbols i) (plain.pattern i) (plain.options i).grouping v.absolute s))
    ∙ around_is f own g v.absolute v.sign no_suffix

pub plain_text : (system : List ℕ) (own : Symbols) (currency : Option LocalCurrency) (texts : OuterTexts)
    (g : GroupingStrategy) (name : Option (List ℕ)) (f : NumberFormatter) (v : Decimal) (text : List ℕ)
    → IsFormatterBy own system currency texts (plain_options g name) f → g ≢ Always → IsValue v.absolute
    → (sign_affixes own (with_sign_display v SignDisplay.Auto).sign).suffix ≡ []
    → IsNumberText f v text → text ≡ formatted own g (with_sign_display v SignDisplay.Auto)
plain_text system own currency texts g name f v text made not_always valid no_suffix is =
    of_plain f own g name v text (is_plain system own currency texts g name f made not_always) valid no_suffix is
