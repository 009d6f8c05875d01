-- Pieces of a text, and their texts.
use Rattle.std.proofs.{Common.{◌≡◌, ℕ, zero, suc, ◌+◌, ◌-◌, ◌<◌, List, [], ◌∷◌, ◌++◌, take, drop, take-append-drop, sym, ◌∙◌, ap, subst, refl, arith, append_assoc, append-nil}, lemmas.{List.{Concat.flat_map-cons}, Grind.flat_map-append}}
use Rattle.std.specs.Prelude.{Option, Some, None, ℤ, pos, ◌-ℤ◌, int_lt, Bool, true, false, not, ◌&&◌, ◌||◌, if◌then◌else◌}
use Rattle.decimal_unsigned.specs.Unsigned.{Unsigned}
use Rattle.fixed_decimal.specs.Decimal.{Decimal}
use Rattle.decimal_format.specs.{declared.grouping.GroupingStrategy.{GroupingStrategy, TheVariants.Never}, Formatted.{separator_before, separator_after, formatted_down, absolute_text, shown_count}, Symbols.Symbols}
use Rattle.decimal_format.proofs.lemmas.formatter.Magnitudes.{one_more}
use Rattle.number_format.specs.declared.{digits.options.DigitOptions.DigitOptions, options.DecimalSeparatorDisplay.DecimalSeparatorDisplay}
use Rattle.number_format.specs.{declared.format.{formatted_number.FormattedNumber.FormattedNumber, formatter.NumberFormatter.NumberFormatter, outer.OuterAround.OuterAround, text_part.{PartKind.PartKind, TextPart.TextPart}}, TextParts.{Piece, Puts, PutsPrefix, is_whole, part_pieces, part_text, parts_text, piece_of, pieces_text, pieces_of, pieces_to_end, parts_pieces, trimmed_pieces, digit_if, digit_kind, magnitude_pieces, first_pieces, digit_pieces}, TrimmedTexts.{trimmed_length, kept_length}, FormattedNumbers.{around_of, visible_text, outer_of, exponent_text, number_pieces, number_text, inner_pieces, inner_text, inner_text_if, formatted_number_text, IsOuter}, NumberText.{bare_separator, has_no_integer, hides_zero, is_always, is_significant_zero, needs_no_integer, exponent_kind, exponent_pieces, exponent_of, number_part}, PatternTexts.{Around, around, within, sign_text}}
use Rattle.number_format.specs.declared.format.text_part.PartKind.TheVariants as kind

pub puts_nil : (a : List Piece → Type 0) → Puts a a []
puts_nil a = record { grown = λ pieces h. subst a (sym (append-nil pieces)) h }

pub puts_trans : (a b c : List Piece → Type 0) (ps qs : List Piece) → Puts a b ps → Puts b c qs → Puts a c (ps ++ qs)
puts_trans a b c ps qs p q =
    record { grown = λ pieces h. subst c (append_assoc pieces ps qs) (q.grown (pieces ++ ps) (p.grown pieces h)) }

-- a prefix of pieces is a prefix of more pieces
pub prefix_more : (a b : List Piece → Type 0) (ps qs : List Piece) → PutsPrefix a b ps → PutsPrefix a b (ps ++ qs)
prefix_more a b ps qs (part, rest, e, p) = (part, rest ++ qs, sym (append_assoc part rest qs) ∙ ap (λ l. l ++ qs) e, p)

-- pieces and then a prefix of the next
pub then_prefix : (a b c : List Piece → Type 0) (ps qs : List Piece) → Puts a b ps → PutsPrefix b c qs
    → PutsPrefix a c (ps ++ qs)
then_prefix a b c ps qs q (part, rest, e, p) =
    (ps ++ part, rest, append_assoc ps part rest ∙ ap (λ l. ps ++ l) e, puts_trans a b c ps part q p)

-- a piece that is rejected
pub prefix_none : (a b : List Piece → Type 0) (ps : List Piece) → Puts a b [] → PutsPrefix a b ps
prefix_none a b ps p = ([], ps, refl, p)

-- the prefix that was put, if the first, the second or the third of three lists fails
module _ (xs ys zs : List Piece) where
  pub first_of_three : (a b : List Piece → Type 0) → PutsPrefix a b xs → PutsPrefix a b (xs ++ (ys ++ zs))
  first_of_three a b p = prefix_more a b xs (ys ++ zs) p

  pub second_of_three : (a b c : List Piece → Type 0) → Puts a b xs → PutsPrefix b c ys
      → PutsPrefix a c (xs ++ (ys ++ zs))
  second_of_three a b c p q = then_prefix a b c xs (ys ++ zs) p (prefix_more b c ys zs q)

  pub third_of_three : (a b c d : List Piece → Type 0) → Puts a b xs → Puts b c ys → PutsPrefix c d zs
      → PutsPrefix a d (xs ++ (ys ++ zs))
  third_of_three a b c d p q r = then_prefix a b d xs (ys ++ zs) p (then_prefix b c d ys zs q r)

-- one magnitude more
module _ (hidden : Bool) (kind : PartKind) (s : Symbols) (strategy : GroupingStrategy) (v : Unsigned) where
  pub first_pieces-more : (i : ℕ)
      → first_pieces hidden kind s strategy v (i + 1)
      ≡ first_pieces hidden kind s strategy v i ++ magnitude_pieces hidden kind s strategy v (v.hi -ℤ pos i)
  unfolding first_pieces
  first_pieces-more i =
      let e : i + 1 ≡ suc i = omega arith in
      ap (first_pieces hidden kind s strategy v) e

  -- the first n magnitudes are a prefix of n + k
  first_pieces-prefix : (n k : ℕ)
      → (rest : List Piece)
      × (first_pieces hidden kind s strategy v n ++ rest ≡ first_pieces hidden kind s strategy v (n + k))
  first_pieces-prefix n zero =
      let e : n ≡ n + zero = omega arith in
      ([], append-nil (first_pieces hidden kind s strategy v n) ∙ ap (first_pieces hidden kind s strategy v) e)
  first_pieces-prefix n (suc k) =
      let (rest, is) = first_pieces-prefix n k in
      let e : (n + k) + 1 ≡ n + suc k = omega arith in
      let more = magnitude_pieces hidden kind s strategy v (v.hi -ℤ pos (n + k)) in (
        rest ++ more,
        sym (append_assoc (first_pieces hidden kind s strategy v n) rest more)
            ∙ ap (λ l. l ++ more) is
            ∙ sym (first_pieces-more (n + k))
            ∙ ap (first_pieces hidden kind s strategy v) e,
      )

  -- and of all
  pub some_of_digits : (n : ℕ) → n < shown_count v
      → (rest : List Piece)
      × (first_pieces hidden kind s strategy v (n + 1) ++ rest ≡ digit_pieces hidden kind s strategy v)
  some_of_digits n h =
      let e : (n + 1) + (shown_count v - (n + 1)) ≡ shown_count v = omega (arith, h) in
      let (rest, is) = first_pieces-prefix (n + 1) (shown_count v - (n + 1)) in
      (rest, is ∙ ap (first_pieces hidden kind s strategy v) e)

  -- a prefix of one magnitude more is a prefix of all
  pub digits_prefix : (n : ℕ) (a b c : List Piece → Type 0) → n < shown_count v
      → Puts a b (first_pieces hidden kind s strategy v n)
      → PutsPrefix b c (magnitude_pieces hidden kind s strategy v (v.hi -ℤ pos n))
      → PutsPrefix a c (digit_pieces hidden kind s strategy v)
  digits_prefix n a b c h p q =
      let (rest, is) = some_of_digits n h in
      subst (PutsPrefix a c) is
      (prefix_more a c _ rest (subst (PutsPrefix a c) (sym (first_pieces-more n)) (then_prefix a b c _ _ p q)))

abbrev bytes : Piece → List ℕ
bytes p = p.text

pub text-append : (a b : List Piece) → pieces_text (a ++ b) ≡ pieces_text a ++ pieces_text b
text-append a b = flat_map-append bytes a b

-- pieces that were put, and others after them
pub then_put : (ps qs rs : List Piece) (a b c : List ℕ) → b ≡ a ++ pieces_text ps → c ≡ b ++ pieces_text qs → qs ≡ rs
    → c ≡ a ++ pieces_text (ps ++ rs)
then_put ps qs rs a b c before here same =
    here ∙ (λ i. before i ++ pieces_text (same i)) ∙ append_assoc a (pieces_text ps) (pieces_text rs)
    ∙ ap (λ l. a ++ l) (sym (text-append ps rs))

text-of_one : (k : PartKind) (text : List ℕ) → pieces_text (piece_of k text) ≡ text
text-of_one k [] = refl
text-of_one k (b ∷ text) = flat_map-cons bytes (record { kind = k; text = b ∷ text }) [] ∙ append-nil (b ∷ text)

-- a text that is split at a number of bytes
text-of_split : (j k : PartKind) (n : ℕ) (text : List ℕ)
    → pieces_text (piece_of j (take n text) ++ piece_of k (drop n text)) ≡ text
text-of_split j k n text =
    text-append (piece_of j (take n text)) (piece_of k (drop n text))
    ∙ (λ i. text-of_one j (take n text) i ++ text-of_one k (drop n text) i)
    ∙ take-append-drop n text

text-of_trimmed : (k : PartKind) (text : List ℕ) → pieces_text (trimmed_pieces k text) ≡ text
text-of_trimmed k text =
    let n = trimmed_length text in
    let rest = drop n text in
    text-append (piece_of kind.Literal (take n text)) (pieces_to_end k rest)
    ∙ (λ i. text-of_one kind.Literal (take n text) i ++ text-of_split k kind.Literal (kept_length rest) rest i)
    ∙ take-append-drop n text

text-by : (whole : Bool) (k : PartKind) (text : List ℕ)
    → pieces_text (if whole then piece_of k text else trimmed_pieces k text) ≡ text
text-by true k text = text-of_one k text
text-by false k text = text-of_trimmed k text

pub text-of : (k : PartKind) (text : List ℕ) → pieces_text (pieces_of k text) ≡ text
text-of k [] = refl
text-of k (b ∷ text) = text-by (is_whole k) k (b ∷ text)

-- the same, by a name that source can cite
pub text_of : (k : PartKind) (text : List ℕ) → pieces_text (pieces_of k text) ≡ text
text_of = text-of

pub text-of_parts : (parts : List TextPart) → pieces_text (parts_pieces parts) ≡ parts_text parts
text-of_parts [] = refl
text-of_parts (p ∷ parts) =
    ap pieces_text (flat_map-cons part_pieces p parts)
    ∙ text-append (part_pieces p) (parts_pieces parts)
    ∙ (λ i. text-of p.kind p.text.now i ++ text-of_parts parts i)
    ∙ sym (flat_map-cons part_text p parts)

pub text-three : (a b c : List Piece) (x y z : List ℕ) → pieces_text a ≡ x → pieces_text b ≡ y → pieces_text c ≡ z
    → pieces_text (a ++ (b ++ c)) ≡ x ++ (y ++ z)
text-three a b c x y z p q r =
    text-append a (b ++ c) ∙ (λ i. p i ++ (text-append b c ∙ (λ j. q j ++ r j)) i)

pub text-of_magnitude : (hidden : Bool) (k : PartKind) (s : Symbols) (strategy : GroupingStrategy) (v : Unsigned)
    (m : ℤ)
    → pieces_text (magnitude_pieces hidden k s strategy v m)
    ≡ separator_before s m ++ (digit_if hidden s v.number m ++ separator_after s strategy v.hi m)
text-of_magnitude hidden k s strategy v m =
    let before = separator_before s m in
    let text = digit_if hidden s v.number m in
    let after = separator_after s strategy v.hi m in
    text-three (pieces_of kind.Decimal before) (pieces_of (digit_kind k m) text) (pieces_of kind.Group after) before
    text after (text-of kind.Decimal before) (text-of (digit_kind k m) text) (text-of kind.Group after)

text-of_first : (k : PartKind) (s : Symbols) (strategy : GroupingStrategy) (v : Unsigned) (n : ℕ)
    → pieces_text (first_pieces false k s strategy v n) ≡ formatted_down s strategy v.hi v.number v.hi n
unfolding first_pieces formatted_down
text-of_first k s strategy v zero = refl
text-of_first k s strategy v (suc n) =
    let e : n + 1 ≡ suc n = omega arith in
    text-append (first_pieces false k s strategy v n) (magnitude_pieces false k s strategy v (v.hi -ℤ pos n))
    ∙ (λ i. text-of_first k s strategy v n i ++ text-of_magnitude false k s strategy v (v.hi -ℤ pos n) i)
    ∙ sym (one_more s strategy v n)
    ∙ ap (formatted_down s strategy v.hi v.number v.hi) e

pub text-of_digits : (k : PartKind) (s : Symbols) (strategy : GroupingStrategy) (v : Unsigned)
    → pieces_text (digit_pieces false k s strategy v) ≡ absolute_text s strategy v
text-of_digits k s strategy v = text-of_first k s strategy v (shown_count v)

-- without the hidden integer digits the text is the same by each kind
text-of_hidden : (j k : PartKind) (s : Symbols) (strategy : GroupingStrategy) (v : Unsigned) (n : ℕ)
    → pieces_text (first_pieces true j s strategy v n) ≡ pieces_text (first_pieces true k s strategy v n)
unfolding first_pieces
text-of_hidden j k s strategy v zero = refl
text-of_hidden j k s strategy v (suc n) =
    let m = v.hi -ℤ pos n in
    text-append (first_pieces true j s strategy v n) (magnitude_pieces true j s strategy v m)
    ∙ (λ i. text-of_hidden j k s strategy v n i
    ++ (text-of_magnitude true j s strategy v m ∙ sym (text-of_magnitude true k s strategy v m)) i)
    ∙ sym (text-append (first_pieces true k s strategy v n) (magnitude_pieces true k s strategy v m))

-- of which integer digits may be hidden
pub text-of_shown : (hidden : Bool) (k : PartKind) (s : Symbols) (strategy : GroupingStrategy) (v : Unsigned)
    → pieces_text (digit_pieces hidden k s strategy v) ≡ visible_text hidden s strategy v
text-of_shown false k s strategy v = text-of_digits k s strategy v
text-of_shown true k s strategy v = text-of_hidden k kind.Integer s strategy v (shown_count v)

-- an integer digit is shown of each number
pub shows_integer : (digits : Option DigitOptions) (display : DecimalSeparatorDisplay) (v : Unsigned)
    → needs_no_integer digits ≡ false → hides_zero digits display v ≡ false
shows_integer digits display v h =
    ap (λ b. b && (has_no_integer v && ((int_lt v.lo (pos 0) || is_always display)
    && not (is_significant_zero digits v.number)))) h

text-of_exponent : (f : NumberFormatter) (e : Option Decimal) → pieces_text (exponent_pieces f e) ≡ exponent_text f e
text-of_exponent f None = refl
text-of_exponent f (Some e) =
    let sign = sign_text f.style.symbols e.sign in
    text-three (pieces_of kind.ExponentSeparator f.separator.text.now) (pieces_of (exponent_kind e.sign) sign)
    (digit_pieces false kind.ExponentInteger f.style.symbols Never e.absolute) f.separator.text.now sign
    (absolute_text f.style.symbols Never e.absolute) (text-of kind.ExponentSeparator f.separator.text.now)
    (text-of (exponent_kind e.sign) sign) (text-of_digits kind.ExponentInteger f.style.symbols Never e.absolute)

-- the text of the digits and of an exponent
pub text-of_digits_and_exponent : (f : NumberFormatter) (v : Unsigned) (e : Option Decimal)
    → pieces_text (number_part f v e)
    ≡ (visible_text (hides_zero f.digits f.options.decimal_separator v) f.style.symbols f.options.grouping v
    ++ bare_separator f.options.decimal_separator f.style.symbols v) ++ exponent_text f e
text-of_digits_and_exponent f v e =
    let hidden = hides_zero f.digits f.options.decimal_separator v in
    let digits = digit_pieces hidden kind.Integer f.style.symbols f.options.grouping v in
    let bare = bare_separator f.options.decimal_separator f.style.symbols v in
    let separator = pieces_of kind.Decimal bare in
    text-append (digits ++ separator) (exponent_pieces f e)
    ∙ (λ i. (text-append digits separator
    ∙ (λ j. text-of_shown hidden kind.Integer f.style.symbols f.options.grouping v j ++ text-of kind.Decimal bare j)) i
    ++ text-of_exponent f e i)

pub text-of_number : (n : FormattedNumber)
    → pieces_text (number_part n.formatter.now n.value.absolute
    (exponent_of n.formatter.now.options.notation n.exponent))
    ≡ number_text n
text-of_number n =
    text-of_digits_and_exponent n.formatter.now n.value.absolute
    (exponent_of n.formatter.now.options.notation n.exponent)

pub text-if : (b : Bool) (ps : List Piece) (text : List ℕ) → pieces_text ps ≡ text
    → pieces_text (if b then ps else []) ≡ (if b then text else [])
text-if true ps text e = e
text-if false ps text e = refl

-- the text of pieces with those around them
text-of_within : (a : Around) (ps : List Piece) (text : List ℕ) → pieces_text ps ≡ text
    → pieces_text (within a ps)
    ≡ pieces_text a.prefix ++ ((if a.has_number then text else []) ++ pieces_text a.suffix)
text-of_within a ps text e =
    text-three a.prefix (if a.has_number then ps else []) a.suffix (pieces_text a.prefix)
    (if a.has_number then text else []) (pieces_text a.suffix) refl (text-if a.has_number ps text e) refl

pub text-of_inner : (n : FormattedNumber) → pieces_text (inner_pieces n) ≡ inner_text n
text-of_inner n = text-of_within (around_of n) (number_pieces n) (number_text n) (text-of_number n)

-- that between the texts around it is the whole text
pub text-of_outer : (n : FormattedNumber) (shown : OuterAround) → IsOuter (outer_of n) shown
    → parts_text shown.before ++ (inner_text_if n shown.has_number ++ parts_text shown.after)
    ≡ formatted_number_text n
text-of_outer n shown is =
    let before = sym (text-of shown.kind (parts_text shown.before)) ∙ ap pieces_text is.prefix in
    let after = sym (text-of shown.kind (parts_text shown.after)) ∙ ap pieces_text is.suffix in
    (λ i. before i ++ (inner_text_if n (is.has_number i) ++ after i))
    ∙ sym (text-of_within (outer_of n) (inner_pieces n) (inner_text n) (text-of_inner n))

-- without texts around it, it is the whole text
pub text-of_bare : (n : FormattedNumber) → outer_of n ≡ around [] true [] → inner_text n ≡ formatted_number_text n
text-of_bare n none =
    sym (text-of_inner n) ∙ ap pieces_text (sym (append-nil (inner_pieces n)))
    ∙ ap (λ a. pieces_text (within a (inner_pieces n))) (sym none)
