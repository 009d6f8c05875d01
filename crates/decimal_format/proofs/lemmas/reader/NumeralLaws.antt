-- A text is that of one numeral, and of one decimal.
use Rattle.std.proofs.{Common.{◌≡◌, ◌≢◌, ℕ, ◌-◌, inl, inr, Bool, true, false, List, [], ◌∷◌, ◌++◌, length, refl, sym, ◌∙◌, ap, subst, append-nil, arith, rules}, Math.Bool.and-false, lemmas.{Result.IfOk-weaker, List.{append_cancel_left, append_cancel_right}}}
use Rattle.std.specs.{Prelude.{◌⊎◌, Result, Ok, Err, IfOk, MatchResult, ◌↔◌, pos}, Int.Digits.AllBelowBase}
use Rattle.decimal_unsigned.specs.{declared.error.ParseError.{ParseError, TheVariants.{Limit, Syntax, Memory}}, Unsigned.IsValue}
use Rattle.fixed_decimal.specs.{Decimal.Decimal, declared.variations.Sign.{Sign, TheVariants.None}}
use Rattle.decimal_format.specs.{declared.grouping.GroupingStrategy.{GroupingStrategy, TheVariants.Never}, Symbols.{Symbols, Affixes, sign_affixes}, Formatted.formatted, Grouping.{is_grouped, ends_group}, Readable.IsReadable, Reading.{Numeral, AreDigits, IsNumeral, IsBeyondLimits, IsWritten, IsRead, digits_text, fraction_text, absolute_numeral_text, numeral_text, separated_by}, Lenient.{separated_at, normalized, IsLenientNumeral, IsLenientlyWritten, IsTyped}, Scanning.{IsUniform, value_of, IsValueOf, IsNumeralBy, IsWrittenBy}}
use Rattle.decimal_format.proofs.lemmas.reader.{Codes.none_not_decimal, DigitTexts.{digits_text-cong, nil_ends, fraction_ends, digits-unique, ends_integer}, NumeralTexts.{HasDigits, same_value, digits_are_value, formatted-digits, digits_of_value}, Scans.{number_begins, begins-append, sign-unique, strategy_is, strategy_if, strategy_separates}}

-- a text by some strategy has separators at ends of groups, all of them or none
pub numeral_is_lenient : (s : Symbols) (bytes : List ℕ) (w : Numeral) → IsNumeral s bytes w
    → IsLenientNumeral s bytes w
numeral_is_lenient s bytes w numeral = record {
  digits = numeral.digits;
  chosen = λ _. is_grouped numeral.strategy s.sizes (pos (length w.whole - 1));
  text = numeral.text ∙ (λ i. numeral_text s (λ m. strategy_is s numeral.strategy (length w.whole) m i) w);
}

module _ (s : Symbols) (readable : IsReadable s) where
  fraction-unique : (ds es : List ℕ) → AllBelowBase 10 ds → AllBelowBase 10 es → fraction_text s ds
      ≡ fraction_text s es → ds ≡ es
  fraction-unique [] [] p q e = refl
  fraction-unique [] (y ∷ es) p q e = absurd (none_not_decimal s readable (digits_text s (λ _. false) (y ∷ es)) e)
  fraction-unique (x ∷ ds) [] p q e = absurd (none_not_decimal s readable (digits_text s (λ _. false) (x ∷ ds)) (sym e))
  fraction-unique (x ∷ ds) (y ∷ es) p q e =
      let none = digits-unique s readable (λ _. false) (λ _. false) (x ∷ ds) (y ∷ es) [] [] p q in
      grind (arith, none, ends_integer, nil_ends, append-nil, append_cancel_left)

  -- a text is that of one numeral, wherever its separators are
  text-unique : (f g : ℕ → Bool) (bytes : List ℕ) (w u : Numeral) → AreDigits w → AreDigits u
      → bytes ≡ numeral_text s f w → bytes ≡ numeral_text s g u → w ≡ u
  text-unique f g bytes w u p q e h =
      let a = absolute_numeral_text s f w in
      let b = absolute_numeral_text s g u in
      let x = (sign_affixes s w.sign).suffix in
      let y = (sign_affixes s u.sign).suffix in
      let signs = sign-unique s readable w.sign u.sign (a ++ x) (b ++ y)
      (λ _. begins-append s a x (number_begins s f w p)) (λ _. begins-append s b y (number_begins s g u q))
      (sym e ∙ h) in
      let numbers : a ≡ b = search (rules, arith, append_cancel_right) in
      let wholes = digits-unique s readable f g w.whole u.whole (fraction_text s w.fraction) (fraction_text s
      u.fraction) p.whole q.whole (ends_integer (fraction_ends s readable w.fraction))
      (ends_integer (fraction_ends s readable u.fraction)) numbers in
      let fractions = fraction-unique w.fraction u.fraction p.fraction q.fraction wholes.1 in
      λ i. record { sign = signs.0 i; whole = wholes.0 i; fraction = fractions i }

  pub lenient-unique : (bytes : List ℕ) (w u : Numeral) → IsLenientNumeral s bytes w → IsLenientNumeral s bytes u
      → w ≡ u
  lenient-unique bytes w u p q = grind (arith, text-unique)

  -- a strategy chooses all ends of groups, or none
  pub numeral_if_uniform : (bytes : List ℕ) (w : Numeral) (chosen : ℕ → Bool) → AreDigits w
      → bytes ≡ numeral_text s (separated_at s chosen) w
      → IsUniform (ends_group s.sizes) chosen (length w.whole) ↔ IsNumeral s bytes w
  numeral_if_uniform bytes w chosen digits e = (
    λ uniform. record {
      digits = digits;
      strategy = strategy_if uniform.0;
      text = search (rules, arith, digits_text-cong, strategy_if, strategy_separates);
    },
    λ numeral. (
      is_grouped numeral.strategy s.sizes (pos (length w.whole - 1)),
      λ m inside. (digits-unique s readable f (separated_by s numeral.strategy (length w.whole)) w.whole w.whole
          (fraction_text s w.fraction) (fraction_text s w.fraction) digits.whole digits.whole
          (ends_integer (fraction_ends s readable w.fraction)) (ends_integer (fraction_ends s readable w.fraction))
          (append_cancel_right _ _ affixes.suffix (append_cancel_left affixes.prefix _ _ (sym e ∙ numeral.text)))).2 m
          inside
          ∙ strategy_is s numeral.strategy (length w.whole) m,
    ),
  )
    where
      f : ℕ → Bool
      f = separated_at s chosen

      affixes : Affixes
      affixes = sign_affixes s w.sign

-- the text of a value is that of its digits
written_digits : (s : Symbols) (bytes : List ℕ) (v : Decimal) → IsValue v.absolute → IsWritten s v bytes
    → (w : Numeral) × IsNumeral s bytes w × HasDigits v w
written_digits s bytes v valid written = grind (arith, digits_of_value, formatted-digits)

-- the text by `Never` has no separators
never-digits : (s : Symbols) (v : Decimal) (w : Numeral) → HasDigits v w → AreDigits w
    → formatted s Never v ≡ numeral_text s (λ _. false) w
never-digits s v w has digits = search (rules, arith, formatted-digits, strategy_is, and-false)

-- ---- What is read.
-- a text is that of one of these numerals, and then of one of these decimals
pub record AreTexts (is_numeral : Numeral → Type 0) (is_written : Decimal → Type 0) : Type 0 where
  pub unique : (w u : Numeral) → is_numeral w → is_numeral u → w ≡ u
  pub writes : (v : Decimal) (w : Numeral) → is_numeral w → HasDigits v w → IsValue v.absolute × is_written v
  pub reads : (v : Decimal) → IsValue v.absolute → is_written v → (w : Numeral) × is_numeral w × HasDigits v w

module _ {is_numeral : Numeral → Type 0} {is_written : Decimal → Type 0} (texts : AreTexts is_numeral is_written) where
  -- a text is that of one decimal
  decimal-unique : (v u : Decimal) → IsValue v.absolute → IsValue u.absolute → is_written v → is_written u → v ≡ u
  decimal-unique v u p q a b =
      let x = texts.reads v p a in
      let y = texts.reads u q b in
      grind (arith, same_value, texts.unique x.0 y.0 x.1 y.1)

  -- the text is that of no numeral
  pub nothing_read : (inline : ℕ) → ((w : Numeral) → ¬ is_numeral w) → IsRead inline is_numeral is_written (Err Syntax)
  nothing_read inline none = grind arith

  -- the text is that of a numeral, and the result is the value of its digits
  pub value_read : (inline : ℕ) (w : Numeral) → is_numeral w → (result : Result Decimal ParseError)
      → IsValueOf inline w result → IsRead inline is_numeral is_written result
  value_read inline w numeral result is = record {
    found = found result is;
    reads_back = λ v valid written. back result is v (texts.reads v valid written);
    syntax = (λ h. absurd (is.syntax h), λ none. absurd (none w numeral));
    limit = search (rules, arith);
    memory = λ h.
        let v : Decimal = record { sign = w.sign; absolute = value_of w } in
        let written = texts.writes v w numeral (record {
          sign = refl;
          absolute = refl;
          few = λ beyond. let k = sym h ∙ is.limit.1 beyond in cc;
        }) in
        (v, written.0, written.1, is.memory h);
  }
    where
      has : (v : Decimal) → IsValueOf inline w (Ok v) → HasDigits v w
      has v is = record {
        sign = is.found.0;
        absolute = is.found.1;
        few = λ beyond. let k = is.limit.1 beyond in cc;
      }

      found : (r : Result Decimal ParseError) → IsValueOf inline w r → IfOk r (λ v. IsValue v.absolute × is_written v)
      found (Err e) is = tt
      found (Ok v) is = texts.writes v w numeral (has v is)

      back : (r : Result Decimal ParseError) → IsValueOf inline w r → (v : Decimal)
          → ((u : Numeral) × is_numeral u × HasDigits v u) → MatchResult r (λ u. u ≡ v) (λ e. e ≡ Memory)
      back (Ok u) is v t = same_value u v w (has u is) (subst (HasDigits v) (texts.unique t.0 w t.1 numeral) t.2)
      back (Err Memory) is v t = refl
      back (Err Syntax) is v t = absurd (is.syntax refl)
      back (Err Limit) is v t =
          absurd (t.2.few (subst IsBeyondLimits (texts.unique w t.0 numeral t.1) (is.limit.0 refl)))

module _ (s : Symbols) (readable : IsReadable s) (bytes : List ℕ) where
  -- texts that a formatter writes
  formatted_texts : AreTexts (IsNumeral s bytes) (λ v. IsWritten s v bytes)
  formatted_texts = record {
    unique = λ w u p q.
        lenient-unique s readable bytes w u (numeral_is_lenient s bytes w p) (numeral_is_lenient s bytes u q);
    writes = λ v w numeral has. (
      digits_are_value v w has numeral.digits,
      (numeral.strategy, numeral.text ∙ sym (formatted-digits v w has numeral.digits s numeral.strategy)),
    );
    reads = written_digits s bytes;
  }

  -- texts with optional separators
  lenient_texts : AreTexts (IsLenientNumeral s bytes) (λ v. IsLenientlyWritten s v bytes)
  lenient_texts = record {
    unique = lenient-unique s readable bytes;
    writes = λ v w numeral has.
        (digits_are_value v w has numeral.digits, (w, numeral, sym (never-digits s v w has numeral.digits)));
    reads = λ v valid written.
        let d = digits_of_value v valid in
        let same = text-unique s readable (λ _. false) (λ _. false) (formatted s Never v) d.0 written.0 d.1
        written.1.digits (never-digits s v d.0 d.2 d.1) (sym written.2) in
        (written.0, written.1, subst (HasDigits v) same d.2);
  }

-- both
pub texts_by : (strict : Bool) (s : Symbols) → IsReadable s → (bytes : List ℕ)
    → AreTexts (IsNumeralBy strict s bytes) (IsWrittenBy strict s bytes)
texts_by true s readable bytes = formatted_texts s readable bytes
texts_by false s readable bytes = lenient_texts s readable bytes

pub numeral_by_is_lenient : (strict : Bool) (s : Symbols) (bytes : List ℕ) (w : Numeral)
    → IsNumeralBy strict s bytes w → IsLenientNumeral s bytes w
numeral_by_is_lenient strict s bytes w numeral = grind (arith, numeral_is_lenient)

-- a numeral whose separators are all there, or none, as far as this is asked for
pub numeral_by : (strict all : Bool) (s : Symbols) (bytes : List ℕ) (w : Numeral) → IsLenientNumeral s bytes w
    → (all ≡ true → IsNumeral s bytes w) → (strict ≡ true → all ≡ true) → IsNumeralBy strict s bytes w
numeral_by true all s bytes w lenient numeral h = numeral (h refl)
numeral_by false all s bytes w lenient numeral h = lenient

-- and one of which only some are there
pub none_by : (strict : Bool) (s : Symbols) (bytes : List ℕ) → strict ≡ true
    → ((w : Numeral) → ¬ IsNumeral s bytes w) → (w : Numeral) → ¬ IsNumeralBy strict s bytes w
none_by true s bytes h none = none
none_by false s bytes h none = absurd (cc)

-- ---- Two ways to read a text, of which the second is tried where the first reads nothing.
module _ {inline : ℕ} {is_numeral other_numeral : Numeral → Type 0} {is_written other_written : Decimal → Type 0}
    {result : Result Decimal ParseError} where
  -- the first reads it
  pub read_first : IsRead inline is_numeral is_written result → result ≢ Err Syntax
      → IsRead inline (λ w. is_numeral w ⊎ (((u : Numeral) → ¬ is_numeral u) × other_numeral w))
      (λ v. is_written v ⊎ (((u : Numeral) → ¬ is_numeral u) × other_written v)) result
  read_first read other = record {
    found = IfOk-weaker result _ _ (λ v h. (h.0, inl h.1)) read.found;
    reads_back = λ v valid. elim [
      | inl written ↦ read.reads_back v valid written
      | inr x ↦ absurd (other (read.syntax.1 x.0))
    ];
    syntax = (λ h. absurd (other h), λ none. read.syntax.1 (λ w numeral. none w (inl numeral)));
    limit = search (rules, arith);
    memory = λ h. let x = read.memory h in (x.0, x.1, inl x.2, x.3);
  }

  -- it reads nothing
  pub read_next : IsRead inline is_numeral is_written (Err Syntax) → IsRead inline other_numeral other_written result
      → IsRead inline (λ w. is_numeral w ⊎ (((u : Numeral) → ¬ is_numeral u) × other_numeral w))
      (λ v. is_written v ⊎ (((u : Numeral) → ¬ is_numeral u) × other_written v)) result
  read_next first read =
      let none = first.syntax.0 refl in record {
        found = IfOk-weaker result _ _ (λ v h. (h.0, inr (none, h.1))) read.found;
        reads_back = λ v valid. elim [
          | inl written ↦ let no : Syntax ≡ Memory = first.reads_back v valid written in absurd (cc)
          | inr x ↦ read.reads_back v valid x.1
        ];
        syntax = (
          λ h w. elim [ inl numeral ↦ none w numeral | inr x ↦ read.syntax.0 h w x.1 ],
          λ all. read.syntax.1 (λ w numeral. all w (inr (none, numeral))),
        );
        limit = (
          λ h. let x = read.limit.0 h in (x.0, inr (none, x.1), x.2),
          λ x. elim x.1 [ inl numeral ↦ absurd (none x.0 numeral) | inr y ↦ read.limit.1 (x.0, y.1, x.2) ],
        );
        memory = λ h. let x = read.memory h in (x.0, x.1, inr (none, x.2), x.3);
      }

-- nothing is to be read
pub none_read : {inline : ℕ} {is_numeral : Numeral → Type 0} {is_written : Decimal → Type 0}
    → ((w : Numeral) → ¬ is_numeral w) → ((v : Decimal) → IsValue v.absolute → ¬ is_written v)
    → IsRead inline is_numeral is_written (Err Syntax)
none_read none never = record {
  found = tt;
  reads_back = λ v valid written. absurd (never v valid written);
  syntax = (λ h. none, λ h. refl);
  limit = (λ h. absurd (cc), λ x. absurd (none x.0 x.1));
  memory = λ h. absurd (cc);
}

-- ---- A text without a sign, in a text that shows one.
-- the result with another sign
abbrev pub with_sign : Sign → Result Decimal ParseError → Result Decimal ParseError
with_sign sign (Ok v) = Ok (record v { sign = sign })
with_sign sign (Err e) = Err e

module _ {is_numeral outer_numeral : Numeral → Type 0} {is_written outer_written : Decimal → Type 0}
    (sign : Sign) (numeral_up : (w : Numeral) → is_numeral w → outer_numeral (record w { sign = sign }))
    (numeral_down : (w : Numeral) → outer_numeral w → is_numeral (record w { sign = None }))
    (value_up : (v : Decimal) → IsValue v.absolute → is_written v → outer_written (record v { sign = sign }))
    (value_down : (v : Decimal) → IsValue v.absolute → outer_written v
    → (v.sign ≡ sign) × is_written (record v { sign = None })) where
  none_up : ((w : Numeral) → ¬ outer_numeral w) → (w : Numeral) → ¬ is_numeral w
  none_up none w n = none (record w { sign = sign }) (numeral_up w n)

  pub read_inside : {inline : ℕ} (result : Result Decimal ParseError) → IsRead inline is_numeral is_written result
      → IsRead inline outer_numeral outer_written (with_sign sign result)
  read_inside (Ok u) is = record {
    found = (is.found.0, value_up u is.found.0 is.found.1);
    reads_back = λ v valid written.
        let d = value_down v valid written in
        let e : u ≡ record v { sign = None } = is.reads_back (record v { sign = None }) valid d.1 in
        let absolute = ap (λ (z : Decimal). z.absolute) e in
        λ i. record { sign = (sym d.0) i; absolute = absolute i };
    syntax = (
      λ h. absurd (cc),
      λ none. let k : Ok u ≡ Err Syntax = is.syntax.1 (none_up none) in absurd (cc),
    );
    limit = (
      λ h. absurd (cc),
      λ x. let k : Ok u ≡ Err Limit = is.limit.1 (record x.0 { sign = None }, numeral_down x.0 x.1, x.2) in
          absurd (cc),
    );
    memory = λ h. absurd (cc);
  }
  read_inside (Err e) is = record {
    found = tt;
    reads_back = λ v valid written. is.reads_back (record v { sign = None }) valid (value_down v valid written).1;
    syntax = (
      λ h w n. is.syntax.0 h (record w { sign = None }) (numeral_down w n),
      λ none. is.syntax.1 (none_up none),
    );
    limit = (
      λ h. let x = is.limit.0 h in (record x.0 { sign = sign }, numeral_up x.0 x.1, x.2),
      λ x. is.limit.1 (record x.0 { sign = None }, numeral_down x.0 x.1, x.2),
    );
    memory = λ h. let x = is.memory h in (record x.0 { sign = sign }, x.1, value_up x.0 x.1 x.2, x.3);
  }

-- ---- Laws.
-- with readable symbols two values have different texts
pub texts_are_unique : (s : Symbols) (g h : GroupingStrategy) (v u : Decimal) → IsReadable s → IsValue v.absolute
    → IsValue u.absolute → formatted s g v ≡ formatted s h u → v ≡ u
texts_are_unique s g h v u readable p q e =
    decimal-unique (formatted_texts s readable (formatted s g v)) v u p q (g, refl) (h, e)

-- and what people type is that of one value
pub typed_texts_are_unique : (s : Symbols) (bytes : List ℕ) (v u : Decimal) → IsReadable s → IsValue v.absolute
    → IsValue u.absolute → IsTyped s v bytes → IsTyped s u bytes → v ≡ u
typed_texts_are_unique s bytes v u readable p q (inl a) (inl b) =
    decimal-unique (formatted_texts s readable bytes) v u p q a b
typed_texts_are_unique s bytes v u readable p q (inr a) (inr b) =
    decimal-unique (lenient_texts s readable (normalized s bytes)) v u p q a.1 b.1
typed_texts_are_unique s bytes v u readable p q (inl a) (inr b) =
    let t = written_digits s bytes v p a in absurd (b.0 t.0 t.1)
typed_texts_are_unique s bytes v u readable p q (inr a) (inl b) =
    let t = written_digits s bytes u q b in absurd (a.0 t.0 t.1)
