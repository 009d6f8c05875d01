-- Numbers between affixes as people type them.
use Rattle.std.proofs.{Common.{◌≡◌, ◌≢◌, ℕ, List, [], ◌∷◌, ◌++◌, length, get_or, take, drop, ◌-◌, ◌≤◌, refl, sym, ◌∙◌, ap, subst, arith, inl, inr}, lemmas.List.{append_cancel_left, append_cancel_right, take_all}}
use Rattle.std.specs.Prelude.{false, IfOk, Result, Ok, Err}
use Rattle.decimal_unsigned.specs.{Unsigned.IsValue, declared.error.ParseError.{ParseError, TheVariants.Syntax}}
use Rattle.fixed_decimal.specs.{Decimal.Decimal, declared.variations.Sign.{Sign, TheVariants.None}}
use Rattle.decimal_format.specs.{declared.reader.alternatives.Alternative.Alternative, Symbols.{Symbols, sign_affixes}, Readable.{IsReadable, BeginsWithDigit}, Reading.{Numeral, IsRead, absolute_numeral_text}, Lenient.{normalized, separated_at, IsLenientNumeral, IsLenientlyWritten}, Alternatives.{IsAround, IsNumeralAround, IsWrittenAround, IsNumeralOfFirst, IsWrittenOfFirst}}
use Rattle.decimal_format.proofs.lemmas.reader.{NumeralLaws.{texts_by, none_read, read_first, read_next, with_sign, read_inside}, Scans.{begins-append, number_begins, sign-unique}}

module _ (s : Symbols) (readable : IsReadable s) where
  -- a text that begins with a digit shows no sign
  pub no_sign : (sign : Sign) (text rest : List ℕ) → BeginsWithDigit s text
      → text ≡ (sign_affixes s sign).prefix ++ rest → sign ≡ None
  no_sign sign text rest begins e =
      sym (sign-unique s readable None sign text rest (λ _. begins)
      (λ none. subst (BeginsWithDigit s) (e ∙ ap (λ z. (sign_affixes s z).prefix ++ rest) none) begins) e).0

  -- and a text without a sign begins with a digit
  unsigned_begins : (text : List ℕ) (w : Numeral) → IsLenientNumeral s text w → w.sign ≡ None
      → BeginsWithDigit s text
  unsigned_begins text w n none =
      let number = absolute_numeral_text s (separated_at s n.chosen) w in
      subst (BeginsWithDigit s)
      (sym (n.text ∙ ap (λ z. (sign_affixes s z).prefix ++ (number ++ (sign_affixes s z).suffix)) none))
      (begins-append s number [] (number_begins s (separated_at s n.chosen) w n.digits))

  module _ (a : Alternative) (bytes : List ℕ) where
    module _ (middle : List ℕ) (around : IsAround s a bytes middle) where
      one_middle : (m : List ℕ) → IsAround s a bytes m → m ≡ middle
      one_middle m e =
          append_cancel_right m middle _ (append_cancel_left (normalized s a.prefix.now) _ _ (sym e ∙ around))

      numeral_in : (w : Numeral) (x : IsNumeralAround s a bytes w)
          → IsLenientNumeral s middle (record w { sign = x.own })
      numeral_in w x =
          subst (λ m. IsLenientNumeral s m (record w { sign = x.own })) (one_middle x.middle x.around) x.numeral

      written_in : (v : Decimal) (x : IsWrittenAround s a bytes v)
          → IsLenientlyWritten s (record v { sign = x.own }) middle
      written_in v x =
          subst (IsLenientlyWritten s (record v { sign = x.own })) (one_middle x.middle x.around) x.written

      -- ---- Affixes that show no sign.
      module _ (plain : a.sign ≡ None) where
        numeral_out : (w : Numeral) → IsLenientNumeral s middle w → IsNumeralAround s a bytes w
        numeral_out w n = record {
          middle = middle;
          around = around;
          own = w.sign;
          sign = inl (plain, refl);
          numeral = n;
        }

        numeral_back : (w : Numeral) → IsNumeralAround s a bytes w → IsLenientNumeral s middle w
        numeral_back w x = elim x.sign [
          | inl e ↦ subst (λ z. IsLenientNumeral s middle (record w { sign = z })) (sym e.1) (numeral_in w x)
          | inr e ↦ absurd (e.0 plain)
        ]

        written_out : (v : Decimal) → IsLenientlyWritten s v middle → IsWrittenAround s a bytes v
        written_out v n = record {
          middle = middle;
          around = around;
          own = v.sign;
          sign = inl (plain, refl);
          written = n;
        }

        written_back : (v : Decimal) → IsWrittenAround s a bytes v → IsLenientlyWritten s v middle
        written_back v x = elim x.sign [
          | inl e ↦ subst (λ z. IsLenientlyWritten s (record v { sign = z }) middle) (sym e.1) (written_in v x)
          | inr e ↦ absurd (e.0 plain)
        ]

        pub plain_read : (inline : ℕ) (result : Result Decimal ParseError)
            → IsRead inline (IsLenientNumeral s middle) (λ v. IsLenientlyWritten s v middle) result
            → IsRead inline (IsNumeralAround s a bytes) (IsWrittenAround s a bytes) result
        plain_read inline result is = record {
          found = found result is;
          reads_back = λ v valid x. is.reads_back v valid (written_back v x);
          syntax = (
            λ h w x. is.syntax.0 h w (numeral_back w x),
            λ none. is.syntax.1 (λ w n. none w (numeral_out w n)),
          );
          limit = (
            λ h. let x = is.limit.0 h in (x.0, numeral_out x.0 x.1, x.2),
            λ x. is.limit.1 (x.0, numeral_back x.0 x.1, x.2),
          );
          memory = λ h. let x = is.memory h in (x.0, x.1, written_out x.0 x.2, x.3);
        }
          where
            found : (r : Result Decimal ParseError)
                → IsRead inline (IsLenientNumeral s middle) (λ v. IsLenientlyWritten s v middle) r
                → IfOk r (λ v. IsValue v.absolute × IsWrittenAround s a bytes v)
            found (Ok v) is = (is.found.0, written_out v is.found.1)
            found (Err e) is = tt

      -- ---- Affixes that show a sign.
      module _ (signed : a.sign ≢ None) where
        numeral_down : (w : Numeral) → IsNumeralAround s a bytes w
            → IsLenientNumeral s middle (record w { sign = None })
        numeral_down w x = elim x.sign [
          | inl e ↦ absurd (signed e.0)
          | inr e ↦ subst (λ z. IsLenientNumeral s middle (record w { sign = z })) e.1 (numeral_in w x)
        ]

        value_down : (v : Decimal) → IsValue v.absolute → IsWrittenAround s a bytes v
            → (v.sign ≡ a.sign) × IsLenientlyWritten s (record v { sign = None }) middle
        value_down v valid x = elim x.sign [
          | inl e ↦ absurd (signed e.0)
          | inr e ↦ (e.2, subst (λ z. IsLenientlyWritten s (record v { sign = z }) middle) e.1 (written_in v x))
        ]

        written_begins : (v : Decimal) → IsValue v.absolute → IsLenientlyWritten s (record v { sign = None }) middle
            → BeginsWithDigit s middle
        written_begins v valid written =
            let d = (texts_by false s readable middle).reads (record v { sign = None }) valid written in
            unsigned_begins middle d.0 d.1 (sym d.2.sign)

        pub two_signs : (inline : ℕ) → ¬ BeginsWithDigit s middle
            → IsRead inline (IsNumeralAround s a bytes) (IsWrittenAround s a bytes) (Err Syntax)
        two_signs inline other =
            none_read (λ w x. other (unsigned_begins middle (record w { sign = None }) (numeral_down w x) refl))
            (λ v valid x. other (written_begins v valid (value_down v valid x).1))

        module _ (begins : BeginsWithDigit s middle) where
          numeral_up : (w : Numeral) → IsLenientNumeral s middle w
              → IsNumeralAround s a bytes (record w { sign = a.sign })
          numeral_up w n = record {
            middle = middle;
            around = around;
            own = w.sign;
            sign = inr (signed, no_sign w.sign middle _ begins n.text, refl);
            numeral = n;
          }

          value_up : (v : Decimal) → IsValue v.absolute → IsLenientlyWritten s v middle
              → IsWrittenAround s a bytes (record v { sign = a.sign })
          value_up v valid written =
              let d = (texts_by false s readable middle).reads v valid written in record {
                middle = middle;
                around = around;
                own = v.sign;
                sign = inr (signed, d.2.sign ∙ no_sign d.0.sign middle _ begins d.1.text, refl);
                written = written;
              }

          pub signed_read : (inline : ℕ) (result : Result Decimal ParseError)
              → IsRead inline (IsLenientNumeral s middle) (λ v. IsLenientlyWritten s v middle) result
              → IsRead inline (IsNumeralAround s a bytes) (IsWrittenAround s a bytes) (with_sign a.sign result)
          signed_read inline result is =
              read_inside a.sign numeral_up numeral_down value_up value_down result is

-- ---- The first of some alternatives.
rest_is : (a : Alternative) (xs : List Alternative) → take (length (a ∷ xs) - 1) (drop 1 (a ∷ xs)) ≡ xs
rest_is a xs =
    let count : length (a ∷ xs) - 1 ≡ length xs = omega arith in
    ap (λ n. take n xs) count ∙ take_all (length xs) xs (omega arith)

module _ (s : Symbols) (bytes : List ℕ) (inline : ℕ) where
  -- what is read by some alternatives
  abbrev IsReadBy : List Alternative → Result Decimal ParseError → Type 0
  IsReadBy xs result = IsRead inline (IsNumeralOfFirst s bytes xs) (IsWrittenOfFirst s bytes xs) result

  pub first_reads : (xs : List Alternative) (d : Alternative) → 1 ≤ length xs → (result : Result Decimal ParseError)
      → IsRead inline (IsNumeralAround s (get_or xs 0 d) bytes) (IsWrittenAround s (get_or xs 0 d) bytes) result
      → result ≢ Err Syntax → IsReadBy xs result
  first_reads [] d some result read other = absurd (omega (arith, some))
  first_reads (a ∷ xs) d some result read other = read_first read other

  pub rest_reads : (xs : List Alternative) (d : Alternative) → 1 ≤ length xs → (result : Result Decimal ParseError)
      → IsRead inline (IsNumeralAround s (get_or xs 0 d) bytes) (IsWrittenAround s (get_or xs 0 d) bytes) (Err Syntax)
      → IsReadBy (take (length xs - 1) (drop 1 xs)) result → IsReadBy xs result
  rest_reads [] d some result none read = absurd (omega (arith, some))
  rest_reads (a ∷ xs) d some result none read =
      read_next none (subst (λ l. IsReadBy l result) (rest_is a xs) read)
