-- The text of a decimal, and the reading of one.
use Rattle.std.proofs.{Common.{◌≡◌, ℕ, ◌<◌, ◌≤◌, length, List, ◌∷◌, ◌++◌, refl, sym, ◌∙◌, ap, subst, arith, Result, Ok, Err, IsOkAnd, ◌↔◌}, lemmas.Bool.Decides.nat_tests}
use Rattle.decimal_digits.specs.Number.{size}
use Rattle.decimal_unsigned.proofs.lemmas.{parse.{FewDigits.{plain_is_read, few_are_held}, ReadingGrammar.{syntax_is, limit_is, value_is, result_syntax, result_limit}}, text.ReadBack.read_text}
use Rattle.decimal_unsigned.specs.{Grammar.Literal, ParseResult.IsParseResult, Reading.{value_of, syntax, ReadError, parts_of, after_whole, value_or_syntax, read, limit}, Text.text, Unsigned.{Unsigned, IsValue}, declared.error.ParseError.ParseError}
use Rattle.fixed_decimal.specs.{Decimal.Decimal, DecimalText.{sign_text, decimal_text, Grammar, sign_of, after_sign, with_sign, read_decimal, IsLong, Parses}, declared.variations.Sign.Sign}
use Rattle.decimal_unsigned.specs.Grammar as unsigned

-- ---- A text that an unsigned decimal may have begins with no sign.
read_minus : (rest : List ℕ) → read (45 ∷ rest) ≡ Err syntax
unfolding read value_or_syntax parts_of after_whole
read_minus rest = refl

read_plus : (rest : List ℕ) → read (43 ∷ rest) ≡ Err syntax
unfolding read value_or_syntax parts_of after_whole
read_plus rest = refl

-- the split finds this sign and the text after it
record Splits (bytes : List ℕ) (s : Sign) (number : List ℕ) : Type 0 where
  sign : sign_of bytes ≡ s
  suffix : after_sign bytes ≡ number

splits : (sign : Sign) (number : List ℕ) → ¬ (read number ≡ Err syntax) → Splits (sign_text sign ++ number) sign number
splits sign number n = grind (arith, nat_tests, read_minus, read_plus)

-- the sign and the text after it concatenate to the text
whole : (bytes : List ℕ) → bytes ≡ sign_text (sign_of bytes) ++ after_sign bytes
whole bytes = grind (arith, nat_tests)

-- ---- The grammar, and the split.
not_syntax : (number : List ℕ) (w : Literal) → unsigned.Grammar number w → ¬ (read number ≡ Err syntax)
not_syntax number w g e = (syntax_is number).0 e w g

-- the grammar finds the sign that the split finds
pub grammar_splits : (bytes : List ℕ) (sign : Sign) (w : Literal) → Grammar bytes sign w
    → (sign_of bytes ≡ sign) × unsigned.Grammar (after_sign bytes) w
grammar_splits bytes sign w g =
    let k = splits sign g.number (not_syntax g.number w g.written) in
    (ap sign_of g.is ∙ k.sign, subst (λ t. unsigned.Grammar t w) (sym (ap after_sign g.is ∙ k.suffix)) g.written)

split_grammar : (bytes : List ℕ) (w : Literal) → unsigned.Grammar (after_sign bytes) w
    → Grammar bytes (sign_of bytes) w
split_grammar bytes w g = record { number = after_sign bytes; is = whole bytes; written = g }

with_sign-Err : (sign : Sign) (r : Result Unsigned ReadError) (fault : ReadError)
    → (with_sign sign r ≡ Err fault) ↔ (r ≡ Err fault)
with_sign-Err sign r fault = grind arith

with_sign-Ok : (sign : Sign) (r : Result Unsigned ReadError) (v : Decimal) → with_sign sign r ≡ Ok v
    → (sign ≡ v.sign) × (r ≡ Ok v.absolute)
with_sign-Ok sign r v e = grind arith

-- reading fails with `syntax` exactly if the text is in no form of the grammar
pub decimal_syntax : (bytes : List ℕ)
    → (read_decimal bytes ≡ Err syntax) ↔ ((sign : Sign) (w : Literal) → ¬ Grammar bytes sign w)
unfolding read_decimal
decimal_syntax bytes =
    let k = with_sign-Err (sign_of bytes) (read (after_sign bytes)) syntax in
    let s = syntax_is (after_sign bytes) in (
      λ e sign w g. s.0 (k.0 e) w (grammar_splits bytes sign w g).1,
      λ n. k.1 (s.1 (λ w g. n (sign_of bytes) w (split_grammar bytes w g))),
    )

-- reading fails with `limit` exactly if the text has parts by the grammar whose value exceeds a limit
pub decimal_limit : (bytes : List ℕ)
    → (read_decimal bytes ≡ Err limit)
    ↔ ((sign : Sign) × (w : Literal) × Grammar bytes sign w × (value_of w ≡ Err limit))
unfolding read_decimal
decimal_limit bytes =
    let k = with_sign-Err (sign_of bytes) (read (after_sign bytes)) limit in
    let l = limit_is (after_sign bytes) in (
      λ e. let f = l.0 (k.0 e) in (sign_of bytes, f.0, split_grammar bytes f.0 f.1, f.2),
      λ f. k.1 (l.1 (f.1, (grammar_splits bytes f.0 f.1 f.2).1, f.3)),
    )

decimal_value : (bytes : List ℕ) (v : Decimal) → read_decimal bytes ≡ Ok v
    → (w : Literal) × Grammar bytes v.sign w × (value_of w ≡ Ok v.absolute)
unfolding read_decimal
decimal_value bytes v e =
    let k = with_sign-Ok (sign_of bytes) (read (after_sign bytes)) v e in
    let f = value_is (after_sign bytes) v.absolute k.1 in
    (f.0, subst (λ sign. Grammar bytes sign f.0) k.0 (split_grammar bytes f.0 f.1), f.2)

with_sign-long : (held : ℕ) (sign : Sign) (q : Result Unsigned ReadError) → IsOkAnd (with_sign sign q) (IsLong held)
    → IsOkAnd q (λ v. held < size v.number)
with_sign-long held sign q long = grind arith

-- a result that follows reading follows the grammar; without an exponent there is no `Limit`, and no `Memory` if the
-- store holds the digits
pub parsed : (held : ℕ) (bytes : List ℕ) (r : Result Decimal ParseError)
    → IsParseResult (IsLong held) r (read_decimal bytes) → Parses held bytes r
unfolding read_decimal
parsed held bytes r a =
    let s = result_syntax _ r (read_decimal bytes) a in
    let l = result_limit _ r (read_decimal bytes) a in
    let k = with_sign-Err (sign_of bytes) (read (after_sign bytes)) limit in
    record {
      parses = a;
      grammar = record {
        syntax = (λ e. (decimal_syntax bytes).0 (s.0 e), λ n. s.1 ((decimal_syntax bytes).1 n));
        limit = (λ e. (decimal_limit bytes).0 (l.0 e), λ n. l.1 ((decimal_limit bytes).1 n));
        found = grind (arith, decimal_value);
      };
      plain = λ sign w g plain e.
          plain_is_read (after_sign bytes) w (grammar_splits bytes sign w g).1 plain (k.0 (l.0 e));
      at_most = λ sign w g few e.
          few_are_held held (after_sign bytes) w (grammar_splits bytes sign w g).1 few
          (with_sign-long held (sign_of bytes) (read (after_sign bytes)) (rw e at a));
    }

-- ---- A text that was written.
module _ (v : Decimal) (valid : IsValue v.absolute) where
  text_splits : Splits (decimal_text v) v.sign (text v.absolute)
  text_splits = splits v.sign (text v.absolute) (λ e. let r = read_text v.absolute valid in absurd (cc))

  -- a text that was written reads as its decimal
  pub read_decimal_text : read_decimal (decimal_text v) ≡ Ok v
  unfolding read_decimal
  read_decimal_text = grind (arith, nat_tests, text_splits, read_text)

-- equal texts are those of equal decimals
pub decimal_text_same : (v w : Decimal) → IsValue v.absolute → IsValue w.absolute → decimal_text v ≡ decimal_text w
    → v ≡ w
decimal_text_same v w p q e = let r = sym (read_decimal_text v p) ∙ ap read_decimal e ∙ read_decimal_text w q in cc

-- ---- The length of a text.
-- at most one byte for the sign
pub sign_text_short : (sign : Sign) → length (sign_text sign) ≤ 1
sign_text_short sign = grind arith
