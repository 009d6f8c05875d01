-- Reading and the grammar.
use Rattle.std.proofs.Common.{◌≡◌, ℕ, Bool, cond, ◌⊎◌, inl, inr, List, refl, sym, ◌∙◌, ap, arith, ℤ, Option, Some, None, Result, Ok, Err, IfOk, ◌↔◌}
use Rattle.decimal_digits.proofs.lemmas.digits.Rules.{steps}
use Rattle.decimal_unsigned.proofs.lemmas.parse.GrammarParts.{parts-complete, parts-sound}
use Rattle.decimal_unsigned.specs.{Grammar.{Literal, Grammar}, ParseResult.{IsParseResult, ResultFollowsGrammar}, Reading.{parts_of, limit, mantissa, ReadError, scaled, value_of, value_or_syntax, read, FollowsGrammar, syntax}, Unsigned.Unsigned, declared.error.ParseError.ParseError, declared.error.ParseError.TheVariants.{Limit, Syntax}}

-- a value, or the limit
abbrev Values : Result Unsigned ReadError → Type 0
Values r = ((v : Unsigned) × (r ≡ Ok v)) ⊎ (r ≡ Err limit)

tested : (b : Bool) (x y : Result Unsigned ReadError) → Values x → Values y → Values (cond b x y)
tested x0 x y p q = grind arith

scaled_values : (v : Unsigned) (e : Option ℤ) → Values (scaled v e)
unfolding scaled
scaled_values v x1 = grind (arith, steps, tested)

value_of_values : (w : Literal) → Values (value_of w)
unfolding value_of
value_of_values w = tested _ _ _ (inr refl) (scaled_values (mantissa w.whole w.fraction) w.exponent)

not_syntax : (w : Literal) → ¬ (value_of w ≡ Err syntax)
not_syntax w e = elim (value_of_values w) [ inl h ↦ let v = h.0 in let q = h.1 in cc | inr h ↦ cc ]

-- the text's value is that of its parts
pub read_grammar : (text : List ℕ) (w : Literal) → Grammar text w → read text ≡ value_of w
unfolding read value_or_syntax
read_grammar text w g = ap value_or_syntax (parts-complete text w g)

-- a text that is not a syntax error has parts
pub grammar_if : (text : List ℕ) → ¬ (read text ≡ Err syntax)
    → (w : Literal) × Grammar text w × (read text ≡ value_of w)
unfolding read value_or_syntax
grammar_if text n = go (parts_of text) refl
  where
    go : (o : Option Literal) → parts_of text ≡ o → (w : Literal) × Grammar text w × (read text ≡ value_of w)
    go None e = absurd (n (ap value_or_syntax e))
    go (Some w) e = (w, parts-sound text w e, ap value_or_syntax e)

-- no form holds
pub syntax_is : (text : List ℕ) → (read text ≡ Err syntax) ↔ ((w : Literal) → ¬ Grammar text w)
unfolding read value_or_syntax
syntax_is text = (λ e w g. not_syntax w (sym (read_grammar text w g) ∙ e), λ n. go n (parts_of text) refl)
  where
    go : ((w : Literal) → ¬ Grammar text w) → (o : Option Literal) → parts_of text ≡ o
        → value_or_syntax (parts_of text) ≡ Err syntax
    go n None e = ap value_or_syntax e
    go n (Some w) e = absurd (n w (parts-sound text w e))

-- reading follows the grammar
pub follows_grammar : (text : List ℕ) → FollowsGrammar text
follows_grammar text = record { value = read_grammar text; none = (syntax_is text).1 }

-- a text exceeds the limits exactly if its parts do
pub limit_is : (text : List ℕ) → (read text ≡ Err limit) ↔ ((w : Literal) × Grammar text w × (value_of w ≡ Err limit))
limit_is text = (
  λ e. let k = grammar_if text (λ s. let never : ⊥ = cc in never) in (k.0, k.1, sym k.2 ∙ e),
  λ k. read_grammar text k.0 k.1 ∙ k.2,
)

-- the value of a text is that of its parts
pub value_is : (text : List ℕ) (v : Unsigned) → read text ≡ Ok v → (w : Literal) × Grammar text w × (value_of w ≡ Ok v)
value_is text v e = let k = grammar_if text (λ s. let never : ⊥ = cc in never) in (k.0, k.1, sym k.2 ∙ e)

-- ---- The result of a parser.

-- it fails with `Syntax` exactly if reading does
pub result_syntax : {V : Type 0} (allocates : V → Type 0) (r : Result V ParseError) (q : Result V ReadError)
    → IsParseResult allocates r q
    → (r ≡ Err Syntax) ↔ (q ≡ Err syntax)
result_syntax allocates r q a = grind arith

-- and with `Limit` exactly if reading does
pub result_limit : {V : Type 0} (allocates : V → Type 0) (r : Result V ParseError) (q : Result V ReadError)
    → IsParseResult allocates r q
    → (r ≡ Err Limit) ↔ (q ≡ Err limit)
result_limit allocates r q a = grind arith

result_value : (allocates : Unsigned → Type 0) (text : List ℕ) (r : Result Unsigned ParseError)
    → IsParseResult allocates r (read text)
    → IfOk r (λ v. (w : Literal) × Grammar text w × (value_of w ≡ Ok v))
result_value allocates text x2 a = grind (arith, value_is)

-- a result that follows reading follows the grammar
pub result_follows_grammar : (allocates : Unsigned → Type 0) (text : List ℕ) (r : Result Unsigned ParseError)
    → IsParseResult allocates r (read text)
    → ResultFollowsGrammar text r
result_follows_grammar allocates text r a =
    let s = result_syntax allocates r (read text) a in
    let t = syntax_is text in
    let l = result_limit allocates r (read text) a in
    let m = limit_is text in
    record {
      syntax = (λ e. t.0 (s.0 e), λ n. s.1 (t.1 n));
      limit = (λ e. m.0 (l.0 e), λ n. l.1 (m.1 n));
      found = result_value allocates text r a;
    }
