-- Texts in quotes.
use Rattle.std.proofs.{Common.{◌≡◌, ◌≢◌, ◌⊎◌, ℕ, suc, ◌+◌, ◌<◌, Bool, true, false, not, List, [], ◌∷◌, ◌++◌, length, take, drop, get_or, ⊎_elim, refl, sym, ap, ◌∙◌, subst, append_assoc, add-one, arith, take-append-drop, Option}, lemmas.{Bool.{cond-true, cond-false, eqb-true, false≢true}, List.append-nil, Grind.{common_steps, flat_map-append}}, Math.{Bool.beq, Seq.{take-suc, drop-cons}}, KnownBytes.Appends-trans}
use Rattle.std.specs.{List.list_any, Io.KnownBytes.Appends}
use Rattle.decimal_digits.specs.AppendsPrefix.{AppendsPrefix}
use Rattle.fixed_decimal.proofs.Calling.{prefix_more, then_prefix}
use Rattle.cli.specs.Fields.{quote, is_quote, double, doubled, quoted}

-- ---- The first byte of a text in quotes.

double_quote : (x : ℕ) → is_quote x ≡ true → double x ≡ quote ∷ quote ∷ []
double_quote x is = cond-true _ _ _ is

double_other : (x : ℕ) → is_quote x ≡ false → double x ≡ x ∷ []
double_other x is = cond-false _ _ _ is

-- a byte is followed by the others, and a quote by a second one
doubled_first :
    (x : ℕ) (left text : List ℕ) → x ∷ left ≡ doubled text
    → (rest : List ℕ) × (((is_quote x ≡ true) × (left ≡ quote ∷ doubled rest))
    ⊎ ((is_quote x ≡ false) × (left ≡ doubled rest)))
doubled_first x left [] e = cc
doubled_first x left (y ∷ rest) e = (rest, grind (arith, common_steps))

-- a text with no quote
pub doubled_plain : (text : List ℕ) → list_any is_quote text ≡ false → doubled text ≡ text
doubled_plain [] none = refl
doubled_plain (x ∷ text) none = grind (arith, common_steps, none, doubled_plain text)

-- two tests that agree, or not
agree : (a b : Bool) → beq a b ≡ true → a ≡ b
agree a b h = grind arith

differ : (a b : Bool) → beq a b ≡ false → a ≡ not b
differ a b h = grind arith

-- ---- The text in quotes, byte by byte.

-- the quote that waits for a second one
abbrev pub pending : Bool → List ℕ
pending true = quote ∷ []
pending false = []

-- the bytes hold this text so far, and then the bytes that are left
pub record Undoubled (bytes text : List ℕ) (is_open : Bool) (left : List ℕ) : Type 0 where
  pub read : doubled text ++ (pending is_open ++ left) ≡ bytes
  pub only : (all : List ℕ) → bytes ≡ doubled all → (rest : List ℕ) × (pending is_open ++ left ≡ doubled rest)

-- a quote that waits is followed by one
after_pending :
    {bytes text left : List ℕ} → Undoubled bytes text true left → (all : List ℕ) → bytes ≡ doubled all
    → (rest : List ℕ) × (left ≡ quote ∷ doubled rest)
after_pending {bytes} {text} {left} h all e =
    let (some, f) = h.only all e in
    let (rest, either) = doubled_first quote left some f in
    ⊎_elim (λ first. (rest, first.1)) (λ other. absurd (false≢true (sym other.0))) either

-- so it may not be the last one
pub undoubled_open : {bytes text : List ℕ} → Undoubled bytes text true [] → (all : List ℕ) → bytes ≢ doubled all
undoubled_open h all e = let (rest, f) = after_pending h all e in cc

-- and no other byte may follow it
pub undoubled_alone :
    {bytes text left : List ℕ} (x : ℕ) → Undoubled bytes text true (x ∷ left) → beq (is_quote x) true ≡ false
    → (all : List ℕ) → bytes ≢ doubled all
undoubled_alone x h other all e =
    let (rest, f) = after_pending h all e in
    let same : x ≡ quote = cc in
    false≢true (sym (differ (is_quote x) true other) ∙ ap is_quote same)

-- the first of two quotes
pub undoubled_first :
    {bytes text left : List ℕ} (x : ℕ) → Undoubled bytes text false (x ∷ left) → beq (is_quote x) false ≡ false
    → Undoubled bytes text true left
undoubled_first {bytes} {text} {left} x h other =
    let same = eqb-true x quote (differ (is_quote x) false other) in
    let k = subst (λ byte. Undoubled bytes text false (byte ∷ left)) same h in
    record { read = k.read; only = k.only }

more_read : (text left : List ℕ) (x : ℕ) → doubled (text ++ (x ∷ [])) ++ left ≡ doubled text ++ (double x ++ left)
more_read text left x = grind (arith, common_steps, flat_map-append, append_assoc)

-- one more byte of the text: the second of two quotes, or another byte
pub undoubled_more :
    {bytes text left : List ℕ} (x : ℕ) (is_open : Bool) → Undoubled bytes text is_open (x ∷ left)
    → beq (is_quote x) is_open ≡ true → Undoubled bytes (text ++ (x ∷ [])) false left
undoubled_more {bytes} {text} {left} x true h agrees =
    let is = agree (is_quote x) true agrees in
    let same = eqb-true x quote is in
    record {
      read = more_read text left x
          ∙ ap (λ l. doubled text ++ (l ++ left)) (double_quote x is ∙ ap (λ q. quote ∷ q ∷ []) (sym same)) ∙ h.read;
      only = λ all e. let (rest, f) = after_pending h all e in (rest, cc);
    }
undoubled_more {bytes} {text} {left} x false h agrees =
    let is = agree (is_quote x) false agrees in
    record {
      read = more_read text left x ∙ ap (λ l. doubled text ++ (l ++ left)) (double_other x is) ∙ h.read;
      only = λ all e.
          let (some, f) = h.only all e in
          let (rest, either) = doubled_first x left some f in
          (rest, ⊎_elim (λ first. absurd (false≢true (sym is ∙ first.0))) (λ other. other.1) either);
    }

-- ---- The text in quotes, written byte by byte.

-- after a quote and the bytes so far, one more byte was written
pub quoted_more :
    (a b c : Option (List ℕ)) (text : List ℕ) (i : ℕ) → i < length text
    → Appends a b (quote ∷ doubled (take i text)) → Appends b c (double (get_or text i 0))
    → Appends a c (quote ∷ doubled (take (i + 1) text))
quoted_more a b c text i l p q =
    rw (add-one, take-suc text i 0 l, flat_map-append double (take i text) (get_or text i 0 ∷ []))
    (rw (append-nil (double (get_or text i 0)))
    (Appends-trans a b c (quote ∷ doubled (take i text)) (double (get_or text i 0)) p q))

-- a prefix of it was written
pub quoted_part :
    (a b c : Option (List ℕ)) (text : List ℕ) (i : ℕ) → i < length text
    → Appends a b (quote ∷ doubled (take i text)) → AppendsPrefix b c (double (get_or text i 0))
    → AppendsPrefix a c (quoted text)
quoted_part a b c text i l p q =
    let x = get_or text i 0 in
    let done = quote ∷ doubled (take i text) in
    let split : text ≡ take i text ++ (x ∷ drop (suc i) text) =
    sym (take-append-drop i text) ∙ ap (λ l. take i text ++ l) (drop-cons text i 0 l) in
    let all : quoted text ≡ (done ++ double x) ++ (doubled (drop (suc i) text) ++ (quote ∷ [])) =
    ap quoted split ∙ grind (arith, common_steps, flat_map-append, append_assoc) in
    rw all (prefix_more a c (done ++ double x) _ (then_prefix a b c done (double x) p q))
