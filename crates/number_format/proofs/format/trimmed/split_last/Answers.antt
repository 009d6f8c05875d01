use Rattle.std.proofs.{lemmas.{Str.{chars-append, chars-nil, chars_past_char, IsUtf8-encode}, List.append-nil}, Common.{◌≡◌, ℕ, List, [], ◌∷◌, ◌++◌, length, ◌∙◌, ap, sym, rules, arith}}
use Rattle.std.specs.{Char.{IsScalar, encode_utf8}, Str.{IsUtf8, chars}}
use Rattle.number_format.proofs.format.trimmed.split_last.Goals as goal

no_chars : (text : List ℕ) → length text ≡ 0 → chars text ≡ []
no_chars [] e = chars-nil
no_chars (b ∷ text) e = absurd (omega arith)

-- the characters of a text and of one character after it
one_more : (text : List ℕ) (c : ℕ) → IsUtf8 text → IsScalar c → chars (text ++ encode_utf8 c) ≡ chars text ++ c ∷ []
one_more text c is one =
    chars-append text (encode_utf8 c) is
    ∙ ap (λ l. chars text ++ l)
    (chars_past_char (encode_utf8 c) [] c (IsUtf8-encode c one) (sym (append-nil (encode_utf8 c)))
    ∙ ap (λ l. c ∷ l) chars-nil)

pub returns-in_err-c : goal.returns-in_err-c
returns-in_err-c c = grind (arith, no_chars)

pub returns : goal.returns
returns c =
    let scalar : IsScalar c.in_ok-c.c = search rules in
    let split = c.in_ok-c.ensures.steps in
    grind (arith, one_more, scalar, split)
