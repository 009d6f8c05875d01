use Rattle.std.proofs.{Common.{◌≡◌, List, [], ◌∷◌, ◌++◌, String, Global, Bool, true, false, Some, None, refl, sym, ap, ◌∙◌, codes, string_bytes, rules}, lemmas.List.{reverse-append, reverse-reverse}}
use Rattle.std.specs.Prelude.{if◌then◌else◌, reverse}
use Rattle.cli.specs.{Parameters.has_name, Words.split_format}
use Rattle.cli.proofs.words.conversion.split_format.Goals as goal

-- the last word
last_is :
    (rest : List (String Global)) (last : String Global) (is_format : Bool)
    → has_name (codes "format") (string_bytes last) ≡ is_format
    → (if is_format then (Some (string_bytes last), rest) else (None, rest ++ (last ∷ [])))
    ≡ split_format (rest ++ (last ∷ []))
last_is rest last true is = rw (reverse-append, is, reverse-reverse) refl
last_is rest last false is =
    let kept : rest ++ (last ∷ []) ≡ reverse (last ∷ reverse rest) =
    sym (reverse-append (last ∷ []) (reverse rest) ∙ ap (λ words. words ++ (last ∷ [])) (reverse-reverse rest)) in
    rw (reverse-append, is) (rw (← kept) refl)

pub returns-then-has_name : goal.returns-then-has_name
returns-then-has_name c =
    let last = c.in-Some.last.now in
    let split : c.args.words.now ≡ c.in-Some.rest.now ++ (last ∷ []) = search rules in
    rw (split, c.as_str-word.ensures.value) (last_is c.in-Some.rest.now last true
    (rw c.as_str-word.ensures.value at (sym c.has_name.ensures ∙ c.if-has_name.true)))

pub returns : goal.returns
returns c =
    let last = c.in-Some.last.now in
    let split : c.args.words.now ≡ c.in-Some.rest.now ++ (last ∷ []) = search rules in
    rw split (last_is c.in-Some.rest.now last false
    (rw c.as_str-word.ensures.value at (sym c.has_name.ensures ∙ c.if-has_name.false)))
