-- The lines that have been printed, text by text.
use Rattle.std.proofs.{Common.{◌≡◌, ◌≢◌, ℕ, suc, ◌+◌, ◌<◌, List, [], ◌∷◌, ◌++◌, length, take, drop, get_or, String, string_bytes, Option, Result, Ok, Err, refl, sym, ap, subst, ◌∙◌, arith, append_assoc}, Math.Seq.split_at, lemmas.List.{append-nil, length-take-le}, KnownBytes.{Appends-kept, Appends-trans}}
use Rattle.std.specs.{Prelude.{IsOkAnd, IfErr, OnOk}, declared.alloc.Global.Global, Io.KnownBytes.{Keeps, Appends}}
use Rattle.decimal_digits.specs.AppendsPrefix.{AppendsPrefix}
use Rattle.plural_rules.specs.declared.rules.PluralCategory.{PluralCategory}
use Rattle.cli.specs.{declared.program.error.ProgramError.{ProgramError, TheVariants.Output}, TextCategory.{TextRulesValue, text_rules, read_category}, Categories.{category_line, HaveLines, PrintsAll, StopsAt, TextFails}, Plural.{named_tag, HasRules}}
use Rattle.cli.proofs.lemmas.words.CallWords.{taken}
use Rattle.fixed_decimal.proofs.Calling.{then_prefix}

-- a result of which a property holds is Ok
ok_and : {X E : Type 0} (r : Result X E) (P : X → Type 0) → IsOkAnd r P → (x : X) × (r ≡ Ok x) × P x
ok_and (Ok x) P h = (x, refl, h)
ok_and (Err e) P h = absurd h

-- one more text has one more line
lines_more :
    (rules : TextRulesValue) (front : List (String Global)) (lines : List ℕ) (text : String Global)
    (category : PluralCategory) → HaveLines rules front lines → read_category rules (string_bytes text) ≡ Ok category
    → HaveLines rules (front ++ text ∷ []) (lines ++ category_line category)
lines_more rules [] lines text category none read =
    (category, [], read, ap (λ l. l ++ category_line category) none ∙ sym (append-nil (category_line category)), refl)
lines_more rules (first ∷ front) lines text category (found, rest, is, e, have) read = (
  found,
  rest ++ category_line category,
  is,
  ap (λ l. l ++ category_line category) e ∙ append_assoc (category_line found) rest (category_line category),
  lines_more rules front rest text category have read,
)

-- the lines of the texts before the one at `i` are printed
module _
    (rules : TextRulesValue) (texts : List (String Global)) (i : ℕ) (text : String Global)
    (old mid new : Option (List ℕ)) (l : i < length texts) (e : text ≡ get_or texts i text)
    (before : PrintsAll rules (take i texts) old mid)
  where
    -- and the line of this one
    pub prints_more :
        IsOkAnd (read_category rules (string_bytes text)) (λ category. Appends mid new (category_line category))
        → PrintsAll rules (take (i + 1) texts) old new
    prints_more printed =
        let (lines, have, appends) = before in
        let (category, read, line) = ok_and (read_category rules (string_bytes text)) _ printed in
        subst (λ front. PrintsAll rules front old new) (sym (taken texts i text l e)) (
          lines ++ category_line category,
          lines_more rules (take i texts) lines text category have read,
          Appends-trans old mid new lines (category_line category) appends line,
        )

    cut : texts ≡ take i texts ++ text ∷ drop (suc i) texts
    cut = split_at texts i text l ∙ ap (λ x. take i texts ++ x ∷ drop (suc i) texts) (sym e)

    -- the error of this one; at `Output` it is that of its line
    pub stops_here :
        (error : ProgramError) → TextFails rules (string_bytes text) (i + 1) error → (error ≢ Output → new ≡ mid)
        → (error ≡ Output
        → IsOkAnd (read_category rules (string_bytes text))
        (λ category. AppendsPrefix mid new (category_line category)))
        → StopsAt rules texts old new error
    stops_here Output fails same part =
        let (lines, have, appends) = before in
        let (category, read, line) = ok_and (read_category rules (string_bytes text)) _ (part refl) in (
          take i texts ++ text ∷ [],
          drop (suc i) texts,
          lines ++ category_line category,
          cut ∙ sym (append_assoc (take i texts) (text ∷ []) (drop (suc i) texts)),
          lines_more rules (take i texts) lines text category have read,
          then_prefix old mid new lines (category_line category) appends line,
          λ other. absurd (other refl),
        )
    stops_here error fails same part =
        let (lines, have, appends) = before in
        let kept : Appends old new lines = subst (λ now. Appends old now lines) (sym (same (λ is. cc))) appends in
        let count : length (take i texts) ≡ i = length-take-le i texts (omega (arith, l)) in (
          take i texts,
          text ∷ drop (suc i) texts,
          lines,
          cut,
          have,
          (lines, [], append-nil lines, kept),
          λ _. (kept, subst (λ k. TextFails rules (string_bytes text) (k + 1) error) (sym count) fails),
        )

-- calls that keep the contents of a writer keep the printed lines
module _ (rules : TextRulesValue) (texts : List (String Global)) (old mid new : Option (List ℕ)) (k : Keeps mid new)
  where
    prefix_kept : (xs : List ℕ) → AppendsPrefix old mid xs → AppendsPrefix old new xs
    prefix_kept xs (part, rest, e, p) = (part, rest, e, Appends-kept old mid new part p k)

    pub all_kept : PrintsAll rules texts old mid → PrintsAll rules texts old new
    all_kept (lines, have, appends) = (lines, have, Appends-kept old mid new lines appends k)

    pub stop_kept : (error : ProgramError) → StopsAt rules texts old mid error → StopsAt rules texts old new error
    stop_kept error (front, back, lines, e, have, part, all) = (
      front,
      back,
      lines,
      e,
      have,
      prefix_kept lines part,
      λ other. let (put, fails) = all other in (Appends-kept old mid new lines put k, fails),
    )

    -- with or without an error, the printed lines are a prefix
    pub begun :
        {U : Type 0} (r : Result U ProgramError) → OnOk r (PrintsAll rules texts old mid)
        → IfErr r (StopsAt rules texts old mid) → StopsAt rules texts old new Output
    begun (Ok x) (lines, have, appends) stopped = (
      texts,
      [],
      lines,
      sym (append-nil texts),
      have,
      (lines, [], append-nil lines, Appends-kept old mid new lines appends k),
      λ other. absurd (other refl),
    )
    begun (Err error) printed (front, back, lines, e, have, part, all) =
        (front, back, lines, e, have, prefix_kept lines part, λ other. absurd (other refl))

-- P holds of the rules and of the texts that the words name
pub has_rules :
    (words : List (String Global)) (rules : TextRulesValue) (texts : List (String Global))
    (P : TextRulesValue → List (String Global) → Type 0) → HasRules words (λ r t. (r ≡ rules) × (t ≡ texts))
    → P rules texts → HasRules words P
has_rules words rules texts P (first, others, is, some, (found, grammar, (same, equal))) p =
    let moved : P (text_rules found (named_tag (string_bytes first))) others = rw (same, equal) p in
    (first, others, is, some, (found, grammar, moved))
