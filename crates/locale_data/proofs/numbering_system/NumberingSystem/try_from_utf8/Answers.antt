use Rattle.std.proofs.Common.{◌≡◌, ◌≤◌, ◌++◌, Some, List, ℕ, true, drop, length, map, replicate, sym, subst, ap, ◌∙◌, arith}
use Rattle.std.specs.{Char.{is_ascii_alphanumeric, to_ascii_lowercase}, List.list_all}
use Rattle.locale_data.specs.{Codes.{padded, IsPaddedName}, Rows.unpadded}
use Rattle.locale_data.proofs.lemmas.currency_code.Letters.{padded_text, shown, is_padded, names}
use Rattle.locale_data.proofs.numbering_system.NumberingSystem.try_from_utf8.Goals as goal

-- the bytes that are made of a text are its name and spaces
made : (text copied bytes : List ℕ) → copied ≡ text
    → bytes ≡ map to_ascii_lowercase (copied ++ drop (length text) (replicate 8 32))
    → bytes ≡ padded (map to_ascii_lowercase text)
made text copied bytes same lower =
    lower ∙ ap (λ t. map to_ascii_lowercase (t ++ drop (length text) (replicate 8 32))) same ∙ padded_text text

pub invariant_of-result : goal.invariant_of-result
invariant_of-result c =
    let text = c.args.text.now in
    let long : 3 ≤ length text = omega (arith, c.if-text-lt3.false) in
    let short : length text ≤ 8 = omega (arith, c.if-text-gt8.false) in
    let all : list_all is_ascii_alphanumeric text ≡ true =
    sym c.are_alphanumeric.ensures ∙ c.if-not-are_alphanumeric.false in
    subst IsPaddedName
    (sym (made text _ _ c.copy_from_slice.ensures.after c.make_ascii_lowercase.ensures.after))
    (is_padded text long short all)

pub returns-clause-value : goal.returns-clause-value
returns-clause-value c =
    let text = c.args.text.now in
    let long : 3 ≤ length text = omega (arith, c.if-text-lt3.false) in
    let short : length text ≤ 8 = omega (arith, c.if-text-gt8.false) in
    let all : list_all is_ascii_alphanumeric text ≡ true =
    sym c.are_alphanumeric.ensures ∙ c.if-not-are_alphanumeric.false in
    let is = made text _ _ c.copy_from_slice.ensures.after c.make_ascii_lowercase.ensures.after in
    names text long short all ∙ ap Some (sym (ap unpadded is ∙ shown text long short all))
