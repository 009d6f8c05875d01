use Rattle.std.proofs.Common.{◌≢◌, [], refl, sym, ◌∙◌, subst, rules}
use Rattle.std.specs.Prelude.{◌↔◌, IsTrue}
use Rattle.decimal_format.specs.Readable.{BeginsWithDigit}
use Rattle.number_format.specs.AffixedTexts.{ArePrefixesApart}
use Rattle.number_format.proofs.lemmas.read.NamedAffixes.{Decides, apart_by_digit, none_is, prefixes_by_rest}
use Rattle.number_format.proofs.read.apart.are_prefixes_apart.Goals as goal

pub returns-in-None : goal.returns-in-None
returns-in-None c =
    let s = c.args.symbols.now in
    let p = c.args.first.now in
    let q = c.args.second.now in
    let e = subst (Decides (ArePrefixesApart s p q) (BeginsWithDigit s)) (sym c.or.ensures ∙ c.in-None.is)
    (prefixes_by_rest s p q c.strip_prefix.result c.strip_prefix-2.result (search rules) (search rules)) in
    (λ t. e, λ apart. refl)

pub returns-then-not-is_empty : goal.returns-then-not-is_empty
returns-then-not-is_empty c =
    let s = c.args.symbols.now in
    let p = c.args.first.now in
    let q = c.args.second.now in
    let e = subst (Decides (ArePrefixesApart s p q) (BeginsWithDigit s)) (sym c.or.ensures ∙ c.in-Some.is)
    (prefixes_by_rest s p q c.strip_prefix.result c.strip_prefix-2.result (search rules) (search rules)) in
    let some : c.in-Some.rest.now ≢ [] = search rules in
    let found = c.begins_with_digit.result in
    apart_by_digit (ArePrefixesApart s p q) (BeginsWithDigit s) c.in-Some.rest found e
    (rw c.as_bytes.ensures.value at c.as_bytes.ensures.utf8) some
    (subst (λ t. IsTrue found ↔ BeginsWithDigit s t) c.as_bytes.ensures.value c.begins_with_digit.ensures)

pub returns-else-not-is_empty : goal.returns-else-not-is_empty
returns-else-not-is_empty c =
    let s = c.args.symbols.now in
    let p = c.args.first.now in
    let q = c.args.second.now in
    let e = subst (Decides (ArePrefixesApart s p q) (BeginsWithDigit s)) (sym c.or.ensures ∙ c.in-Some.is)
    (prefixes_by_rest s p q c.strip_prefix.result c.strip_prefix-2.result (search rules) (search rules)) in
    let none = none_is c.in-Some.rest.now (sym c.is_empty.ensures ∙ c.if-not-is_empty.false) in
    (λ t. absurd (cc), λ apart. absurd ((e.1 apart).0 none))
