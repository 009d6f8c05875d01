use Rattle.std.proofs.Common.{false, inl, inr, rules, subst, w16, FitsSigned}
use Rattle.std.specs.Prelude.{◌↔◌, IsTrue}
use Rattle.locale_data.specs.declared.compact.CompactStyle.{CompactStyle}
use Rattle.number_format.specs.{declared.{format.formatter.NumberFormatter.NumberFormatter, read.compact.keys.CompactKey.CompactKey}, CompactReading.{HasTextsOf, HidesSigns}}
use Rattle.number_format.proofs.lemmas.read.CompactOwn.{narrow_key}
use Rattle.number_format.proofs.read.compact.CompactReader.has_own_texts.Goals as goal

pub returns-then-hides_signs : goal.returns-then-hides_signs
returns-then-hides_signs c =
    let w = c.args.self.now in
    let k = record c.args.key { is_one = false } in
    let fits : FitsSigned w16 k.magnitude = search rules in
    let test = narrow_key
    (λ (x : CompactKey). IsTrue c.has_texts_of-then-hides_signs.result ↔ HasTextsOf w.0 w.1 c.args.pattern.now x) k fits
    c.has_texts_of-then-hides_signs.ensures in
    let hides = subst (λ (x : NumberFormatter × CompactStyle). HidesSigns x.0) c.self.view_is
    (c.hides_signs.ensures.0 c.if-hides_signs.true) in (
      λ t. inr (hides, test.0 t),
      λ has. elim has [
        | inl own ↦ let t = c.has_texts_of.ensures.1 own in absurd (cc (t, c.if-has_texts_of.false))
        | inr hidden ↦ test.1 hidden.1
      ],
    )
