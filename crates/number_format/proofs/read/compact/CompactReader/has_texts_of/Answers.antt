use Rattle.std.proofs.Common.{refl, sym, ◌∙◌, ap, subst, arith, rules, w16, FitsSigned}
use Rattle.std.specs.Prelude.{◌↔◌, IsTrue}
use Rattle.plural_rules.specs.declared.rules.PluralCategory.{PluralCategory}
use Rattle.locale_data.specs.declared.compact.CompactStyle.{CompactStyle}
use Rattle.number_format.specs.{declared.{format.formatter.NumberFormatter.NumberFormatter, read.compact.keys.CompactKey.CompactKey}, CompactReading.{has_number_at, HasTextsAt}}
use Rattle.number_format.proofs.lemmas.read.{CompactOwn.{narrow_key, none_of, LacksTexts}, CompactPatterns.{all_of, one_more}}
use Rattle.number_format.proofs.read.compact.CompactReader.has_texts_of.Goals as goal

pub returns-then-not-has_number_in : goal.returns-then-not-has_number_in
returns-then-not-has_number_in c =
    let none = c.has_number_in.ensures
    ∙ ap (λ (x : NumberFormatter × CompactStyle). has_number_at x.0 x.1 c.args.key) c.self.view_is in
    (λ t. absurd (cc), λ has. absurd (let e = sym c.if-not-has_number_in.true ∙ none ∙ has.0 in cc))

pub returns-then-has_texts_at : goal.returns-then-has_texts_at
returns-then-has_texts_at c =
    let w = c.args.self.now in
    let p = c.args.pattern.now in
    let k = record c.args.key { whole = c.category_at.result } in
    let fits : FitsSigned w16 k.magnitude = search rules in
    let test = narrow_key
    (λ (x : CompactKey). IsTrue c.has_texts_at.result ↔ HasTextsAt w.0 w.1 p x) k fits c.has_texts_at.ensures in
    let has = sym (c.has_number_in.ensures
    ∙ ap (λ (x : NumberFormatter × CompactStyle). has_number_at x.0 x.1 c.args.key) c.self.view_is)
    ∙ c.if-not-has_number_in.false in
    (λ t. (has, (c.category_at.result, test.0 c.if-has_texts_at.true)), λ has. refl)

pub loop-index-preserved : goal.loop-index-preserved
loop-index-preserved c =
    let w = c.args.self.now in
    let p = c.args.pattern.now in
    let k = record c.args.key { whole = c.category_at.result } in
    let fits : FitsSigned w16 k.magnitude = search rules in
    let test = narrow_key
    (λ (x : CompactKey). IsTrue c.has_texts_at.result ↔ HasTextsAt w.0 w.1 p x) k fits c.has_texts_at.ensures in
    one_more (LacksTexts w.0 w.1 p c.args.key) c.loop-index.index c.loop-index.invariant
    (subst (λ (x : PluralCategory). ¬ HasTextsAt w.0 w.1 p (record c.args.key { whole = x }))
    c.category_at.ensures (λ e. let t = test.1 e in absurd (cc (t, c.if-has_texts_at.false))))

pub returns : goal.returns
returns c =
    let w = c.args.self.now in
    let p = c.args.pattern.now in
    none_of w.0 w.1 p c.args.key
    (all_of (LacksTexts w.0 w.1 p c.args.key) c.loop-index.index 6 (omega arith) c.loop-index.invariant)
