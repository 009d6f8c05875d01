use Rattle.std.proofs.Common.{arith, subst}
use Rattle.plural_rules.specs.declared.rules.PluralCategory.{PluralCategory}
use Rattle.number_format.specs.{CompactReading.category_at, WholeUnits.IsCategoryRead}
use Rattle.number_format.proofs.lemmas.read.{CompactKeys.{code, coded}, CompactPatterns.{all_of, one_more}, SaidNumbers.is_unread}
use Rattle.number_format.proofs.format.formatter.NumberFormatter.category_without_number.Goals as goal

pub returns-then-not-is_category_read : goal.returns-then-not-is_category_read
returns-then-not-is_category_read c =
    is_unread c.args.self.now c.category_at-category.result
    (λ read. let t = c.is_category_read.ensures.1 read in absurd (cc (t, c.if-not-is_category_read.true)))

pub loop-index-preserved : goal.loop-index-preserved
loop-index-preserved c =
    let f = c.args.self.now in
    one_more (λ i. IsCategoryRead f (category_at i)) c.loop-index.index c.loop-index.invariant
    (subst (IsCategoryRead f) c.category_at-category.ensures
    (c.is_category_read.ensures.0 c.if-not-is_category_read.false))

pub returns : goal.returns
returns c =
    let f = c.args.self.now in
    let all = all_of (λ i. IsCategoryRead f (category_at i)) c.loop-index.index 6 (omega arith)
    c.loop-index.invariant in
    λ (category : PluralCategory). subst (IsCategoryRead f) (coded category).1 (all (code category) (coded category).0)
