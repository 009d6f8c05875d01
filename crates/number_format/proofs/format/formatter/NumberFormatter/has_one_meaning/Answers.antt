use Rattle.std.proofs.Common.{ℕ, refl, subst, arith}
use Rattle.std.specs.Prelude.{◌↔◌, IsTrue}
use Rattle.number_format.specs.CompactReading.{key_at, word_pattern, HasMeaningOf}
use Rattle.number_format.proofs.lemmas.read.CompactPatterns.{all_of, fails_at, one_meaning, one_more}
use Rattle.number_format.proofs.format.formatter.NumberFormatter.has_one_meaning.Goals as goal

pub returns-then-not-has_meaning_of : goal.returns-then-not-has_meaning_of
returns-then-not-has_meaning_of c =
    let f = c.args.self.now in
    let style = c.args.style in
    let p = word_pattern f style c.args.key in
    let test = subst (λ k. IsTrue c.has_meaning_of.result ↔ HasMeaningOf f style p k) c.key_at.ensures
    c.has_meaning_of.ensures in
    let fails = fails_at (λ (i : ℕ). HasMeaningOf f style p (key_at i)) c.loop-index.index 3888 c.has_meaning_of.result
    (omega arith) test c.if-not-has_meaning_of.true in
    let each = one_meaning f style c.requires p in
    (λ t. each.0 (fails.0 t), λ h. fails.1 (each.1 h))

pub loop-index-preserved : goal.loop-index-preserved
loop-index-preserved c =
    let f = c.args.self.now in
    let style = c.args.style in
    let p = word_pattern f style c.args.key in
    let test = subst (λ k. IsTrue c.has_meaning_of.result ↔ HasMeaningOf f style p k) c.key_at.ensures
    c.has_meaning_of.ensures in
    one_more (λ (i : ℕ). HasMeaningOf f style p (key_at i)) c.loop-index.index c.loop-index.invariant
    (test.0 c.if-not-has_meaning_of.false)

pub returns : goal.returns
returns c =
    let f = c.args.self.now in
    let style = c.args.style in
    let p = word_pattern f style c.args.key in
    let all = all_of (λ (i : ℕ). HasMeaningOf f style p (key_at i)) c.loop-index.index 3888 (omega arith)
    c.loop-index.invariant in
    let each = one_meaning f style c.requires p in
    (λ t. each.0 all, λ h. refl)
