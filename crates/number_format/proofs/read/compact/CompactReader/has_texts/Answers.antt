use Rattle.std.proofs.Common.{◌≡◌, ◌∙◌, ap, subst}
use Rattle.std.specs.Prelude.{◌↔◌, IsTrue}
use Rattle.locale_data.specs.declared.compact.CompactStyle.{CompactStyle}
use Rattle.number_format.specs.{declared.format.formatter.NumberFormatter.NumberFormatter, CompactReading.{inner_at, word_pattern}, NumberText.outer_by}
use Rattle.number_format.proofs.lemmas.read.PatternLists.{joined_are}
use Rattle.number_format.proofs.read.compact.CompactReader.has_texts.Goals as goal

pub returns : goal.returns
returns c =
    let s = c.self.inside in
    subst (λ x. IsTrue c.is_around.result ↔ (c.args.pattern.now.affixes ≡ x))
    (joined_are c.outer_around-outer.result c.inner_at-inner.result (outer_by s.formatter c.args.key.whole)
    (inner_at s.formatter s.style c.args.key) c.outer_around-outer.ensures c.inner_at-inner.ensures
    ∙ ap (λ (w : NumberFormatter × CompactStyle). (word_pattern w.0 w.1 c.args.key).affixes) c.self.view_is)
    c.is_around.ensures
