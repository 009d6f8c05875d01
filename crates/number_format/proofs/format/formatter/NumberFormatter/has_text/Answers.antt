use Rattle.std.proofs.Common.{◌≡◌, ◌++◌, subst}
use Rattle.std.specs.Prelude.{◌↔◌, IsTrue}
use Rattle.decimal_format.specs.Symbols.{Affixes}
use Rattle.number_format.specs.{CompactReading.{inner_at}, NumberText.outer_by}
use Rattle.number_format.proofs.lemmas.read.PatternLists.{joined_are}
use Rattle.number_format.proofs.format.formatter.NumberFormatter.has_text.Goals as goal

pub returns : goal.returns
returns c =
    let f = c.args.self.now in
    subst (λ (x : Affixes). IsTrue c.is_whole.result ↔ (c.args.text.now ≡ x.prefix ++ x.suffix))
    (joined_are c.outer_around-outer.result c.inner_at-inner.result (outer_by f c.args.key.whole)
    (inner_at f c.args.style c.args.key) c.outer_around-outer.ensures c.inner_at-inner.ensures) c.is_whole.ensures
