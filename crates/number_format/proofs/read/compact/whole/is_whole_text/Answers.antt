use Rattle.std.proofs.Common.{◌≡◌, List, ℕ, ◌++◌, ◌∙◌, subst}
use Rattle.std.specs.Prelude.{◌↔◌, IsTrue}
use Rattle.number_format.proofs.read.compact.whole.is_whole_text.Goals as goal

pub returns : goal.returns
returns c =
    let prefix = c.as_bytes.ensures.value ∙ c.texts-affixes.ensures.prefix in
    let suffix = c.as_bytes-2.ensures.value ∙ c.texts-affixes.ensures.suffix in
    subst (λ (t : List ℕ). IsTrue c.are_joined.result ↔ (c.args.text.now ≡ t)) (λ i. prefix i ++ suffix i)
    c.are_joined.ensures
