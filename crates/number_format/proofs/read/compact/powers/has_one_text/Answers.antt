use Rattle.std.proofs.Common.{◌≡◌}
use Rattle.std.specs.Prelude.{◌↔◌, IsTrue}
use Rattle.number_format.proofs.read.compact.powers.has_one_text.Goals as goal

pub returns : goal.returns
returns c = λ t sign power.
    let texts = c.texts.ensures in
    let others = c.texts-2.ensures in
    let test : IsTrue c.are_same.result ↔ (c.args.first.now.affixes ≡ c.args.second.now.affixes) =
    rw (texts.prefix, texts.suffix, others.prefix, others.suffix) at c.are_same.ensures in
    test.0 t
