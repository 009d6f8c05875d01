use Rattle.std.proofs.Common.{◌≡◌, ap, rules, IsTrue, ◌↔◌}
use Rattle.fixed_decimal.proofs.lemmas.signed_decimal.DecimalTexts.{decimal_text_same}
use Rattle.fixed_decimal.specs.DecimalText.{decimal_text}
use Rattle.fixed_decimal.proofs.signed_decimal.equality.Signed+UnsignedOver+D.has_same_text.Goals as goal

pub returns-clause-texts : goal.returns-clause-texts
returns-clause-texts g c =
    let v = c.args.self.now in
    let w = c.args.other.now in
    let value : IsTrue c.eq.result ↔ (v ≡ w) = search rules in
    let distinct = decimal_text_same v w c.lowest.ensures.valid c.lowest-2.ensures.valid in
    (λ t. ap decimal_text (value.0 t), λ e. value.1 (distinct e))
