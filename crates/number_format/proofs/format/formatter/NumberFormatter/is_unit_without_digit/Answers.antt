use Rattle.std.proofs.Common.{List, ℕ, ◌∙◌, subst}
use Rattle.std.specs.Prelude.{◌↔◌, IsTrue}
use Rattle.number_format.specs.CompactReading.{HasNoDigit}
use Rattle.number_format.proofs.format.formatter.NumberFormatter.is_unit_without_digit.Goals as goal

pub returns : goal.returns
returns c =
    subst (λ (t : List ℕ). IsTrue c.has_no_digit.result ↔ HasNoDigit c.args.self.now.style.symbols t)
    (c.as_bytes.ensures.value ∙ c.as_str.ensures.value ∙ c.unit_text-text.ensures) c.has_no_digit.ensures
