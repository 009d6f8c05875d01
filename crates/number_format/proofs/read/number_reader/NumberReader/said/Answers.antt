use Rattle.std.proofs.Common.{◌≡◌, ◌∙◌, ap}
use Rattle.std.specs.Prelude.{Ok}
use Rattle.fixed_decimal.specs.declared.variations.Sign.{Sign}
use Rattle.number_format.specs.{AffixedTexts.shifted, NumberReading.NumberReader, WholeUnits.said}
use Rattle.number_format.proofs.read.number_reader.NumberReader.said.Goals as goal

pub returns : goal.returns
returns g c =
    let shift : c.self.inside.reader.shift ≡ c.args.self.now.texts.shift =
    ap (λ (r : NumberReader). r.texts.shift) c.self.view_is in
    let value : c.new-said.result ≡ said c.args.number =
    c.new-said.ensures ∙ (λ i. record { sign = Sign.None; absolute = c.from_u8-value.ensures.value i }) in
    c.undo_scale.ensures ∙ (λ i. shifted (shift i) (Ok (value i)))
