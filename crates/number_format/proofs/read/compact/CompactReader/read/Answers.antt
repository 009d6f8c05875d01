use Rattle.std.proofs.Common.{◌∙◌, ap}
use Rattle.std.specs.Prelude.{pos, ◌-ℤ◌}
use Rattle.locale_data.specs.declared.compact.CompactStyle.{CompactStyle}
use Rattle.number_format.specs.{declared.format.formatter.NumberFormatter.NumberFormatter, AffixedTexts.{Reader, shifted}}
use Rattle.number_format.proofs.read.compact.CompactReader.read.Goals as goal

pub returns : goal.returns
returns g c =
    let shift = ap (λ (r : Reader). r.shift) c.self.invariant.0.reader
    ∙ ap (λ (w : NumberFormatter × CompactStyle). pos 0 -ℤ w.0.options.scale) c.self.view_is in
    (c.read_shown.result, c.read_shown.ensures, c.undo_scale.ensures ∙ ap (λ z. shifted z c.read_shown.result) shift)
