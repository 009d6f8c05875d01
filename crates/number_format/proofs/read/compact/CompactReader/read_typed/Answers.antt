use Rattle.std.proofs.Common.{◌∙◌, Err, refl, ap}
use Rattle.std.specs.Prelude.{pos, ◌-ℤ◌}
use Rattle.decimal_unsigned.specs.declared.error.ParseError.{TheVariants.{Syntax, Limit, Memory}}
use Rattle.locale_data.specs.declared.compact.CompactStyle.{CompactStyle}
use Rattle.number_format.specs.{declared.format.formatter.NumberFormatter.NumberFormatter, AffixedTexts.{Reader, shifted}}
use Rattle.number_format.proofs.read.compact.CompactReader.read_typed.Goals as goal

pub returns-in-Err-Syntax : goal.returns-in-Err-Syntax
returns-in-Err-Syntax g c =
    let shift = ap (λ (r : Reader). r.shift) c.self.invariant.0.reader
    ∙ ap (λ (w : NumberFormatter × CompactStyle). pos 0 -ℤ w.0.options.scale) c.self.view_is in (
      Err Syntax,
      rw c.in-Err-Syntax.field-0-is at c.in-Err-Syntax.ensures,
      (
        c.read_any.result,
        c.read_any.ensures,
        c.undo_scale.ensures ∙ ap (λ z. shifted z c.read_any.result) shift,
      ),
    )

pub returns-in-Err-Limit : goal.returns-in-Err-Limit
returns-in-Err-Limit g c = (Err Limit, rw c.in-Err-Limit.field-0-is at c.in-Err-Limit.ensures, refl)

pub returns-in-Err-Memory : goal.returns-in-Err-Memory
returns-in-Err-Memory g c = (Err Memory, rw c.in-Err-Memory.field-0-is at c.in-Err-Memory.ensures, refl)
