use Rattle.std.proofs.Common.{Ok, Err, refl, subst}
use Rattle.decimal_unsigned.specs.declared.error.ParseError.TheVariants.{Syntax, Limit, Memory}
use Rattle.locale_data.specs.declared.compact.CompactStyle.{CompactStyle}
use Rattle.number_format.specs.{declared.format.formatter.NumberFormatter.NumberFormatter, TypedWords.IsReadByWord}
use Rattle.number_format.proofs.read.compact.CompactReader.read_lenient.Goals as goal

pub returns-in-Ok : goal.returns-in-Ok
returns-in-Ok g c = (Ok c.in-Ok.value, rw c.as_bytes.ensures.value at c.in-Ok.ensures, refl)

pub returns-in-Err-Syntax : goal.returns-in-Err-Syntax
returns-in-Err-Syntax g c = (
  Err Syntax,
  rw (c.as_bytes.ensures.value, c.in-Err-Syntax.field-0-is) at c.in-Err-Syntax.ensures,
  (
    c.read_typed_word.result,
    subst (λ (w : NumberFormatter × CompactStyle). IsReadByWord g.D.DigitStore.L w.0 w.1 c.args.plain.now
        c.args.alternatives.now c.args.text.now c.read_typed_word.result) c.self.view_is c.read_typed_word.ensures,
    c.undo_scale.ensures,
  ),
)

pub returns-in-Err-Limit : goal.returns-in-Err-Limit
returns-in-Err-Limit g c =
    (Err Limit, rw (c.as_bytes.ensures.value, c.in-Err-Limit.field-0-is) at c.in-Err-Limit.ensures, refl)

pub returns-in-Err-Memory : goal.returns-in-Err-Memory
returns-in-Err-Memory g c =
    (Err Memory, rw (c.as_bytes.ensures.value, c.in-Err-Memory.field-0-is) at c.in-Err-Memory.ensures, refl)
