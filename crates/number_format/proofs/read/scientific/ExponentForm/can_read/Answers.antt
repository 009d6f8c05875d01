use Rattle.std.proofs.Common.{sym, subst}
use Rattle.number_format.specs.ScientificReading.{IsSeparatorApart}
use Rattle.number_format.proofs.read.scientific.ExponentForm.can_read.Goals as goal

pub returns-in_default : goal.returns-in_default
returns-in_default c = (
  λ t. record {
    separator =
        subst (IsSeparatorApart c.args.symbols.now) c.as_bytes.ensures.value (c.is_separator_apart.ensures.0 t);
    signs = λ never. c.in_default.not-Never never;
  },
  λ can. c.is_separator_apart.ensures.1
      (subst (IsSeparatorApart c.args.symbols.now) (sym c.as_bytes.ensures.value) can.separator),
)
