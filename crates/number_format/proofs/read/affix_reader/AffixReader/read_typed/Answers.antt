use Rattle.std.proofs.Common.{◌≡◌, Err, subst}
use Rattle.decimal_unsigned.specs.declared.error.ParseError.TheVariants.{Syntax}
use Rattle.decimal_format.specs.{Alternatives.{IsNumeralOfFirst, IsWrittenOfFirst}, Lenient.normalized, Reading.IsRead, Symbols.Symbols}
use Rattle.number_format.proofs.read.affix_reader.AffixReader.read_typed.Goals as goal

pub returns-in-Err-Syntax : goal.returns-in-Err-Syntax
returns-in-Err-Syntax g c =
    let symbols : c.self.inside.symbols ≡ c.args.self.now.symbols = cc in
    let text = c.args.text.now in
    let all = c.args.alternatives.now in (
      Err Syntax,
      rw (c.as_bytes.ensures.value, c.in-Err-Syntax.field-0-is) at c.in-Err-Syntax.ensures,
      subst (λ (s : Symbols). IsRead g.D.DigitStore.L (IsNumeralOfFirst s (normalized s text) all)
          (IsWrittenOfFirst s (normalized s text) all) c.read_alternatives.result) symbols c.read_alternatives.ensures,
    )
