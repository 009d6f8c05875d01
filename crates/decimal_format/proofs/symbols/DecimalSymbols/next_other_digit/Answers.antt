use Rattle.std.proofs.Common.{refl, sym, ◌∙◌}
use Rattle.decimal_format.proofs.lemmas.reader.Codes.{none_not_digit}
use Rattle.decimal_format.proofs.symbols.DecimalSymbols.next_other_digit.Goals as goal

pub returns-then-is_empty : goal.returns-then-is_empty
returns-then-is_empty g c = λ d rest below e.
    none_not_digit c.args.self.now c.requires d rest below (sym (c.if-is_empty.ensures.yes refl) ∙ e)
