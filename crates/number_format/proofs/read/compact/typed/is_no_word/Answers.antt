use Rattle.std.proofs.Common.{sym, ap}
use Rattle.std.specs.Str.{chars}
use Rattle.number_format.specs.NumberText.{is_empty}
use Rattle.number_format.proofs.lemmas.read.TypedTexts.{has_letter}
use Rattle.number_format.proofs.read.compact.typed.is_no_word.Goals as goal

pub returns-in-Some : goal.returns-in-Some
returns-in-Some c =
    sym (has_letter (chars c.args.text.now) (chars c.in-Some.field-0.1.now) c.in-Some.field-0.0 c.in-Some.ensures)

pub returns-in-None : goal.returns-in-None
returns-in-None c = sym (ap is_empty c.in-None.ensures)
