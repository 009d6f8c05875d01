use Rattle.std.proofs.Common.{subst, refl}
use Rattle.number_format.specs.{FormattedNumbers.{formatted_number_pieces, formatted_number_text}, NumberText.AreNumberPieces}
use Rattle.number_format.proofs.format.formatter.NumberFormatter.write_to_block.Goals.{In_ok-round}
use Rattle.number_format.proofs.format.formatter.NumberFormatter.write_to_block.Goals as goal

-- the rounded number has the pieces of the value
pieces : (c : In_ok-round)
    → AreNumberPieces c.args.self.now c.args.value (formatted_number_pieces c.round.new.self)
pieces c =
    let shown = formatted_number_pieces c.round.new.self in
    let number = c.number-number in
    subst (λ v. AreNumberPieces c.args.self.now v shown) number.ensures.value
    (subst (λ f. AreNumberPieces f number.result.value shown) number.ensures.formatter c.in_ok-round.ensures.pieces)

pub returns-in-Ok-clause-ok : goal.returns-in-Ok-clause-ok
returns-in-Ok-clause-ok c =
    let shown = c.round.new.self in
    let are = pieces (goal.at.returns-in-Ok-clause-ok c).In_ok-round in
    (formatted_number_text shown, (formatted_number_pieces shown, are, refl), c.in-Ok.ensures)

pub returns-clause-ok : goal.returns-clause-ok
returns-clause-ok c =
    (formatted_number_pieces c.round.new.self, pieces (goal.at.returns-clause-ok c).In_ok-round, refl)
