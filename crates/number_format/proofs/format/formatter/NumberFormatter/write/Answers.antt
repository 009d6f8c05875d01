use Rattle.std.proofs.Common.{subst, refl}
use Rattle.number_format.specs.{FormattedNumbers.{formatted_number_pieces, formatted_number_text}, NumberText.AreNumberPieces}
use Rattle.number_format.proofs.format.formatter.NumberFormatter.write.Goals as goal

pub returns-clause-prefix : goal.returns-clause-prefix
returns-clause-prefix g c h =
    let shown = c.round.new.self in
    let number = c.number-number.ensures in
    let pieces = subst (λ v. AreNumberPieces c.args.self.now v (formatted_number_pieces shown)) number.value
    (subst (λ f. AreNumberPieces f c.number-number.result.value (formatted_number_pieces shown)) number.formatter
    c.in_default.ensures.pieces) in
    (formatted_number_text shown, (formatted_number_pieces shown, pieces, refl), c.in-Err-write_to.ensures.err)
