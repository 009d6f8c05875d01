use Rattle.std.proofs.Common.{◌∙◌}
use Rattle.number_format.specs.FormattedNumbers.{formatted_number_pieces}
use Rattle.fixed_decimal_c.proofs.lemmas.parts.PartLists.{no_failure, of_all, counted, filled}
use Rattle.fixed_decimal_c.proofs.parts.PartList.take.Goals as goal

pub returns-clause-same_array : goal.returns-clause-same_array
returns-clause-same_array c =
    let pieces = formatted_number_pieces c.args.number.now in
    let puts = no_failure c.parts.result c.parts.ensures.pieces c.parts.ensures.failed in
    (of_all _ _ _ _ _ _ _ _ pieces puts c.requires.empty c.requires.first c.requires.counted).0

pub returns-clause-count : goal.returns-clause-count
returns-clause-count c =
    let pieces = formatted_number_pieces c.args.number.now in
    let puts = no_failure c.parts.result c.parts.ensures.pieces c.parts.ensures.failed in
    let whole = of_all _ _ _ _ _ _ _ _ pieces puts c.requires.empty c.requires.first c.requires.counted in
    counted _ _ _ pieces whole.2

pub returns-clause-parts : goal.returns-clause-parts
returns-clause-parts c = λ fits.
    let pieces = formatted_number_pieces c.args.number.now in
    let puts = no_failure c.parts.result c.parts.ensures.pieces c.parts.ensures.failed in
    let whole = of_all _ _ _ _ _ _ _ _ pieces puts c.requires.empty c.requires.first c.requires.counted in
    filled _ _ _ pieces whole.2 (whole.1 ∙ fits)
