use Rattle.std.proofs.{Common.{arith, rules, true}, Output.has_written_styled_append}
use Rattle.number_format.specs.TextParts.{first_pieces}
use Rattle.number_format.proofs.lemmas.format.Fractions.{text-more}
use Rattle.number_format.proofs.format.fraction.fmt_fraction.Goals as goal

pub loop-below-init : goal.loop-below-init
unfolding first_pieces
loop-below-init g c = search rules

pub loop-below-preserved : goal.loop-below-preserved
loop-below-preserved g c =
    let f = c.args.digits.now in
    let more = text-more f.symbols f.strategy f.value true c.loop-below.below in
    grind (arith, has_written_styled_append, more)
