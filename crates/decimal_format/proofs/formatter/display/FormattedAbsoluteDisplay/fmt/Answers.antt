use Rattle.std.proofs.{Common.arith, Output.{has_written_styled_nil, has_written_styled_append, has_written_styled_of_eq}}
use Rattle.decimal_format.specs.Formatted.{formatted_down}
use Rattle.decimal_format.proofs.lemmas.formatter.Magnitudes.{first_magnitudes, one_more}
use Rattle.decimal_format.proofs.formatter.display.FormattedAbsoluteDisplay.fmt.Goals as goal

pub loop-below-init : goal.loop-below-init
unfolding formatted_down
loop-below-init g c = λ flush. has_written_styled_nil g.W.Write.write_str_gives c.args.f.now flush

pub loop-below-preserved : goal.loop-below-preserved
loop-below-preserved g c =
    grind (arith, has_written_styled_of_eq, first_magnitudes, one_more, has_written_styled_append)

pub returns : goal.returns
returns g c = grind (arith, first_magnitudes)
