use Rattle.number_format.proofs.read.affix_reader.AffixReader.read_with_exponent.Goals as goal

pub returns : goal.returns
returns g c = (c.read_shown_exponent.result, c.read_shown_exponent.ensures, c.undo_scale.ensures)
