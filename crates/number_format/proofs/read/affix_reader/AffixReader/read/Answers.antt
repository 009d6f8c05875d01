use Rattle.number_format.proofs.read.affix_reader.AffixReader.read.Goals as goal

pub returns : goal.returns
returns g c = (c.read_shown.result, c.read_shown.ensures, c.undo_scale.ensures)
