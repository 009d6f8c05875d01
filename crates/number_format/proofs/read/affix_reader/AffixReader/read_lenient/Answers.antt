use Rattle.number_format.proofs.read.affix_reader.AffixReader.read_lenient.Goals as goal

pub returns : goal.returns
returns g c = (c.read_typed.result, c.read_typed.ensures, c.undo_scale.ensures)
