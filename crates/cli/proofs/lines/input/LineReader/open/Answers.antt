use Rattle.cli.proofs.lemmas.program.Buffers.{new_reader}
use Rattle.cli.proofs.lines.input.LineReader.open.Goals as goal

pub returns-in-Ok-clause-remaining : goal.returns-in-Ok-clause-remaining
returns-in-Ok-clause-remaining g c =
    new_reader g.R.Read.remaining c.in-Ok.reader _ c.in-Ok.ensures.inner c.in-Ok.ensures.empty c.in-Ok.ensures.capacity
