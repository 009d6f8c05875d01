use Rattle.cli.proofs.lemmas.lines.HeaderNames.{Placed}
use Rattle.cli.proofs.lines.headers.Header.named_fields.Given as goal

-- the words so far name the fields
abbrev pub invariant-loop-field : goal.invariant-loop-field
invariant-loop-field l = Placed l.self.trims l.self.field l.self.bytes.now l.named l.field-index l.fields.items
