use Rattle.cli.specs.Headers.{NoneHas}
use Rattle.cli.proofs.lines.headers.Header.next_named.Given as goal

-- no field so far has the name
abbrev pub invariant-loop-index : goal.invariant-loop-index
invariant-loop-index l = NoneHas l.self.trims l.self.field l.self.bytes.now l.name l.from l.index
