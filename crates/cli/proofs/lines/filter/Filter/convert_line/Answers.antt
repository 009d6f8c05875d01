use Rattle.std.proofs.{Common.true, lemmas.Result.on_ok_weaker}
use Rattle.std.specs.Io.KnownBytes.{Appends}
use Rattle.decimal_digits.specs.AppendsPrefix.{AppendsPrefix}
use Rattle.cli.proofs.lemmas.lines.FieldLines.{one_line, whole_line}
use Rattle.cli.proofs.lines.filter.Filter.convert_line.Goals as goal

pub returns-then-not-self-clause-printed : goal.returns-then-not-self-clause-printed
returns-then-not-self-clause-printed g c =
    on_ok_weaker c.convert.result
    (whole_line c.args.self.now.trims c.args.number c.args.line.now c.args.conversion.now c.if-not-self.true
    (Appends (g.W.Sink.contents c.args.sink.now) (g.W.Sink.contents c.convert.new.sink)))
    c.convert.ensures.written

pub returns-then-not-self-clause-prefix : goal.returns-then-not-self-clause-prefix
returns-then-not-self-clause-prefix g c = λ is.
    whole_line c.args.self.now.trims c.args.number c.args.line.now c.args.conversion.now c.if-not-self.true
    (AppendsPrefix (g.W.Sink.contents c.args.sink.now) (g.W.Sink.contents c.convert.new.sink))
    (c.convert.ensures.prefix is)

pub returns-clause-prefix : goal.returns-clause-prefix
returns-clause-prefix g c = λ is.
    rw c.if-not-self.false
    (one_line true c.args.number c.args.line.now c.args.conversion.now c.body_bounds-body.result
    c.body_bounds-body.ensures.value
    (AppendsPrefix (g.W.Sink.contents c.args.sink.now) (g.W.Sink.contents c.convert_trimmed.new.sink))
    (c.convert_trimmed.ensures.prefix is))
